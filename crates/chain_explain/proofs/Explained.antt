-- The computed parts are the explanation.
use Rattle.std.proofs.Common.{◌≡◌, subst, ℕ, ◌≤◌, List, []}
use Rattle.node_keys.specs.Keys.{root_inst, entry_key}
use Rattle.local_rules.specs.declared.local.Node.{Node}
use Rattle.local_laws.specs.Laws.{HasKey}
use Rattle.edge_rules.specs.Expansion.{IsFilled}
use Rattle.edge_laws.specs.Expansions.{FilledOrMissing}
use Rattle.instance_graph.specs.declared.graph.Link.{Link}
use Rattle.certificate.specs.Claims.{Claim}
use Rattle.certificate.specs.Valid.{MeetsConditions}
use Rattle.round_laws.specs.Reached.{RoundsAreReached}
use Rattle.family_graph.specs.Chains.{IsDeepest, BeginsAtRoot}
use Rattle.family_graph.specs.Laws.{DeepestChainsAreBounded}
use Rattle.chain_explain.specs.declared.explanation.Explanation.{Explanation}
use Rattle.chain_explain.specs.declared.explanation.Part.{Part}
use Rattle.chain_explain.specs.Reached.{AreReached}
use Rattle.chain_explain.specs.Explanation.{AreParts, Explains, IsExplanation}
use Rattle.chain_explain.specs.Told.{sum_of, Nest, IsOfRounds}
use Rattle.chain_explain.specs.Laws.{ExplanationsTell}
use Rattle.chain_explain.proofs.Chains as chains
use Rattle.chain_explain.proofs.Conditions.{meets_reached}
use Rattle.chain_explain.proofs.Stepped.{reset_has}
use Rattle.chain_explain.proofs.Rounds.{least_is_bound}
use Rattle.local_rules.specs.Site.{Task}

module _ (task : Task) (c : Claim) (nodes : List Node) (filled : IsFilled task c.nodes nodes) (reached : List Node) (are : AreReached task nodes reached)
    (need : ℕ) (links : List Link) (deepest : IsDeepest task reached need links) (root : BeginsAtRoot task reached) (given : List Link) (same : given ≡ links)
    (parts : List Part) (are_parts : AreParts task nodes reached given [] parts) where
  abbrev pub told : Explanation
  told = record { least = need; parts = parts }

  abbrev pub explains : Explains task nodes told
  explains =
      record {
        reached = reached;
        are_reached = are;
        links = links;
        deepest = deepest;
        parts = subst (λ (ls : List Link). AreParts task nodes reached ls [] parts) same are_parts;
      }

  pub exact : IsExplanation task c told
  exact = record { nodes = nodes; filled = filled; explains = explains }

  pub sums : sum_of parts ≡ need
  sums = chains.sums task nodes told explains

  pub nests : Nest task c parts
  nests = chains.nests task nodes told explains c filled root

  pub least : FilledOrMissing → RoundsAreReached → HasKey nodes (entry_key root_inst) → need ≤ c.bound → IsOfRounds task c → need ≡ c.bound
  least one law reset under of = least_is_bound one law task c nodes told filled reset explains root under of

pub tells : FilledOrMissing → RoundsAreReached → DeepestChainsAreBounded → ExplanationsTell
tells filled rounds chains_bounded task c x sound is =
    let meets = subst (MeetsConditions task c) (filled.one task c.nodes sound.nodes is.nodes sound.expanded is.filled) sound.meets in
    let over = meets_reached task is.nodes is.explains.reached is.explains.are_reached c meets in
    let root : BeginsAtRoot task is.explains.reached = chains_bounded.root task c is.explains.reached over in
    let under : x.least ≤ c.bound = chains_bounded.need task c is.explains.reached x.least is.explains.links over is.explains.deepest in
    record {
      sums = chains.sums task is.nodes x is.explains;
      bounded = under;
      least = λ of. least_is_bound filled rounds task c is.nodes x is.filled (reset_has task.assumptions is.nodes meets.reset) is.explains root under of;
      nests = chains.nests task is.nodes x is.explains c is.filled root;
    }
