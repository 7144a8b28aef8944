-- The explanation of a certificate: the deepest chain over the reached nodes, and the path to each point. Source: own.
use Rattle.std.specs.Prelude.{ℕ, ◌+◌, ◌≡◌, ⊤, List, [], ◌∷◌, ◌++◌, Option, Some, None, slice_get}
use Rattle.avr_model.specs.Devices.{device_of, back_of}
use Rattle.node_keys.specs.Keys.{root_inst, offset_of}
use Rattle.local_rules.specs.declared.local.Node.{Node}
use Rattle.edge_rules.specs.Expansion.{IsFilled}
use Rattle.instance_graph.specs.declared.graph.Link.{Link}
use Rattle.instance_graph.specs.declared.graph.GraphWay.{GraphWay}
use Rattle.instance_graph.specs.declared.graph.GraphWay.TheVariants.{Enters, Recur}
use Rattle.certificate.specs.Claims.{Claim}
use Rattle.family_graph.specs.Chains.{IsDeepest}
use Rattle.chain_explain.specs.declared.explanation.Explanation.{Explanation}
use Rattle.chain_explain.specs.declared.explanation.Part.{Part}
use Rattle.chain_explain.specs.declared.explanation.PartPoint.TheVariants as point
use Rattle.chain_explain.specs.Reached.{AreReached}
use Rattle.chain_explain.specs.Walks.{IsWay}
use Rattle.local_rules.specs.Site.{Task}

-- the bytes of a link: its offset, and the `back` bytes of a return address if the chain goes on into another instance
abbrev pub adds_by : ℕ → ℕ → Option GraphWay → ℕ
adds_by back offset None = offset
adds_by back offset (Some way) = offset + back

-- the part for a link of the chain at a node of the reached nodes
pub record IsNodePart (task : Task) (nodes reached : List Node) (link : Link) (part : Part) : Type 0 where
  pub node : Node
  pub at : slice_get reached link.node ≡ Some node
  pub inst : part.inst ≡ node.key.inst
  pub walk : List ℕ
  pub point : part.point ≡ point.Node node.key.pc walk
  pub adds : part.adds ≡ adds_by (back_of (device_of task.flash)) (offset_of node.key.sp) link.way
  pub target : ℕ
  pub is : slice_get nodes target ≡ Some node
  pub way : IsWay task nodes node.key.inst target walk

-- the word with which the instance of the first link begins
abbrev pub entry_at : Option Node → ℕ
entry_at None = 0
entry_at (Some n) = n.key.inst.entry

abbrev pub entry_next : List Node → List Link → ℕ
entry_next reached [] = 0
entry_next reached (link ∷ links) = entry_at (slice_get reached link.node)

-- the part for a recur link of the chain, which these links follow
pub record IsRecurPart (back : ℕ) (reached : List Node) (link : Link) (rest : List Link) (part : Part) : Type 0 where
  pub inst : part.inst ≡ root_inst
  pub point : part.point ≡ point.Recur (entry_next reached rest)
  pub adds : part.adds ≡ link.depth + back

abbrev pub IsPartBy : Task → List Node → List Node → Link → List Link → Part → Option GraphWay → Type 0
IsPartBy task nodes reached link rest part (Some Recur) = IsRecurPart (back_of (device_of task.flash)) reached link rest part
IsPartBy task nodes reached link rest part (Some (Enters kind)) = IsNodePart task nodes reached link part
IsPartBy task nodes reached link rest part None = IsNodePart task nodes reached link part

abbrev pub IsPart : Task → List Node → List Node → Link → List Link → Part → Type 0
IsPart task nodes reached link rest part = IsPartBy task nodes reached link rest part link.way

-- one part for each link; the last of them these links follow
abbrev pub AreParts : Task → List Node → List Node → List Link → List Link → List Part → Type 0
AreParts task nodes reached [] behind [] = ⊤
AreParts task nodes reached [] behind (part ∷ parts) = ⊥
AreParts task nodes reached (link ∷ links) behind [] = ⊥
AreParts task nodes reached (link ∷ links) behind (part ∷ parts) =
    IsPart task nodes reached link (links ++ behind) part × AreParts task nodes reached links behind parts

-- The root's least need over the reached nodes of the family, and the chain by these needs.
pub record Explains (task : Task) (nodes : List Node) (x : Explanation) : Type 0 where
  pub reached : List Node
  pub are_reached : AreReached task nodes reached
  pub links : List Link
  pub deepest : IsDeepest task reached x.least links
  pub parts : AreParts task nodes reached links [] x.parts

-- the explanation of a certificate's family
pub record IsExplanation (task : Task) (c : Claim) (x : Explanation) : Type 0 where
  pub nodes : List Node
  pub filled : IsFilled task c.nodes nodes
  pub explains : Explains task nodes x
