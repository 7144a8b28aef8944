-- Laws of the graphs of families and of their deepest chains.
use Rattle.std.specs.Prelude.{ℕ, ◌≡◌, ◌≤◌, List}
use Rattle.local_rules.specs.declared.local.Node.{Node}
use Rattle.instance_graph.specs.declared.graph.GraphInst.{GraphInst}
use Rattle.instance_graph.specs.declared.graph.Link.{Link}
use Rattle.instance_graph.specs.Chain.{IsChain}
use Rattle.instance_graph.specs.Least.{IsLeast}
use Rattle.certificate.specs.Claims.{Claim}
use Rattle.certificate.specs.Valid.{MeetsConditions}
use Rattle.family_graph.specs.Graphs.{IsGraphOf}
use Rattle.family_graph.specs.Chains.{IsDeepest, BeginsAtRoot}
use Rattle.local_rules.specs.Site.{Task}

-- Two graphs of a family have the same least ranks and needs, and the same deepest chain, however many bytes a return address takes.
pub record GraphsAreAlike : Type 0 where
  pub least : (task : Task) (nodes : List Node) (gs hs : List GraphInst) (back : ℕ) (ranks needs : List ℕ) → IsGraphOf task nodes gs → IsGraphOf task nodes hs
      → IsLeast back hs ranks needs → IsLeast back gs ranks needs
  pub chain : (task : Task) (nodes : List Node) (gs hs : List GraphInst) (back : ℕ) (needs : List ℕ) (links : List Link) → IsGraphOf task nodes gs
      → IsGraphOf task nodes hs → IsChain back hs needs links → IsChain back gs needs links

-- a family has one deepest chain, and the root one least need
pub record DeepestChainsAreOne : Type 0 where
  pub need : (task : Task) (nodes : List Node) (need need' : ℕ) (links links' : List Link) → IsDeepest task nodes need links → IsDeepest task nodes need' links'
      → need ≡ need'
  pub links : (task : Task) (nodes : List Node) (need need' : ℕ) (links links' : List Link) → IsDeepest task nodes need links → IsDeepest task nodes need' links'
      → links ≡ links'

-- if a certificate's conditions hold of a family, the root's least need is at most its bound, and chains begin at the root
pub record DeepestChainsAreBounded : Type 0 where
  pub need : (task : Task) (c : Claim) (nodes : List Node) (need : ℕ) (links : List Link) → MeetsConditions task c nodes → IsDeepest task nodes need links → need ≤ c.bound
  pub root : (task : Task) (c : Claim) (nodes : List Node) → MeetsConditions task c nodes → BeginsAtRoot task nodes
