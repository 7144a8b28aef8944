-- Laws of ranks, needs and chains; each answer is the only one.
use Rattle.std.specs.Prelude.{◌≡◌, ℕ, ◌+◌, ◌≤◌, List, [], ◌∷◌, ◌++◌, None, slice_index}
use Rattle.instance_graph.specs.declared.graph.Entered.{Entered}
use Rattle.instance_graph.specs.declared.graph.GraphInst.{GraphInst}
use Rattle.instance_graph.specs.declared.graph.Link.{Link}
use Rattle.instance_graph.specs.declared.graph.ClosedNode.{ClosedNode}
use Rattle.instance_graph.specs.Chain.{IsChain}
use Rattle.instance_graph.specs.Cycle.{IsNamed}
use Rattle.instance_graph.specs.Graph.{EntersAlong, HasClosedNode, ReachesBy, AreGraphRanks, AreGraphNeeds}
use Rattle.instance_graph.specs.Least.{IsLeast}

-- Nested entries from instance i on lower the stack pointer by this many bytes below its base: at a closed node of its own, or through an
-- edge, with the `back` bytes of a return address, and on from the entered instance.
pub data Nests (back : ℕ) (gs : List GraphInst) : ℕ → ℕ → Type 0 where
  here : (i : ℕ) (p : ClosedNode) → HasClosedNode gs i p → Nests back gs i p.offset
  deeper : (i depth : ℕ) (e : Entered) → EntersAlong gs i e → Nests back gs e.into depth → Nests back gs i (e.offset + back + depth)

-- if ranks exist, no instance is on a cycle
abbrev pub RanksRuleOutCycles : Type 0
RanksRuleOutCycles = (gs : List GraphInst) (rank : ℕ → ℕ) → AreGraphRanks gs rank → (i : ℕ) → ReachesBy gs i i → ⊥

-- An instance's need bounds all nested entries from it.
abbrev pub NeedsBoundNesting : Type 0
NeedsBoundNesting = (back : ℕ) (gs : List GraphInst) (need : ℕ → ℕ) → AreGraphNeeds back gs need → (i depth : ℕ) → Nests back gs i depth → depth ≤ need i

-- least ranks and needs are unique, and so is the named instance
pub record LeastNeedsAreOne : Type 0 where
  pub ranks : (back : ℕ) (gs : List GraphInst) (ranks needs ranks' needs' : List ℕ) → IsLeast back gs ranks needs → IsLeast back gs ranks' needs' → ranks ≡ ranks'
  pub needs : (back : ℕ) (gs : List GraphInst) (ranks needs ranks' needs' : List ℕ) → IsLeast back gs ranks needs → IsLeast back gs ranks' needs' → needs ≡ needs'
  pub named : (gs : List GraphInst) (a b : ℕ) → IsNamed gs a → IsNamed gs b → a ≡ b

-- the depth at the end of the links
pub record EndsAt (links : List Link) (depth : ℕ) : Type 0 where
  pub front : List Link
  pub end : Link
  pub is : links ≡ front ++ end ∷ []
  pub last : end.way ≡ None
  pub deep : end.depth ≡ depth

-- a chain ends at the depth of the root's need, so the need is attained
pub record ChainsReachTheNeed : Type 0 where
  pub ends : (back : ℕ) (gs : List GraphInst) (needs : List ℕ) (links : List Link) → IsChain back gs needs links → EndsAt links (slice_index needs 0)
  pub nests : (back : ℕ) (gs : List GraphInst) (needs : List ℕ) (links : List Link) → IsChain back gs needs links → Nests back gs 0 (slice_index needs 0)

-- the chain is unique
abbrev pub ChainsAreOne : Type 0
ChainsAreOne = (back : ℕ) (gs : List GraphInst) (needs : List ℕ) (links links' : List Link) → IsChain back gs needs links → IsChain back gs needs links' → links ≡ links'
