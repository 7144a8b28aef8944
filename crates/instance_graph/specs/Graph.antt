-- A graph of instances: its edges, and the meaning of ranks and needs.
use Rattle.std.specs.Prelude.{◌≡◌, ℕ, ◌+◌, ◌<◌, ◌≤◌, List, length, Some, Contains, slice_get}
use Rattle.instance_graph.specs.declared.graph.Entered.{Entered}
use Rattle.instance_graph.specs.declared.graph.GraphInst.{GraphInst}
use Rattle.instance_graph.specs.declared.graph.ClosedNode.{ClosedNode}

-- instance i enters another by this edge
pub record EntersAlong (gs : List GraphInst) (i : ℕ) (e : Entered) : Type 0 where
  pub inst : GraphInst
  pub is : slice_get gs i ≡ Some inst
  pub has : Contains inst.entered e

-- a node of instance i with a closed stack pointer
pub record HasClosedNode (gs : List GraphInst) (i : ℕ) (p : ClosedNode) : Type 0 where
  pub inst : GraphInst
  pub is : slice_get gs i ≡ Some inst
  pub has : Contains inst.offsets p

-- the second instance is entered from the first by one or more edges
pub data ReachesBy (gs : List GraphInst) : ℕ → ℕ → Type 0 where
  once : (i : ℕ) (e : Entered) → EntersAlong gs i e → ReachesBy gs i e.into
  more : (i j : ℕ) (e : Entered) → EntersAlong gs i e → ReachesBy gs e.into j → ReachesBy gs i j

-- an instance's rank is above that of each instance that it enters
abbrev pub AreGraphRanks : List GraphInst → (ℕ → ℕ) → Type 0
AreGraphRanks gs rank = (i : ℕ) (e : Entered) → EntersAlong gs i e → rank e.into < rank i

-- An instance's need is at least the offset of each of its nodes whose stack pointer is whole. For each instance that it enters, it is at
-- least the offset there, the bytes of a return address, and the need of that instance.
pub record AreGraphNeeds (back : ℕ) (gs : List GraphInst) (need : ℕ → ℕ) : Type 0 where
  pub offsets : (i : ℕ) (p : ClosedNode) → HasClosedNode gs i p → p.offset ≤ need i
  pub entered : (i : ℕ) (e : Entered) → EntersAlong gs i e → e.offset + back + need e.into ≤ need i

-- a valid graph: 1 to 65,537 instances, each entered instance among them, each offset at most 32,768
pub record IsGraph (gs : List GraphInst) : Type 0 where
  pub some : 0 < length gs
  pub few : length gs ≤ 65537
  pub offsets : (i : ℕ) (p : ClosedNode) → HasClosedNode gs i p → p.offset ≤ 32768
  pub edges : (i : ℕ) (e : Entered) → EntersAlong gs i e → e.offset ≤ 32768
  pub within : (i : ℕ) (e : Entered) → EntersAlong gs i e → e.into < length gs
