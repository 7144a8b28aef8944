-- The next step of a chain: the first among those visited so far.
use Rattle.std.specs.Prelude.{◌++◌, ◌≡◌, ℕ, ◌+◌, ◌<◌, ◌≤◌, length, List, Option, MatchOption, Contains, slice_index}
use Rattle.instance_graph.specs.declared.chaining.ChainTurn.{ChainTurn}
use Rattle.instance_graph.specs.declared.chaining.ChainTurn.TheVariants.{Ends, Enters}
use Rattle.instance_graph.specs.declared.graph.Entered.{Entered}
use Rattle.instance_graph.specs.declared.graph.GraphInst.{GraphInst}
use Rattle.instance_graph.specs.declared.graph.Link.{Link}
use Rattle.instance_graph.specs.declared.graph.ClosedNode.{ClosedNode}
use Rattle.instance_graph.specs.Graph.{AreGraphNeeds}
use Rattle.instance_graph.specs.Chain.{IsFirst, IsNodeUpTo, IsEdgeUpTo, IsDeepNode, IsDeepEdge, IsChainFrom, IsChain, HasSome}

-- the first item of the list with the property, if any has it
abbrev pub IsBest : {X : Type 0} → (X → Type 0) → (X → X → Type 0) → List X → Option X → Type 0
IsBest {X} Is IsUpTo xs best = MatchOption best ((y : X) → Contains xs y → Is y → ⊥) (IsFirst (λ x. Contains xs x × Is x) IsUpTo)

-- the first closed node of this offset
abbrev pub IsBestNode : ℕ → List ClosedNode → Option ClosedNode → Type 0
IsBestNode need = IsBest (λ p. p.offset ≡ need) IsNodeUpTo

-- the first edge with this need, if a return address takes `back` bytes
abbrev pub IsBestEdge : ℕ → List GraphInst → List ℕ → ℕ → List Entered → Option Entered → Type 0
IsBestEdge back gs needs need = IsBest (λ e. e.offset + back + slice_index needs e.into ≡ need) (IsEdgeUpTo gs)

-- the next step of the chain from instance i
abbrev pub IsTurn : ℕ → List GraphInst → List ℕ → ℕ → ChainTurn → Type 0
IsTurn back gs needs i (Ends p) = IsFirst (IsDeepNode gs needs i) IsNodeUpTo p
IsTurn back gs needs i (Enters e) = ((p : ClosedNode) → IsDeepNode gs needs i p → ⊥) × IsFirst (IsDeepEdge back gs needs i) (IsEdgeUpTo gs) e

-- needs, the least ones
pub record AreLeastNeeds (back : ℕ) (gs : List GraphInst) (needs : List ℕ) : Type 0 where
  pub same : length needs ≡ length gs
  pub are : AreGraphNeeds back gs (slice_index needs)
  pub least : (need : ℕ → ℕ) → AreGraphNeeds back gs need → (i : ℕ) → i < length gs → slice_index needs i ≤ need i

-- The chain from the root is these links, followed by the chain from instance i, whose base is `above` bytes below the root's.
pub record IsOnWay (back : ℕ) (gs : List GraphInst) (needs : List ℕ) (i above : ℕ) (links : List Link) : Type 0 where
  pub inside : i < length gs
  pub closed : HasSome gs i
  pub depth : above + slice_index needs i ≡ slice_index needs 0
  pub whole : (rest : List Link) → IsChainFrom back gs needs i above rest → IsChain back gs needs (links ++ rest)
