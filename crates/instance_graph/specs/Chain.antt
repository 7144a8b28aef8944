-- The deepest chain: the nested calls and interrupts at the greatest depth.
use Rattle.std.specs.Prelude.{◌≡◌, ◌≢◌, ℕ, ◌+◌, ◌≤◌, List, [], ◌∷◌, ◌++◌, Option, Some, None, slice_get, slice_index}
use Rattle.std.specs.Int.{from_bool}
use Rattle.std.specs.Cmp.Lexicographic.{slice_cmp}
use Rattle.std.specs.Ordering.{nat_cmp}
use Rattle.std.specs.declared.cmp.Ordering.{Ordering}
use Rattle.std.specs.declared.cmp.Ordering.TheVariants.{Less}
use Rattle.node_keys.specs.declared.keys.EdgeKind.{EdgeKind}
use Rattle.node_keys.specs.declared.keys.EdgeKind.TheVariants.{Local, Call, Interrupt, Return}
use Rattle.instance_graph.specs.declared.graph.Entered.{Entered}
use Rattle.instance_graph.specs.declared.graph.GraphWay.{GraphWay}
use Rattle.instance_graph.specs.declared.graph.GraphWay.TheVariants.{Enters, Recur}
use Rattle.instance_graph.specs.declared.graph.GraphInst.{GraphInst}
use Rattle.instance_graph.specs.declared.graph.Link.{Link}
use Rattle.instance_graph.specs.declared.graph.ClosedNode.{ClosedNode}
use Rattle.instance_graph.specs.Graph.{EntersAlong, HasClosedNode}

-- calls before interrupts; interrupts by vector, and one that keeps its own enable bit before one that clears it
abbrev pub kind_numbers : EdgeKind → List ℕ
kind_numbers Local = 0 ∷ 0 ∷ 0 ∷ []
kind_numbers Call = 1 ∷ 0 ∷ 0 ∷ []
kind_numbers (Interrupt v clears) = 2 ∷ v ∷ from_bool clears ∷ []
kind_numbers Return = 3 ∷ 0 ∷ 0 ∷ []

-- recur edges last: their node is the number of all nodes
abbrev pub way_numbers : GraphWay → List ℕ
way_numbers (Enters kind) = kind_numbers kind
way_numbers Recur = 4 ∷ 0 ∷ 0 ∷ []

-- the word at which an instance begins
abbrev pub entry_of : Option GraphInst → ℕ
entry_of None = 0
entry_of (Some inst) = inst.key.entry

-- the numbers that order edges: node, way, target, and the number of the entered instance
unfoldable pub turn_of : List GraphInst → Entered → List ℕ
turn_of gs e = e.node ∷ way_numbers e.way ++ entry_of (slice_get gs e.into) ∷ e.into ∷ []

-- the first difference decides
unfoldable pub edge_cmp : List GraphInst → Entered → Entered → Ordering
edge_cmp gs a b = slice_cmp nat_cmp (turn_of gs a) (turn_of gs b)

-- x has the property, and orders up to each other item that has it
pub record IsFirst {X : Type 0} (Is : X → Type 0) (IsUpTo : X → X → Type 0) (x : X) : Type 0 where
  pub is : Is x
  pub first : (y : X) → Is y → IsUpTo x y

-- closed nodes are ordered by number
abbrev pub IsNodeUpTo : ClosedNode → ClosedNode → Type 0
IsNodeUpTo p q = p.node ≤ q.node

-- edges are ordered by their numbers
abbrev pub IsEdgeUpTo : List GraphInst → Entered → Entered → Type 0
IsEdgeUpTo gs e d = edge_cmp gs d e ≢ Less

-- a closed node of instance i at which the stack is as deep as its need
abbrev pub IsDeepNode : List GraphInst → List ℕ → ℕ → ClosedNode → Type 0
IsDeepNode gs needs i p = HasClosedNode gs i p × (p.offset ≡ slice_index needs i)

-- an edge out of instance i that attains its need, if a return address takes `back` bytes
abbrev pub IsDeepEdge : ℕ → List GraphInst → List ℕ → ℕ → Entered → Type 0
IsDeepEdge back gs needs i e = EntersAlong gs i e × (e.offset + back + slice_index needs e.into ≡ slice_index needs i)

-- The chain from instance i on, whose base is `above` bytes below the root's. It ends at the least closed node as deep as the need, if there
-- is one; else it follows the least edge that attains the need.
pub data IsChainFrom (back : ℕ) (gs : List GraphInst) (needs : List ℕ) : ℕ → ℕ → List Link → Type 0 where
  ends : (i above : ℕ) (p : ClosedNode) → IsFirst (IsDeepNode gs needs i) IsNodeUpTo p
      → IsChainFrom back gs needs i above (record { inst = i; node = p.node; depth = above + p.offset; way = None } ∷ [])
  goes : (i above : ℕ) (e : Entered) (rest : List Link) → ((p : ClosedNode) → IsDeepNode gs needs i p → ⊥) → IsFirst (IsDeepEdge back gs needs i) (IsEdgeUpTo gs) e
      → IsChainFrom back gs needs e.into (above + e.offset + back) rest
      → IsChainFrom back gs needs i above (record { inst = i; node = e.node; depth = above + e.offset; way = Some e.way } ∷ rest)

-- the chain from the root
abbrev pub IsChain : ℕ → List GraphInst → List ℕ → List Link → Type 0
IsChain back gs needs links = IsChainFrom back gs needs 0 0 links

-- instance i has a closed node
abbrev pub HasSome : List GraphInst → ℕ → Type 0
HasSome gs i = (p : ClosedNode) × HasClosedNode gs i p

-- the root and each entered instance have a closed node
pub record HaveClosedNodes (gs : List GraphInst) : Type 0 where
  pub root : HasSome gs 0
  pub entered : (i : ℕ) (e : Entered) → EntersAlong gs i e → HasSome gs e.into
