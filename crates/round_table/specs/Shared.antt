-- States shared by nodes, by their numbers in a pool.
use Rattle.std.specs.Prelude.{ℕ, ◌+◌, ◌≡◌, ◌<◌, List, [], ◌∷◌, map}
use Rattle.std.specs.List.{IsDistinct}
use Rattle.std.specs.Map.{keys_of}
use Rattle.std.specs.FinMap.{from_entries}
use Rattle.abs_state.specs.declared.state.AbsState.{AbsState}
use Rattle.node_keys.specs.declared.keys.NodeKey.{NodeKey}
use Rattle.node_keys.specs.Order.{same_node}
use Rattle.state_pool.specs.Uses.{Uses}
use Rattle.state_pool.specs.Counts.{state_at, count_at, share}
use Rattle.round_table.specs.Sized.{AreStatesSized}
use Rattle.abs_state.specs.Order.{state_join}

-- a node's key with its state
abbrev pub with_state : Uses → NodeKey × ℕ → NodeKey × AbsState
with_state pool e = (e.0, state_at pool e.1)

-- the join of the state of this number and another
abbrev pub joined_at : Uses → ℕ → AbsState → AbsState
joined_at pool number other = state_join (state_at pool number) other

-- keys with their states
abbrev pub stated : Uses → List (NodeKey × ℕ) → List (NodeKey × AbsState)
stated pool es = map (with_state pool) es

-- the number of nodes with this number
abbrev pub times : ℕ → List (NodeKey × ℕ) → ℕ
times n [] = 0
times n (e ∷ es) = share n e.1 + times n es

-- each number has as many uses as nodes
abbrev pub AreCounted : Uses → List (NodeKey × ℕ) → Type 0
AreCounted pool es = (n : ℕ) → count_at pool n ≡ times n es

-- each node has a number of the pool, whose uses are those of the nodes, and no two nodes have the same key
pub record IsShared (pool : Uses) (es : List (NodeKey × ℕ)) : Type 0 where
  pub sized : AreStatesSized (from_entries (stated pool es))
  pub distinct : IsDistinct same_node (keys_of es)
  pub counted : AreCounted pool es

-- one use of a number moves to the number of this state; the states of other used numbers stay
pub record IsMoved (old : Uses) (n : ℕ) (s : AbsState) (m : ℕ) (new : Uses) : Type 0 where
  pub own : state_at new m ≡ s
  pub counts : (x : ℕ) → count_at new x + share x n ≡ count_at old x + share x m
  pub kept : (x : ℕ) → 0 < count_at old x → 0 < count_at new x → state_at new x ≡ state_at old x
