-- The state and the count of a number, also of an unused one.
use Rattle.std.specs.Prelude.{ℕ, Bool, ◌+◌, ◌≡◌, ◌<◌, ◌==◌, Option, Some, None, cond, IsSome}
use Rattle.std.specs.FinMap.{get}
use Rattle.abs_state.specs.declared.state.AbsState.{AbsState}
use Rattle.abs_state.specs.Values.{root}
use Rattle.state_pool.specs.Uses.{Uses, IsInterned, released}

abbrev pub held_state : Option (AbsState × ℕ) → AbsState
held_state None = root
held_state (Some held) = held.0

abbrev pub held_count : Option (AbsState × ℕ) → ℕ
held_count None = 0
held_count (Some held) = held.1

-- the state of a used number
abbrev pub state_at : Uses → ℕ → AbsState
state_at pool n = held_state (get pool n)

-- the number of uses, 0 if the number is unused
abbrev pub count_at : Uses → ℕ → ℕ
count_at pool n = held_count (get pool n)

abbrev pub one_if : Bool → ℕ
one_if b = cond b 1 0

-- one use of m, counted for n
abbrev pub share : ℕ → ℕ → ℕ
share n m = one_if (n == m)

-- the number has the state and one more use; the states of other numbers stay
pub record IsUsedMore (old : Uses) (s : AbsState) (n : ℕ) (new : Uses) : Type 0 where
  pub own : state_at new n ≡ s
  pub counts : (m : ℕ) → count_at new m ≡ count_at old m + share m n
  pub kept : (m : ℕ) → 0 < count_at old m → state_at new m ≡ state_at old m

-- the number has one use less; the states of used numbers stay
pub record IsUsedLess (old : Uses) (n : ℕ) (new : Uses) : Type 0 where
  pub counts : (m : ℕ) → count_at new m + share m n ≡ count_at old m
  pub kept : (m : ℕ) → 0 < count_at new m → state_at new m ≡ state_at old m

-- How interning and releasing change counts and states.
pub record CountsFollow : Type 0 where
  pub there : (pool : Uses) (n : ℕ) → 0 < count_at pool n → IsSome (get pool n)
  pub interned : (old new : Uses) (s : AbsState) (n : ℕ) → IsInterned old s n new → IsUsedMore old s n new
  pub released : (old : Uses) (n : ℕ) → 0 < count_at old n → IsUsedLess old n (released old n)
