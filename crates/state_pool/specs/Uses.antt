-- The contents of a pool: states by number, with counts of uses.
use Rattle.std.specs.Prelude.{ℕ, ◌+◌, ◌-◌, ◌≡◌, ◌≢◌, ◌<◌, ◌⊎◌, Option, Some, None, nat_lt, if◌then◌else◌}
use Rattle.std.specs.FinMap.{FinMap, get, insert, remove}
use Rattle.std.specs.Ordering.{nat_cmp}
use Rattle.abs_state.specs.declared.state.AbsState.{AbsState}

-- a state and its count of uses, by its number
abbrev pub Uses : Type 0
Uses = FinMap nat_cmp (AbsState × ℕ)

-- the number has this state and this many uses
abbrev pub IsStateHeld : Uses → ℕ → AbsState → ℕ → Type 0
IsStateHeld pool n s count = get pool n ≡ Some (s, count)

-- the state has no number
abbrev pub IsAbsent : Uses → AbsState → Type 0
IsAbsent pool s = (n count : ℕ) → get pool n ≢ Some (s, count)

-- no two numbers have equal states
abbrev pub AreDistinct : Uses → Type 0
AreDistinct pool = (n m : ℕ) (s : AbsState) (count more : ℕ) → IsStateHeld pool n s count → IsStateHeld pool m s more → n ≡ m

-- each count is at least 1
abbrev pub AreUsed : Uses → Type 0
AreUsed pool = (n : ℕ) (s : AbsState) (count : ℕ) → IsStateHeld pool n s count → 0 < count

-- each count is below the limit
abbrev pub AreBelow : ℕ → Uses → Type 0
AreBelow most pool = (n : ℕ) (s : AbsState) (count : ℕ) → IsStateHeld pool n s count → count < most

-- one more use of the state: its number's count grows, or it gets a new number
abbrev pub IsInterned : Uses → AbsState → ℕ → Uses → Type 0
IsInterned old s n new =
    ((count : ℕ) × IsStateHeld old n s count × (new ≡ insert old n (s, count + 1)))
    ⊎ (IsAbsent old s × (get old n ≡ None) × (new ≡ insert old n (s, 1)))

-- the entry of a number after one use less; none if it was the last use
abbrev pub lowered : Uses → ℕ → Option (AbsState × ℕ) → Uses
lowered pool n None = pool
lowered pool n (Some held) = if nat_lt 1 held.1 then insert pool n (held.0, held.1 - 1) else remove pool n

-- one use less of the number; its last use removes the state
abbrev pub released : Uses → ℕ → Uses
released pool n = lowered pool n (get pool n)

-- the state that is removed, if this is its last use
abbrev pub last_state : Option (AbsState × ℕ) → Option AbsState
last_state None = None
last_state (Some held) = if nat_lt 1 held.1 then None else Some held.0
