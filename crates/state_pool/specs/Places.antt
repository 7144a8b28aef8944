-- States and counts by place, and their numbers.
use Rattle.std.specs.Prelude.{ℕ, ◌≡◌, ◌<◌, ◌≤◌, List, [], ◌∷◌, length, Some, slice_get}
use Rattle.std.specs.List.{IsDistinct}
use Rattle.std.specs.Map.{keys_of}
use Rattle.abs_state.specs.declared.state.AbsState.{AbsState}
use Rattle.state_pool.specs.SameState.{same_state}
use Rattle.state_pool.specs.Numbers.{AreNumbers}

-- each state with its count, under the number of its place
abbrev pub numbered : List ℕ → List (AbsState × ℕ) → List (ℕ × (AbsState × ℕ))
numbered [] es = []
numbered (n ∷ ns) [] = []
numbered (n ∷ ns) (e ∷ es) = (n, e) ∷ numbered ns es

-- each place has its own number, no two places have equal states, and each state is used
pub record ArePlacesKept (ns : List ℕ) (es : List (AbsState × ℕ)) : Type 0 where
  pub numbers : AreNumbers ns
  pub within : length es ≤ length ns
  pub distinct : IsDistinct same_state (keys_of es)
  pub used : (i : ℕ) (e : AbsState × ℕ) → slice_get es i ≡ Some e → 0 < e.1
