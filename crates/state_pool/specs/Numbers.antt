-- Numbers by place.
use Rattle.std.specs.Prelude.{ℕ, ◌≡◌, ◌<◌, ◌≤◌, List, [], ◌∷◌, ◌++◌, length, slice_index_or}

-- the number at a place
abbrev pub number_at : List ℕ → ℕ → ℕ
number_at numbers place = slice_index_or numbers place 0

-- each number below the count is at one place
pub record AreNumbers (numbers : List ℕ) : Type 0 where
  pub low : (i : ℕ) → i < length numbers → number_at numbers i < length numbers
  pub once : (i j : ℕ) → i < length numbers → j < length numbers → number_at numbers i ≡ number_at numbers j → i ≡ j
  pub few : length numbers ≤ 4294967295

-- each list has at a number the place of that number in the other
pub record AreInverse (numbers places : List ℕ) : Type 0 where
  pub count : length places ≡ length numbers
  pub few : length numbers ≤ 4294967295
  pub low : (i : ℕ) → i < length numbers → number_at numbers i < length numbers
  pub back : (i : ℕ) → i < length numbers → number_at places (number_at numbers i) ≡ i
  pub place_low : (n : ℕ) → n < length numbers → number_at places n < length numbers
  pub forth : (n : ℕ) → n < length numbers → number_at numbers (number_at places n) ≡ n

-- one more number, if this place is the first free one
abbrev pub IsPlaceReached : List ℕ → ℕ → List ℕ → Type 0
IsPlaceReached old place new = (place < length old → new ≡ old) × (length old ≡ place → new ≡ old ++ place ∷ [])
