-- Lists by places and by parts.
use Rattle.std.proofs.Common.{◌≡◌, refl, sym, ap, ◌∙◌, ℕ, zero, suc, ◌<◌, ◌≤◌, ◌⊎◌, inl, inr, Bool, true, false, not, cond, nat_lt, List, [], ◌∷◌, ◌++◌, length, get_or, Some, None, slice_get, position, All, arith}
use Rattle.std.specs.List.{position_or_len, AllByRecursion}
use Rattle.std.proofs.lemmas.Bool.Decides.{nat_tests}
use Rattle.std.proofs.lemmas.Bool.{not-false}
use Rattle.std.proofs.lemmas.List.Elements.{recursion_from_All}
use Rattle.std.proofs.lemmas.List.Sums.{fails_before_first}
use Rattle.std.proofs.lemmas.Option.{same_Some}

-- ---- what is read at a place

pub get_inside : {X : Type 0} (xs : List X) (i : ℕ) → i < length xs → (x : X) × (slice_get xs i ≡ Some x)
get_inside [] i lt = absurd (omega (arith, lt))
get_inside (x ∷ xs) zero lt = (x, refl)
get_inside (x ∷ xs) (suc i) lt = get_inside xs i (omega (arith, lt))

pub one_at : {X : Type 0} (xs : List X) (i : ℕ) (x y : X) → slice_get xs i ≡ Some x → slice_get xs i ≡ Some y → x ≡ y
one_at xs i x y e f = same_Some x y (sym e ∙ f)

pub get_pushed : {X : Type 0} (xs : List X) (x : X) → slice_get (xs ++ x ∷ []) (length xs) ≡ Some x
get_pushed [] x = refl
get_pushed (y ∷ xs) x = get_pushed xs x

pub get_or_pushed : {X : Type 0} (xs : List X) (x d : X) → get_or (xs ++ x ∷ []) (length xs) d ≡ x
get_or_pushed [] x d = refl
get_or_pushed (y ∷ xs) x d = get_or_pushed xs x d

pub get_or_front : {X : Type 0} (xs ys : List X) (i : ℕ) (d : X) → i < length xs → get_or (xs ++ ys) i d ≡ get_or xs i d
get_or_front [] ys i d lt = absurd (omega (arith, lt))
get_or_front (x ∷ xs) ys zero d lt = refl
get_or_front (x ∷ xs) ys (suc i) d lt = get_or_front xs ys i d (omega (arith, lt))

pub number_at_same : (i : ℕ) {ns ms : List ℕ} → ns ≡ ms → get_or ns i 0 ≡ get_or ms i 0
number_at_same i e = ap (λ (ns : List ℕ). get_or ns i 0) e

-- ---- parts

pub nil_not_cons : {X : Type 0} (x : X) (xs : List X) → [] ≡ x ∷ xs → ⊥
nil_not_cons x xs e = cc

pub same_head : {X : Type 0} (x y : X) (xs ys : List X) → x ∷ xs ≡ y ∷ ys → x ≡ y
same_head x y xs ys e = cc

pub same_tail : {X : Type 0} (x y : X) (xs ys : List X) → x ∷ xs ≡ y ∷ ys → xs ≡ ys
same_tail x y xs ys e = cc

pub same_head_and_tail : {X : Type 0} (x y : X) (xs ys : List X) → x ∷ xs ≡ y ∷ ys → (x ≡ y) × (xs ≡ ys)
same_head_and_tail x y xs ys e = (same_head x y xs ys e, same_tail x y xs ys e)

pub both_empty : {X : Type 0} (xs ys : List X) → xs ++ ys ≡ [] → (xs ≡ []) × (ys ≡ [])
both_empty [] ys e = (refl, e)
both_empty (x ∷ xs) ys e = cc

pub same_parts : (xs ys us vs : List ℕ) → length xs ≡ length ys → xs ++ us ≡ ys ++ vs → (xs ≡ ys) × (us ≡ vs)
same_parts [] [] us vs e h = (refl, h)
same_parts [] (y ∷ ys) us vs e h = absurd (omega arith)
same_parts (x ∷ xs) [] us vs e h = absurd (omega arith)
same_parts (x ∷ xs) (y ∷ ys) us vs e h =
    let head : x ≡ y = cc in
    let tail : xs ++ us ≡ ys ++ vs = cc in
    let both = same_parts xs ys us vs (omega arith) tail in
    (λ i. head i ∷ both.0 i, both.1)

-- ---- the first place that fails a test

-- the outcome of a test
pub chosen : {X : Type 0} (b : Bool) (x y z : X) → cond b x y ≡ z → ((b ≡ true) × (x ≡ z)) ⊎ ((b ≡ false) × (y ≡ z))
chosen true x y z e = inl (refl, e)
chosen false x y z e = inr (refl, e)

some_none : (n : ℕ) → Some n ≡ None → ⊥
some_none n e = cc

fails_none : (p : ℕ → Bool) (xs : List ℕ) → length xs ≤ position_or_len (λ b. not (p b)) xs → All (λ b. p b ≡ true) xs
fails_none p xs h = λ k d l. not-false (p (get_or xs k d)) (fails_before_first (λ b. not (p b)) xs k d (omega arith))

pub all_pass_if_none_fails : (p : ℕ → Bool) (xs : List ℕ) → position (λ b. not (p b)) xs ≡ None → AllByRecursion (λ b. p b ≡ true) xs
all_pass_if_none_fails p xs e =
    recursion_from_All (λ b. p b ≡ true) xs (elim (chosen (nat_lt (position_or_len (λ b. not (p b)) xs) (length xs)) _ _ None e) [
      | inl h ↦ absurd (some_none _ h.1)
      | inr h ↦ fails_none p xs (grind (arith, nat_tests, h.0))
    ])
