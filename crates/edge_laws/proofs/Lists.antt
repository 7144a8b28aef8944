-- Items by their numbers.
use Rattle.std.proofs.Common.{◌≡◌, refl, sym, ap, ℕ, zero, suc, ◌⊎◌, inl, inr, ⊎_elim, List, [], ◌∷◌, ◌++◌, length, map, Option, Some, None, arith}
use Rattle.std.specs.List.{slice_get}
use Rattle.std.proofs.lemmas.Option.{none-some, same_Some}

-- an item of a list with one more is one of the list or the last
pub get_push : {A : Type 0} (xs : List A) (y z : A) (i : ℕ) → slice_get (xs ++ y ∷ []) i ≡ Some z → (slice_get xs i ≡ Some z) ⊎ ((i ≡ length xs) × (z ≡ y))
get_push [] y z zero e = inr (refl, same_Some z y (sym e))
get_push [] y z (suc i) e = absurd (none-some z e)
get_push (x ∷ xs) y z zero e = inl e
get_push (x ∷ xs) y z (suc i) e = ⊎_elim (λ a. inl a) (λ b. inr (ap suc b.0, b.1)) (get_push xs y z i e)

abbrev pub as_list : {A : Type 0} → Option A → List A
as_list None = []
as_list (Some x) = x ∷ []

pub as_some : {A : Type 0} (o : Option A) (x : A) → as_list o ≡ x ∷ [] → o ≡ Some x
as_some None x e = cc
as_some (Some y) x e = let h : y ≡ x = cc in ap Some h

-- lists with the same items at the same places are equal
pub same_list : {A : Type 0} (xs ys : List A) → length xs ≡ length ys → ((i : ℕ) (x y : A) → slice_get xs i ≡ Some x → slice_get ys i ≡ Some y → x ≡ y) → xs ≡ ys
same_list [] [] e h = refl
same_list [] (y ∷ ys) e h = absurd (omega (arith, e))
same_list (x ∷ xs) [] e h = absurd (omega (arith, e))
same_list (x ∷ xs) (y ∷ ys) e h =
    let head : x ≡ y = h 0 x y refl refl in
    let tail : xs ≡ ys = same_list xs ys (omega (arith, e)) (λ i. h (suc i)) in
    (λ i. head i ∷ tail i)

-- so are lists whose items have the same images
pub same_maps : {A B C : Type 0} (f : A → C) (g : B → C) (xs : List A) (ys : List B) → length xs ≡ length ys
    → ((i : ℕ) (x : A) (y : B) → slice_get xs i ≡ Some x → slice_get ys i ≡ Some y → f x ≡ g y) → map f xs ≡ map g ys
same_maps f g [] [] e h = refl
same_maps f g [] (y ∷ ys) e h = absurd (omega (arith, e))
same_maps f g (x ∷ xs) [] e h = absurd (omega (arith, e))
same_maps f g (x ∷ xs) (y ∷ ys) e h =
    let head : f x ≡ g y = h 0 x y refl refl in
    let tail : map f xs ≡ map g ys = same_maps f g xs ys (omega (arith, e)) (λ i. h (suc i)) in
    (λ i. head i ∷ tail i)
