-- Lists by their items.
use Rattle.std.proofs.Common.{◌≡◌, refl, subst, ℕ, zero, suc, ◌+◌, ◌<◌, List, [], ◌∷◌, length, take, fold, slice_index_or, arith}

fold_next : {A B : Type 0} (f : B → A → B) (a : B) (xs : List A) (i : ℕ) (d : A) → i < length xs → fold f a (take (suc i) xs) ≡ f (fold f a (take i xs)) (slice_index_or xs i d)
fold_next f a [] i d l = absurd (omega (arith, l))
fold_next f a (x ∷ xs) zero d l = refl
fold_next f a (x ∷ xs) (suc i) d l = fold_next f (f a x) xs i d (omega (arith, l))

pub fold_take : {A B : Type 0} (f : B → A → B) (a : B) (xs : List A) (i : ℕ) (d : A) → i < length xs → fold f a (take (i + 1) xs) ≡ f (fold f a (take i xs)) (slice_index_or xs i d)
fold_take f a xs i d l =
    let one : suc i ≡ i + 1 = omega arith in
    subst (λ n. fold f a (take n xs) ≡ f (fold f a (take i xs)) (slice_index_or xs i d)) one (fold_next f a xs i d l)
