-- The elements that pass a test, one element after another.
use Rattle.std.proofs.Common.{arith, suc, ◌≡◌, refl, subst, ap, ◌∙◌, ℕ, ◌+◌, ◌<◌, Bool, true, false, if◌then◌else◌, List, ◌∷◌, length, get_or, drop, slice_get}
use Rattle.std.specs.List.{filter}
use Rattle.std.proofs.lemmas.List.{at_drop_more}

later : {X : Type 0} (x : X) (ks : List X) (m : ℕ) → slice_get (x ∷ ks) (m + 1) ≡ slice_get ks m
later x ks m = let next : suc m ≡ m + 1 = omega arith in subst (λ (k : ℕ). slice_get (x ∷ ks) k ≡ slice_get ks m) next refl

module _ {X : Type 0} (p : X → Bool) (xs : List X) (i : ℕ) (d : X) (lt : i < length xs) where
  kept_if : (b : Bool) → p (get_or xs i d) ≡ b → filter p (drop i xs) ≡ (if b then get_or xs i d ∷ filter p (drop (i + 1) xs) else filter p (drop (i + 1) xs))
  kept_if b is = at_drop_more (filter p) xs i d lt ∙ ap (λ (c : Bool). if c then get_or xs i d ∷ filter p (drop (i + 1) xs) else filter p (drop (i + 1) xs)) is

  pub passed_over : (n : ℕ) → p (get_or xs i d) ≡ false → slice_get (filter p (drop i xs)) n ≡ slice_get (filter p (drop (i + 1) xs)) n
  passed_over n fails = ap (λ (ks : List X). slice_get ks n) (kept_if false fails)

  pub counted : (n m : ℕ) → n ≡ m + 1 → p (get_or xs i d) ≡ true → slice_get (filter p (drop i xs)) n ≡ slice_get (filter p (drop (i + 1) xs)) m
  counted n m next passes = ap (slice_get (filter p (drop i xs))) next ∙ ap (λ (ks : List X). slice_get ks (m + 1)) (kept_if true passes) ∙ later (get_or xs i d) (filter p (drop (i + 1) xs)) m
