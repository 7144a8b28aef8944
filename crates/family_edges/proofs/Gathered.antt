-- The results of a list's items.
use Rattle.std.proofs.Common.{◌≡◌, refl, sym, ◌∙◌, ap, ℕ, zero, suc, ◌+◌, ◌<◌, ◌≤◌, List, [], ◌∷◌, ◌++◌, take, Some, slice_get, append_assoc, add-one, arith}
use Rattle.std.proofs.lemmas.List.{append-nil}
use Rattle.std.proofs.lemmas.Option.{same_Some, none-some}
use Rattle.std.specs.List.{flat_map}
use Rattle.std.proofs.lemmas.Grind.{flat_map-append}

pub one_more : {X Y : Type 0} (f : X → List Y) (xs : List X) (at : ℕ) (x : X) → slice_get xs at ≡ Some x → flat_map f (take (suc at) xs) ≡ flat_map f (take at xs) ++ f x
one_more f [] at x e = absurd (none-some x e)
one_more f (y ∷ ys) zero x e = rw (same_Some y x e) (append-nil (f x))
one_more f (y ∷ ys) (suc at) x e = ap (λ l. f y ++ l) (one_more f ys at x e) ∙ sym (append_assoc (f y) (flat_map f (take at ys)) (f x))

-- the results of results, with one more item
pub grown : {X Y Z : Type 0} (f : Y → List Z) (g : X → List Y) (xs : List X) (at : ℕ) (x : X) → slice_get xs at ≡ Some x → (old now new : List Z)
    → now ≡ old ++ flat_map f (flat_map g (take at xs)) → new ≡ now ++ flat_map f (g x) → new ≡ old ++ flat_map f (flat_map g (take (at + 1) xs))
grown f g xs at x is old now new so e =
    let done = flat_map g (take at xs) in
    let more : flat_map f (flat_map g (take (suc at) xs)) ≡ flat_map f done ++ flat_map f (g x) =
    ap (flat_map f) (one_more g xs at x is) ∙ flat_map-append f done (g x) in
    rw (add-one at) (e ∙ ap (λ l. l ++ flat_map f (g x)) so ∙ append_assoc old (flat_map f done) (flat_map f (g x)) ∙ ap (λ l. old ++ l) (sym more))

-- items without results may be left out
pub none_before : {X Y : Type 0} (f : X → List Y) (xs : List X) (low : ℕ) → ((at : ℕ) (x : X) → slice_get xs at ≡ Some x → at < low → f x ≡ []) → flat_map f (take low xs) ≡ []
none_before f [] zero h = refl
none_before f [] (suc low) h = refl
none_before f (x ∷ xs) zero h = refl
none_before f (x ∷ xs) (suc low) h = rw (h 0 x refl (omega arith)) (none_before f xs low (λ at y e lt. h (suc at) y e (omega (arith, lt))))

pub none_after : {X Y : Type 0} (f : X → List Y) (xs : List X) (high : ℕ) → ((at : ℕ) (x : X) → slice_get xs at ≡ Some x → high ≤ at → f x ≡ []) → flat_map f (take high xs) ≡ flat_map f xs
none_after f [] zero h = refl
none_after f [] (suc high) h = refl
none_after f (x ∷ xs) zero h = rw (h 0 x refl (omega arith)) (none_after f xs zero (λ at y e lt. h (suc at) y e (omega (arith, lt))))
none_after f (x ∷ xs) (suc high) h = ap (λ l. f x ++ l) (none_after f xs high (λ at y e lt. h (suc at) y e (omega (arith, lt))))
