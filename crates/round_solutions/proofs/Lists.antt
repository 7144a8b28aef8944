-- Lists and their items.
use Rattle.std.proofs.Common.{◌≡◌, refl, ℕ, zero, suc, List, [], ◌∷◌, Some, slice_get}
use Rattle.std.specs.List.{AllByRecursion}

-- what holds at each index holds of all
pub all_of : {X : Type 0} (P : X → Type 0) (xs : List X) → ((i : ℕ) (x : X) → slice_get xs i ≡ Some x → P x) → AllByRecursion P xs
all_of P [] h = tt
all_of P (x ∷ xs) h = (h zero x refl, all_of P xs (λ i. h (suc i)))
