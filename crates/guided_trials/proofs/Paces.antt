-- The paces of trials are powers of two.
use Rattle.std.proofs.Common.{zero, suc, ◌≡◌, ap, ℕ, ◌-◌, ◌%◌, ◌==◌, [], ◌∷◌, slice_index_or, bit_and}
use Rattle.std.proofs.lemmas.Nat.{and_mask}
use Rattle.guided_trials.specs.Choosing.{hold}

zero_as : (a b : ℕ) → a ≡ b → (a == 0) ≡ (b == 0)
zero_as a b e = ap (λ (n : ℕ). n == 0) e

at_pace : (low i : ℕ) → (bit_and low (slice_index_or (1 ∷ 8 ∷ 64 ∷ 4096 ∷ []) i 1 - 1) == 0) ≡ (low % slice_index_or (1 ∷ 8 ∷ 64 ∷ 4096 ∷ []) i 1 == 0)
at_pace low zero = zero_as _ _ (and_mask low 0)
at_pace low (suc zero) = zero_as _ _ (and_mask low 3)
at_pace low (suc (suc zero)) = zero_as _ _ (and_mask low 6)
at_pace low (suc (suc (suc zero))) = zero_as _ _ (and_mask low 12)
at_pace low (suc (suc (suc (suc i)))) = zero_as _ _ (and_mask low 0)

pub held : (low t : ℕ) → (bit_and low (hold t - 1) == 0) ≡ (low % hold t == 0)
held low t = at_pace low (t % 4)
