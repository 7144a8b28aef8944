-- Bytes cut to the bits of RAMPZ or EIND.
use Rattle.std.proofs.Common.{◌≡◌, ◌∙◌, refl, ap, ℕ, zero, suc, ◌+◌, ◌-◌, ◌%◌, ◌<◌, ◌≤◌, ◌==◌, if◌then◌else◌, min, max, arith, inl, inr}
use Rattle.std.proofs.lemmas.Bool.{cases_lt}
use Rattle.std.proofs.lemmas.Nat.Bits.{bit_at-lt, bit_at_or, bit_at_and, bit_at_not}
use Rattle.std.specs.Int.{bit_at, w8}
use Rattle.std.specs.Int.RustNames.{bit_or, bit_and}
use Rattle.avr_model.specs.declared.device.Device.{Device}
use Rattle.avr_model.specs.State.{bank_most}
use Rattle.bit_domain.specs.declared.bits.Tri.TheVariants.{Zero}
use Rattle.bit_domain.specs.declared.bytes.TriByte.{TriByte}
use Rattle.bit_domain.specs.TriByte.{tri_of, tri_at, byte_of}
use Rattle.bit_domain.proofs.AllLaws.{bytes_are_their_bits}
use Rattle.local_rules.specs.Banks.{bank_bits}

chosen : (k v m : ℕ) → k < 2 → v < 2 → m < 2 → tri_of (max k (1 - m)) (min v m) ≡ (if m == 1 then tri_of k v else Zero)
chosen zero zero zero _ _ _ = refl
chosen zero zero (suc zero) _ _ _ = refl
chosen zero (suc zero) zero _ _ _ = refl
chosen zero (suc zero) (suc zero) _ _ _ = refl
chosen (suc zero) zero zero _ _ _ = refl
chosen (suc zero) zero (suc zero) _ _ _ = refl
chosen (suc zero) (suc zero) zero _ _ _ = refl
chosen (suc zero) (suc zero) (suc zero) _ _ _ = refl
chosen (suc (suc k)) v m lt _ _ = absurd (omega (arith, lt))
chosen k (suc (suc v)) m _ lt _ = absurd (omega (arith, lt))
chosen k v (suc (suc m)) _ _ lt = absurd (omega (arith, lt))

pub cut_bits : (device : Device) (r : ℕ) (t : TriByte) → bank_most device r ≤ 3
    → byte_of (λ i. tri_of (bit_at (bit_or t.known (255 - bank_most device r)) i) (bit_at (bit_and t.value (bank_most device r)) i)) ≡ bank_bits device r t
cut_bits device r t small =
    let most = bank_most device r in
    bytes_are_their_bits.same
    (λ i. tri_of (bit_at (bit_or t.known (255 - most)) i) (bit_at (bit_and t.value most) i))
    (λ i. if bit_at most i == 1 then tri_at t i else Zero) (λ i h.
    (λ j. tri_of ((bit_at_or t.known (255 - most) i ∙ ap (max (bit_at t.known i)) (bit_at_not w8 most i (omega (arith, small)) h)) j) (bit_at_and t.value most i j))
    ∙ chosen (bit_at t.known i) (bit_at t.value i) (bit_at most i) (bit_at-lt t.known i) (bit_at-lt t.value i) (bit_at-lt most i))

-- ---- the next bank

over : (most : ℕ) → most ≤ 3 → bit_and 0 most ≡ bit_and 256 most
over zero _ = refl
over (suc zero) _ = refl
over (suc (suc zero)) _ = refl
over (suc (suc (suc zero))) _ = refl
over (suc (suc (suc (suc n)))) le = absurd (omega (arith, le))

pub next_kept : (bank most : ℕ) → bank < 256 → most ≤ 3 → bit_and ((bank + 1) % 256) most ≡ bit_and (bank + 1) most
next_kept bank most lt le = elim (cases_lt bank 255) [
  | inl below ↦ ap (λ (n : ℕ). bit_and n most) (omega (arith, below))
  | inr last ↦
      let zero : (bank + 1) % 256 ≡ 0 = omega (arith, lt, last) in
      let next : 256 ≡ bank + 1 = omega (arith, lt, last) in
      ap (λ (n : ℕ). bit_and n most) zero ∙ over most le ∙ ap (λ (n : ℕ). bit_and n most) next
]
