-- RAMPZ behind `elpm` through Z+.
use Rattle.std.proofs.Common.{◌≡◌, ◌∙◌, sym, ap, refl, ℕ, zero, suc, ◌+◌, ◌%◌, ◌<◌, ◌≤◌, bit_and, inl, inr, arith}
use Rattle.std.specs.Prelude.{if◌then◌else◌, Bool}
use Rattle.std.proofs.lemmas.Bool.{cases_lt, eq-eqb}
use Rattle.avr_model.specs.declared.device.Device.{Device}
use Rattle.avr_model.specs.Devices.{rampz_most}
use Rattle.avr_model.specs.State.{State, RAMPZ, register, pair, kept_of}
use Rattle.avr_model.specs.Effects.{stepped_bank}
use Rattle.avr_model.proofs.AllLaws.{devices_are_alike}

few_bits : (most : ℕ) → most ≤ 3 → bit_and 0 most ≡ bit_and 256 most
few_bits zero h = refl
few_bits (suc zero) h = refl
few_bits (suc (suc zero)) h = refl
few_bits (suc (suc (suc zero))) h = refl
few_bits (suc (suc (suc (suc n)))) h = absurd (omega arith)

-- eight bits of the next number are enough
kept_wrapped : (d : Device) (n : ℕ) → n < 256 → kept_of d RAMPZ ((n + 1) % 256) ≡ kept_of d RAMPZ (n + 1)
kept_wrapped d n small = elim (cases_lt n 255) [
  | inl less ↦ let is : (n + 1) % 256 ≡ n + 1 = omega arith in ap (kept_of d RAMPZ) is
  | inr more ↦
      let is : (n + 1) % 256 ≡ 0 = omega arith in
      let was : 256 ≡ n + 1 = omega arith in
      ap (kept_of d RAMPZ) is ∙ few_bits (rampz_most d) (devices_are_alike.most_rampz d) ∙ ap (kept_of d RAMPZ) was
]

pub stepped : (m : State) (d : Device) (n z next : ℕ) → n < 256 → n ≡ register m RAMPZ → d ≡ m.device → z ≡ pair m 30 → z ≡ 65535 → next ≡ kept_of d RAMPZ ((n + 1) % 256)
    → next ≡ stepped_bank m
stepped m d n z next small is device at last kept =
    kept ∙ kept_wrapped d n small ∙ (λ i. kept_of (device i) RAMPZ (is i + 1))
    ∙ ap (λ (b : Bool). if b then kept_of m.device RAMPZ (register m RAMPZ + 1) else register m RAMPZ) (sym (eq-eqb (pair m 30) 65535 (sym at ∙ last)))
