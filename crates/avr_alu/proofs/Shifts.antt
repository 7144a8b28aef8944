-- Shifts by one place.
use Rattle.std.proofs.Common.{◌≡◌, ◌∙◌, ap, ℕ, ◌+◌, ◌*◌, ◌/◌, ◌%◌, ◌^◌, ◌<◌, arith, eqb, leb, not}
use Rattle.std.specs.Bool.{beq}
use Rattle.std.proofs.lemmas.Nat.{or_comm, or_shifted}
use Rattle.std.specs.Int.RustNames.{bit_and, bit_or}
use Rattle.avr_model.specs.Bitwise.{flags_of_result, flags_of_shift}
use Rattle.avr_alu.proofs.BitTests.{some_bit}

pub shifted : (a t x : ℕ) → a < 256 → x ≡ t * 2 ^ 7 → bit_or (a / 2) x ≡ a / 2 + 128 * t
shifted a t x h e =
    let low : a / 2 < 2 ^ 7 = omega arith in
    ap (bit_or (a / 2)) e ∙ or_comm (a / 2) (t * 2 ^ 7) ∙ or_shifted t 7 (a / 2) low ∙ omega arith

pub shift_flags : (a r q s : ℕ) → r < 256 → r ≡ q
    → flags_of_result (not (eqb (bit_and a 1) 0)) (not (beq (not (eqb (bit_and r 128) 0)) (not (eqb (bit_and a 1) 0)))) r s ≡ flags_of_shift a q s
shift_flags a r q s h e =
    let c = some_bit a 0 (eqb (a % 2) 1) (grind arith) in
    let n = some_bit r 7 (leb 128 r) (grind arith) in
    (λ i. flags_of_result (c i) (not (beq (n i) (c i))) r s) ∙ ap (λ (x : ℕ). flags_of_shift a x s) e
