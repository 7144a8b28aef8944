-- The flags of 16-bit sums and differences by bit formulas.
use Rattle.std.proofs.Common.{◌≡◌, ◌∙◌, ap, ℕ, ◌+◌, ◌-◌, ◌%◌, ◌^◌, ◌<◌, min, arith, Bool, eqb, ltb, leb, not}
use Rattle.std.specs.Prelude.{pos, ◌+ℤ◌, ◌-ℤ◌}
use Rattle.std.proofs.lemmas.Int.{ints}
use Rattle.std.proofs.lemmas.Nat.Bits.{bit_at_and, bit_at_not}
use Rattle.std.specs.Int.{bit_at, from_bool, cast_signed, w16}
use Rattle.std.specs.Int.RustNames.{bit_and}
use Rattle.avr_model.specs.Sreg.{with_flags, flag}
use Rattle.avr_model.specs.Wide.{overflows_word, flags_of_word_sum, word_difference_of, flags_of_word_difference}
use Rattle.avr_alu.proofs.BitTests.{some_bit}

-- bit 15 of a word
top : (r : ℕ) → r < 2 ^ 16 → bit_at r 15 ≡ from_bool (leb 32768 r)
top r h = grind arith

dropped : (x y : ℕ) → x < 2 ^ 16 → bit_at (bit_and (65535 - x) y) 15 ≡ min (1 - bit_at x 15) (bit_at y 15)
dropped x y h = bit_at_and (65535 - x) y 15 ∙ ap (λ (n : ℕ). min n (bit_at y 15)) (bit_at_not w16 x 15 h (omega arith))

gained : (x y : ℕ) → y < 2 ^ 16 → bit_at (bit_and x (65535 - y)) 15 ≡ min (bit_at x 15) (1 - bit_at y 15)
gained x y h = bit_at_and x (65535 - y) 15 ∙ ap (λ (n : ℕ). min (bit_at x 15) n) (bit_at_not w16 y 15 h (omega arith))

pub sum_flags : (a k r : ℕ) (h : Bool) (s : ℕ) → a < 2 ^ 16 → k < 256 → r ≡ (a + k) % 65536 → h ≡ flag s 5
    → with_flags (not (eqb (bit_and (bit_and (65535 - r) a) 32768) 0)) (eqb r 0) (not (eqb (bit_and r 32768) 0)) (not (eqb (bit_and (bit_and r (65535 - a)) 32768) 0)) h s
    ≡ flags_of_word_sum a k s
sum_flags a k r h s ha hk e eh =
    let small : r < 2 ^ 16 = omega arith in
    let carry : bit_at (bit_and (65535 - r) a) 15 ≡ from_bool (leb 65536 (a + k)) = dropped r a small ∙ grind arith in
    let over : bit_at (bit_and r (65535 - a)) 15 ≡ from_bool (overflows_word (cast_signed w16 a +ℤ pos k)) = gained r a ha ∙ grind (arith, ints) in
    let c = some_bit (bit_and (65535 - r) a) 15 _ carry in
    let v = some_bit (bit_and r (65535 - a)) 15 _ over in
    let n = some_bit r 15 _ (top r small) in
    (λ i. with_flags (c i) (eqb r 0) (n i) (v i) (eh i) s)
    ∙ ap (λ (x : ℕ). with_flags (leb 65536 (a + k)) (eqb x 0) (leb 32768 x) (overflows_word (cast_signed w16 a +ℤ pos k)) (flag s 5) s) e

pub difference_flags : (a k r : ℕ) (h : Bool) (s : ℕ) → a < 2 ^ 16 → k < 256 → r ≡ word_difference_of a k → h ≡ flag s 5
    → with_flags (not (eqb (bit_and (bit_and r (65535 - a)) 32768) 0)) (eqb r 0) (not (eqb (bit_and r 32768) 0)) (not (eqb (bit_and (bit_and (65535 - r) a) 32768) 0)) h s
    ≡ flags_of_word_difference a k s
difference_flags a k r h s ha hk e eh =
    let small : r < 2 ^ 16 = omega arith in
    let carry : bit_at (bit_and r (65535 - a)) 15 ≡ from_bool (ltb a k) = gained r a ha ∙ grind arith in
    let over : bit_at (bit_and (65535 - r) a) 15 ≡ from_bool (overflows_word (cast_signed w16 a -ℤ pos k)) = dropped r a small ∙ grind (arith, ints) in
    let c = some_bit (bit_and r (65535 - a)) 15 _ carry in
    let v = some_bit (bit_and (65535 - r) a) 15 _ over in
    let n = some_bit r 15 _ (top r small) in
    (λ i. with_flags (c i) (eqb r 0) (n i) (v i) (eh i) s)
    ∙ ap (λ (x : ℕ). with_flags (ltb a k) (eqb x 0) (leb 32768 x) (overflows_word (cast_signed w16 a -ℤ pos k)) (flag s 5) s) e
