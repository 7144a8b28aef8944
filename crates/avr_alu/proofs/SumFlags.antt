-- The flags of sums and differences by bit formulas.
use Rattle.std.proofs.Common.{◌≡◌, ◌∙◌, ap, ℕ, ◌+◌, ◌-◌, ◌%◌, ◌^◌, ◌<◌, arith, Bool, eqb, ltb, leb, not, ◌&&◌, ◌||◌}
use Rattle.std.proofs.lemmas.Int.{ints}
use Rattle.std.proofs.lemmas.Nat.Bits.{bit_at_and, bit_at_or, bit_at_xor, bit_at_not}
use Rattle.std.specs.Int.{bit_at, from_bool, w8}
use Rattle.std.specs.Int.RustNames.{bit_and, bit_or, bit_xor}
use Rattle.avr_model.specs.Sreg.{with_flags, flag}
use Rattle.avr_model.specs.Sums.{overflows, sum_of, signed_sum_of, flags_of_sum, difference_of, signed_difference_of, flags_of_difference}
use Rattle.avr_alu.proofs.BitTests.{some_bit}

-- bit 7 of a byte
pub top : (r : ℕ) → r < 256 → bit_at r 7 ≡ from_bool (leb 128 r)
top r h = grind arith

-- ---- sums

abbrev pub carries_of : ℕ → ℕ → ℕ → ℕ
carries_of a b r = bit_or (bit_and a b) (bit_and (bit_or a b) (255 - r))

abbrev pub sum_overflow : ℕ → ℕ → ℕ → ℕ
sum_overflow a b r = bit_and (bit_xor a r) (bit_xor b r)

carry_out : (a b r : ℕ) (carry : Bool) → a < 256 → b < 256 → r ≡ sum_of a b carry % 256 → bit_at (carries_of a b r) 7 ≡ from_bool (leb 256 (sum_of a b carry))
carry_out a b r carry ha hb e =
    let small : r < 2 ^ 8 = omega arith in
    let inverse : bit_at (255 - r) 7 ≡ 1 - bit_at r 7 = bit_at_not w8 r 7 small (omega arith) in
    simp (bit_at_or, bit_at_and, inverse) (grind arith)

half_carry : (a b r : ℕ) (carry : Bool) → a < 256 → b < 256 → r ≡ sum_of a b carry % 256
    → bit_at (carries_of a b r) 3 ≡ from_bool (leb 16 (sum_of (a % 16) (b % 16) carry))
half_carry a b r carry ha hb e =
    let small : r < 2 ^ 8 = omega arith in
    let inverse : bit_at (255 - r) 3 ≡ 1 - bit_at r 3 = bit_at_not w8 r 3 small (omega arith) in
    simp (bit_at_or, bit_at_and, inverse) (grind arith)

overflow : (a b r : ℕ) (carry : Bool) → a < 256 → b < 256 → r ≡ sum_of a b carry % 256
    → bit_at (sum_overflow a b r) 7 ≡ from_bool (overflows (signed_sum_of a b carry))
overflow a b r carry ha hb e = simp (bit_at_xor, bit_at_and) (grind (arith, ints))

pub sum_flags : (a b r : ℕ) (carry : Bool) (s : ℕ) → a < 256 → b < 256 → r ≡ sum_of a b carry % 256
    → with_flags (not (eqb (bit_and (carries_of a b r) 128) 0)) (eqb r 0) (not (eqb (bit_and r 128) 0))
    (not (eqb (bit_and (sum_overflow a b r) 128) 0)) (not (eqb (bit_and (carries_of a b r) 8) 0)) s
    ≡ flags_of_sum a b carry s
sum_flags a b r carry s ha hb e =
    let c = some_bit (carries_of a b r) 7 _ (carry_out a b r carry ha hb e) in
    let h = some_bit (carries_of a b r) 3 _ (half_carry a b r carry ha hb e) in
    let v = some_bit (sum_overflow a b r) 7 _ (overflow a b r carry ha hb e) in
    let n = some_bit r 7 _ (top r (omega arith)) in
    (λ i. with_flags (c i) (eqb r 0) (n i) (v i) (h i) s)
    ∙ ap (λ (x : ℕ). with_flags (leb 256 (sum_of a b carry)) (eqb x 0) (leb 128 x) (overflows (signed_sum_of a b carry)) (leb 16 (sum_of (a % 16) (b % 16) carry)) s) e

-- ---- differences

abbrev pub borrows_of : ℕ → ℕ → ℕ → ℕ
borrows_of a b r = bit_or (bit_and (255 - a) b) (bit_and (bit_or (255 - a) b) r)

abbrev pub difference_overflow : ℕ → ℕ → ℕ → ℕ
difference_overflow a b r = bit_and (bit_xor a b) (bit_xor a r)

borrow_out : (a b r : ℕ) (borrow : Bool) → a < 256 → b < 256 → r ≡ difference_of a b borrow
    → bit_at (borrows_of a b r) 7 ≡ from_bool (ltb a (b + from_bool borrow))
borrow_out a b r borrow ha hb e =
    let inverse : bit_at (255 - a) 7 ≡ 1 - bit_at a 7 = bit_at_not w8 a 7 ha (omega arith) in
    simp (bit_at_or, bit_at_and, inverse) (grind arith)

half_borrow : (a b r : ℕ) (borrow : Bool) → a < 256 → b < 256 → r ≡ difference_of a b borrow
    → bit_at (borrows_of a b r) 3 ≡ from_bool (ltb (a % 16) (b % 16 + from_bool borrow))
half_borrow a b r borrow ha hb e =
    let inverse : bit_at (255 - a) 3 ≡ 1 - bit_at a 3 = bit_at_not w8 a 3 ha (omega arith) in
    simp (bit_at_or, bit_at_and, inverse) (grind arith)

underflow : (a b r : ℕ) (borrow : Bool) → a < 256 → b < 256 → r ≡ difference_of a b borrow
    → bit_at (difference_overflow a b r) 7 ≡ from_bool (overflows (signed_difference_of a b borrow))
underflow a b r borrow ha hb e = simp (bit_at_xor, bit_at_and) (grind (arith, ints))

pub difference_flags : (a b r : ℕ) (borrow keep_zero z : Bool) (s : ℕ) → a < 256 → b < 256 → r ≡ difference_of a b borrow
    → z ≡ (eqb r 0 && (not keep_zero || flag s 1))
    → with_flags (not (eqb (bit_and (borrows_of a b r) 128) 0)) z (not (eqb (bit_and r 128) 0))
    (not (eqb (bit_and (difference_overflow a b r) 128) 0)) (not (eqb (bit_and (borrows_of a b r) 8) 0)) s
    ≡ flags_of_difference a b borrow keep_zero s
difference_flags a b r borrow keep_zero z s ha hb e ez =
    let c = some_bit (borrows_of a b r) 7 _ (borrow_out a b r borrow ha hb e) in
    let h = some_bit (borrows_of a b r) 3 _ (half_borrow a b r borrow ha hb e) in
    let v = some_bit (difference_overflow a b r) 7 _ (underflow a b r borrow ha hb e) in
    let n = some_bit r 7 _ (top r (omega arith)) in
    (λ i. with_flags (c i) (ez i) (n i) (v i) (h i) s)
    ∙ ap (λ (x : ℕ). with_flags (ltb a (b + from_bool borrow)) (eqb x 0 && (not keep_zero || flag s 1)) (leb 128 x)
    (overflows (signed_difference_of a b borrow)) (ltb (a % 16) (b % 16 + from_bool borrow)) s) e

-- Z by the flag before
pub kept_zero : (zero keep was is : Bool) → was ≡ is → (zero && (not keep || was)) ≡ (zero && (not keep || is))
kept_zero zero keep was is e = ap (λ (t : Bool). zero && (not keep || t)) e
