-- The flags after a comparison.
use Rattle.std.proofs.Common.{◌≡◌, refl, sym, ◌∙◌, ap, ap₂, ℕ, ◌+◌, ◌*◌, ◌/◌, ◌%◌, ◌<◌, ◌≤◌, ◌⊎◌, inl, inr, Bool, true, false, arith}
use Rattle.std.specs.Prelude.{◌==◌, ◌&&◌, ◌||◌, not, nat_lt, nat_le}
use Rattle.std.specs.Int.{from_bool}
use Rattle.std.proofs.lemmas.Bool.{cases_lt, cases_eq, eq-eqb, ne_eqb}
use Rattle.std.proofs.lemmas.Bool.Decides.{nat_tests}
use Rattle.std.proofs.lemmas.Int.{ints}
use Rattle.avr_model.specs.Sreg.{flag, xor, with_flags}
use Rattle.avr_model.specs.Sums.{overflows, difference_of, signed_difference_of}
use Rattle.pair_domain.specs.Tags.{signed_place, signed_below}
use Rattle.pair_domain.specs.CompareLaws.{ComparesAreTold}

-- ---- the flags by their bits

two : (b : Bool) → from_bool b < 2
two true = omega arith
two false = omega arith

one_of : (b : Bool) → (from_bool b == 1) ≡ b
one_of true = refl
one_of false = refl

carry_bit : (c z n v x h s : ℕ) → c < 2 → (c + 2 * z + 4 * n + 8 * v + 16 * x + 32 * h + 64 * (s / 64)) / 1 % 2 ≡ c
carry_bit c z n v x h s lt = omega arith

zero_bit : (c z n v x h s : ℕ) → c < 2 → z < 2 → (c + 2 * z + 4 * n + 8 * v + 16 * x + 32 * h + 64 * (s / 64)) / 2 % 2 ≡ z
zero_bit c z n v x h s lt lz = omega arith

sign_bit : (c z n v x h s : ℕ) → c < 2 → z < 2 → n < 2 → v < 2 → x < 2 → (c + 2 * z + 4 * n + 8 * v + 16 * x + 32 * h + 64 * (s / 64)) / 16 % 2 ≡ x
sign_bit c z n v x h s lt lz ln lv lx = omega arith

flag_0 : (c z n v h : Bool) (s : ℕ) → flag (with_flags c z n v h s) 0 ≡ c
flag_0 c z n v h s = ap (λ (x : ℕ). x == 1) (carry_bit (from_bool c) _ _ _ _ _ s (two c)) ∙ one_of c

flag_1 : (c z n v h : Bool) (s : ℕ) → flag (with_flags c z n v h s) 1 ≡ z
flag_1 c z n v h s = ap (λ (x : ℕ). x == 1) (zero_bit (from_bool c) (from_bool z) _ _ _ _ s (two c) (two z)) ∙ one_of z

flag_4 : (c z n v h : Bool) (s : ℕ) → flag (with_flags c z n v h s) 4 ≡ xor n v
flag_4 c z n v h s =
    ap (λ (x : ℕ). x == 1) (sign_bit (from_bool c) (from_bool z) (from_bool n) (from_bool v) (from_bool (xor n v)) _ s (two c) (two z) (two n) (two v) (two (xor n v)))
    ∙ one_of (xor n v)

-- ---- tests

same_test : (a b c d : ℕ) → (a < b → c < d) → (c < d → a < b) → nat_lt a b ≡ nat_lt c d
same_test a b c d f g = by (cases_lt a b) (cases_lt c d)
  where
    by : (a < b) ⊎ (b ≤ a) → (c < d) ⊎ (d ≤ c) → nat_lt a b ≡ nat_lt c d
    by (inl p) (inl q) = grind (arith, nat_tests)
    by (inl p) (inr q) = absurd (omega (arith, f p))
    by (inr p) (inl q) = absurd (omega (arith, g q))
    by (inr p) (inr q) = grind (arith, nat_tests)

-- ---- bytes

and_true : (b : Bool) → (b && (not false || true)) ≡ b
and_true true = refl
and_true false = refl

zero_alone : (b f : Bool) → (b && (not false || f)) ≡ b
zero_alone true f = refl
zero_alone false f = refl

difference_zero : (x y : ℕ) → x < 256 → y < 256 → (difference_of x y false == 0) ≡ (x == y)
difference_zero x y a b = by (cases_eq x y)
  where
    by : (x ≡ y) ⊎ (x ≡ y → ⊥) → (difference_of x y false == 0) ≡ (x == y)
    by (inl e) = eq-eqb (difference_of x y false) 0 (omega (arith, e, a, b)) ∙ sym (eq-eqb x y e)
    by (inr ne) = ne_eqb (difference_of x y false) 0 (λ z. ne (omega (arith, z, a, b))) ∙ sym (ne_eqb x y ne)

sign_told : (x y : ℕ) → x < 256 → y < 256 → xor (nat_le 128 (difference_of x y false)) (overflows (signed_difference_of x y false)) ≡ signed_below 128 x y
sign_told x y a b = grind (arith, ints, nat_tests)

-- ---- pairs

borrow_told : (x y v w : ℕ) → x < 256 → y < 256 → (c : Bool) → c ≡ nat_lt x y → nat_lt v (w + from_bool c) ≡ nat_lt (x + 256 * v) (y + 256 * w)
borrow_told x y v w a b c e = by (cases_lt x y)
  where
    by : (x < y) ⊎ (y ≤ x) → nat_lt v (w + from_bool c) ≡ nat_lt (x + 256 * v) (y + 256 * w)
    by (inl lt) =
        let is : c ≡ true = e ∙ grind (arith, nat_tests) in
        ap (λ (d : Bool). nat_lt v (w + from_bool d)) is ∙ same_test v (w + 1) (x + 256 * v) (y + 256 * w) (λ h. omega (arith, h, lt, a, b)) (λ h. omega (arith, h, lt, a, b))
    by (inr ge) =
        let is : c ≡ false = e ∙ grind (arith, nat_tests) in
        ap (λ (d : Bool). nat_lt v (w + from_bool d)) is ∙ same_test v (w + 0) (x + 256 * v) (y + 256 * w) (λ h. omega (arith, h, ge, a, b)) (λ h. omega (arith, h, ge, a, b))

pair_zero : (x y v w : ℕ) → x < 256 → y < 256 → v < 256 → w < 256 → (c z : Bool) → c ≡ nat_lt x y → z ≡ (x == y)
    → ((difference_of v w c == 0) && (not true || z)) ≡ ((x + 256 * v) == (y + 256 * w))
pair_zero x y v w a b hv hw c z e f = by (cases_eq x y)
  where
    same : z ≡ true → (difference_of v w c == 0) && (not true || z) ≡ (difference_of v w c == 0)
    same is = ap (λ (t : Bool). (difference_of v w c == 0) && (not true || t)) is ∙ and_true (difference_of v w c == 0)

    none : (t u : Bool) → u ≡ false → (t && (not true || u)) ≡ false
    none true u is = is
    none false u is = refl

    by : (x ≡ y) ⊎ (x ≡ y → ⊥) → ((difference_of v w c == 0) && (not true || z)) ≡ ((x + 256 * v) == (y + 256 * w))
    by (inl xy) =
        let no : nat_lt x y ≡ false = grind (arith, nat_tests) in
        let is : c ≡ false = e ∙ no in
        same (f ∙ eq-eqb x y xy)
        ∙ ap (λ (d : Bool). difference_of v w d == 0) is
        ∙ difference_zero v w hv hw
        ∙ high (cases_eq v w)
      where
        high : (v ≡ w) ⊎ (v ≡ w → ⊥) → (v == w) ≡ ((x + 256 * v) == (y + 256 * w))
        high (inl vw) = eq-eqb v w vw ∙ sym (eq-eqb (x + 256 * v) (y + 256 * w) (omega (arith, xy, vw)))
        high (inr ne) = ne_eqb v w ne ∙ sym (ne_eqb (x + 256 * v) (y + 256 * w) (λ same. ne (omega (arith, xy, same))))
    by (inr ne) =
        none (difference_of v w c == 0) z (f ∙ ne_eqb x y ne) ∙ sym (ne_eqb (x + 256 * v) (y + 256 * w) (λ same. ne (omega (arith, same, a, b))))

high_sign : (v w : ℕ) (c : Bool) → v < 256 → w < 256
    → xor (nat_le 128 (difference_of v w c)) (overflows (signed_difference_of v w c)) ≡ nat_lt (signed_place 128 v) (signed_place 128 w + from_bool c)
high_sign v w true a b = grind (arith, ints, nat_tests)
high_sign v w false a b = grind (arith, ints, nat_tests)

pair_place : (x v : ℕ) → x < 256 → v < 256 → signed_place 32768 (x + 256 * v) ≡ x + 256 * signed_place 128 v
pair_place x v a b = grind (arith, nat_tests)

pub compares_are_told : ComparesAreTold
compares_are_told = record {
  low = λ x y sreg a b. record {
    below = flag_0 _ _ _ _ _ sreg ∙ ap (λ (n : ℕ). nat_lt x n) (omega arith);
    equal = flag_1 _ _ _ _ _ sreg ∙ zero_alone (difference_of x y false == 0) (flag sreg 1) ∙ difference_zero x y a b;
    less = flag_4 _ _ _ _ _ sreg ∙ sign_told x y a b;
  };
  high = λ x y v w sreg a b hv hw h. record {
    below = flag_0 _ _ _ _ _ sreg ∙ borrow_told x y v w a b (flag sreg 0) h.below;
    equal = flag_1 _ _ _ _ _ sreg ∙ pair_zero x y v w a b hv hw (flag sreg 0) (flag sreg 1) h.below h.equal;
    less =
        flag_4 _ _ _ _ _ sreg
        ∙ high_sign v w (flag sreg 0) hv hw
        ∙ borrow_told x y (signed_place 128 v) (signed_place 128 w) a b (flag sreg 0) h.below
        ∙ ap₂ nat_lt (sym (pair_place x v a hv)) (sym (pair_place y w b hw));
  };
}
