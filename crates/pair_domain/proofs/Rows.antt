-- Transfer functions of rows.
use Rattle.std.proofs.Common.{◌≡◌, refl, subst, ℕ, ◌+◌, ◌-◌, ◌*◌, ◌/◌, ◌%◌, ◌<◌, ◌≤◌, Bool, true, false, Some, None, arith}
use Rattle.std.specs.Prelude.{◌==◌, nat_lt, nat_le, if◌then◌else◌}
use Rattle.std.specs.Int.{from_bool}
use Rattle.std.proofs.lemmas.Bool.{eqb-true, eq-eqb, false≢true}
use Rattle.std.proofs.lemmas.Bool.Decides.{nat_tests}
use Rattle.std.proofs.Math.Nat.{mul-le-mul}
use Rattle.avr_model.specs.State.{minus16}
use Rattle.avr_model.specs.Sums.{sum_of, difference_of}
use Rattle.pair_domain.specs.declared.intervals.Interval.{Interval}
use Rattle.pair_domain.specs.Tags.{LiesUp, LiesDown, IsSumTagWithin, up_if, down_if}
use Rattle.pair_domain.specs.Rows.{ToldHolds, IsToldWithin, modulo}
use Rattle.pair_domain.specs.RowLaws.{IsRow, RowsAreTrue, RowsAreMonotone}

-- ---- modulo 65,536

told_by : (test : Bool) (a b x : ℕ) → (test ≡ true → a / 65536 ≡ b / 65536) → a ≤ x → x ≤ b
    → ToldHolds (if test then Some (record { low = a % 65536; high = b % 65536 }) else None) (x % 65536)
told_by false a b x same down up = tt
told_by true a b x same down up = let e = same refl in record { low = omega (arith, e, down, up); high = omega (arith, e, down, up) }

modulo_true : (a b x : ℕ) → a ≤ x → x ≤ b → ToldHolds (modulo a b) (x % 65536)
modulo_true a b x down up = told_by (a / 65536 == b / 65536) a b x (λ e. eqb-true (a / 65536) (b / 65536) e) down up

-- another name of the number
modulo_at : (a b x w : ℕ) → x % 65536 ≡ w → a ≤ x → x ≤ b → ToldHolds (modulo a b) w
modulo_at a b x w is down up = subst (ToldHolds (modulo a b)) is (modulo_true a b x down up)

less_by : (test test' : Bool) (a b a' b' : ℕ) → (test' ≡ true → (a' / 65536 ≡ b' / 65536) × (test ≡ true)) → a ≤ b → a' ≤ a → b ≤ b'
    → IsToldWithin (if test then Some (record { low = a % 65536; high = b % 65536 }) else None) (if test' then Some (record { low = a' % 65536; high = b' % 65536 }) else None)
less_by test false a b a' b' same ordered down up = tt
less_by true true a b a' b' same ordered down up =
    let e = (same refl).0 in record { low = omega (arith, e, ordered, down, up); high = omega (arith, e, ordered, down, up) }
less_by false true a b a' b' same ordered down up = absurd (let e = (same refl).1 in false≢true e)

modulo_less : (a b a' b' : ℕ) → a ≤ b → a' ≤ a → b ≤ b' → IsToldWithin (modulo a b) (modulo a' b')
modulo_less a b a' b' ordered down up =
    less_by (a / 65536 == b / 65536) (a' / 65536 == b' / 65536) a b a' b' (λ t.
    let e = eqb-true (a' / 65536) (b' / 65536) t in (e, eq-eqb (a / 65536) (b / 65536) (omega (arith, e, ordered, down, up)))) ordered down up

-- ---- rows

from_bool_small : (c : Bool) → from_bool c ≤ 1
from_bool_small true = omega arith
from_bool_small false = omega arith

sum_carry : (x z : ℕ) → x < 256 → z < 256 → sum_of x z false % 256 + 256 * from_bool (nat_le 256 (sum_of x z false)) ≡ x + z
sum_carry x z a b = grind (arith, nat_tests)

difference_borrow : (x z : ℕ) → x < 256 → z < 256 → difference_of x z false + z ≡ x + 256 * from_bool (nat_lt x z)
difference_borrow x z a b = grind (arith, nat_tests)

up_true : (i : Interval) (n m x y z : ℕ) → IsRow i n m x y z
    → LiesUp (i.low + n + 256) (i.high + m + 256) (sum_of x z false % 256 + 256 * y) (from_bool (nat_le 256 (sum_of x z false)))
up_true i n m x y z h =
    let e = sum_carry x z h.first (omega (arith, h.high, h.byte)) in
    record { low = omega (arith, e, h.pair.low, h.low); high = omega (arith, e, h.pair.high, h.high) }

down_true : (i : Interval) (n m x y z : ℕ) → IsRow i n m x y z
    → LiesDown (i.low + (256 - m)) (i.high + (256 - n)) (difference_of x z false + 256 * y) (from_bool (nat_lt x z))
down_true i n m x y z h =
    let e = difference_borrow x z h.first (omega (arith, h.high, h.byte)) in
    record { low = omega (arith, e, h.pair.low, h.high, h.byte); high = omega (arith, e, h.pair.high, h.low, h.high, h.byte) }

pub rows_are_true : RowsAreTrue
rows_are_true = record {
  modulo = modulo_true;
  up = λ i w k h. modulo_true (i.low + k) (i.high + k) (w + k) (omega (arith, h.low)) (omega (arith, h.high));
  down = λ i w k small h.
      modulo_at (i.low + (65536 - k)) (i.high + (65536 - k)) (w + (65536 - k)) (minus16 w k) (omega (arith, small)) (omega (arith, h.low)) (omega (arith, h.high));
  pages_up = λ i n m x y z h.
      modulo_at (i.low + 256 * n) (i.high + 256 * m) (x + 256 * y + 256 * z) (x + 256 * (sum_of y z false % 256)) (omega (arith, h.first, h.second, h.high, h.byte))
      (omega (arith, h.pair.low, h.low)) (omega (arith, h.pair.high, h.high));
  pages_down = λ i n m x y z h.
      modulo_at (i.low + (65536 - 256 * m)) (i.high + (65536 - 256 * n)) (x + 256 * y + (65536 - 256 * z)) (x + 256 * difference_of y z false)
      (omega (arith, h.first, h.second, h.high, h.byte)) (omega (arith, h.pair.low, h.high, h.byte)) (omega (arith, h.pair.high, h.low, h.high, h.byte));
  up_tag = up_true;
  down_tag = down_true;
  carried_up = λ a b n m x y z c first second down up byte h.
      modulo_at (a + (65280 + 256 * n)) (b + (65280 + 256 * m)) (x + 256 * y + 256 + 256 * from_bool c + (65280 + 256 * z)) (x + 256 * (sum_of y z c % 256))
      (omega (arith, from_bool_small c, first, second, up, byte)) (omega (arith, h.low, down)) (omega (arith, h.high, up));
  carried_down = λ a b n m x y z c first second down up byte h.
      modulo_at (a + (65280 - 256 * m)) (b + (65280 - 256 * n)) (x + 256 * y + 256 + (65280 - 256 * z) - 256 * from_bool c) (x + 256 * difference_of y z c)
      (omega (arith, from_bool_small c, first, second, up, byte)) (omega (arith, h.low, up, byte, from_bool_small c)) (omega (arith, h.high, down, up, byte, from_bool_small c));
  product = λ n m n' m' x y a b c d. record { low = mul-le-mul a c; high = mul-le-mul b d };
}

-- tags are monotone in their ends, and none is kept if these are too far apart
up_less : (test test' : Bool) (r a b c d : ℕ) → nat_lt b (a + 65535) ≡ test → nat_lt d (c + 65535) ≡ test' → c ≤ a → b ≤ d
    → IsSumTagWithin (up_if test r a b) (up_if test' r c d)
up_less test false r a b c d e e' low high = tt
up_less true true r a b c d e e' low high = λ near. record { pair = refl; low = low; high = high }
up_less false true r a b c d e e' low high = absurd (grind (arith, nat_tests, e, e', low, high))

down_less : (test test' : Bool) (r a b c d : ℕ) → nat_lt b (a + 65535) ≡ test → nat_lt d (c + 65535) ≡ test' → c ≤ a → b ≤ d
    → IsSumTagWithin (down_if test r a b) (down_if test' r c d)
down_less test false r a b c d e e' low high = tt
down_less true true r a b c d e e' low high = λ near. record { pair = refl; low = low; high = high }
down_less false true r a b c d e e' low high = absurd (grind (arith, nat_tests, e, e', low, high))

pub rows_are_monotone : RowsAreMonotone
rows_are_monotone = record {
  modulo = modulo_less;
  up = λ i i' k o le. modulo_less (i.low + k) (i.high + k) (i'.low + k) (i'.high + k) (omega (arith, o)) (omega (arith, le.low)) (omega (arith, le.high));
  down = λ i i' k o le.
      modulo_less (i.low + (65536 - k)) (i.high + (65536 - k)) (i'.low + (65536 - k)) (i'.high + (65536 - k)) (omega (arith, o)) (omega (arith, le.low)) (omega (arith, le.high));
  pages_up = λ i i' n m n' m' o p le down up.
      modulo_less (i.low + 256 * n) (i.high + 256 * m) (i'.low + 256 * n') (i'.high + 256 * m') (omega (arith, o, p)) (omega (arith, le.low, down)) (omega (arith, le.high, up));
  pages_down = λ i i' n m n' m' o p le down up.
      modulo_less (i.low + (65536 - 256 * m)) (i.high + (65536 - 256 * n)) (i'.low + (65536 - 256 * m')) (i'.high + (65536 - 256 * n')) (omega (arith, o, p))
      (omega (arith, le.low, up)) (omega (arith, le.high, down));
  up_tag = λ r i i' n m n' m' le down up.
      up_less _ _ r (i.low + n + 256) (i.high + m + 256) (i'.low + n' + 256) (i'.high + m' + 256) refl refl (omega (arith, le.low, down)) (omega (arith, le.high, up));
  down_tag = λ r i i' n m n' m' le down up.
      down_less _ _ r (i.low + (256 - m)) (i.high + (256 - n)) (i'.low + (256 - m')) (i'.high + (256 - n')) refl refl (omega (arith, le.low, up)) (omega (arith, le.high, down));
  carried_up = λ a b a' b' n m n' m' o p l h down up.
      modulo_less (a + (65280 + 256 * n)) (b + (65280 + 256 * m)) (a' + (65280 + 256 * n')) (b' + (65280 + 256 * m')) (omega (arith, o, p)) (omega (arith, l, down))
      (omega (arith, h, up));
  carried_down = λ a b a' b' n m n' m' o p l h down up.
      modulo_less (a + (65280 - 256 * m)) (b + (65280 - 256 * n)) (a' + (65280 - 256 * m')) (b' + (65280 - 256 * n')) (omega (arith, o, p)) (omega (arith, l, up))
      (omega (arith, h, down));
  product = λ n m n' m' k l k' l' a b c d. record { low = mul-le-mul a c; high = mul-le-mul b d };
}
