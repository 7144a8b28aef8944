-- Intervals widened to marks.
use Rattle.std.proofs.Common.{◌≡◌, refl, ℕ, ◌<◌, ◌≤◌, max, min, Bool, true, false, List, [], ◌∷◌, arith}
use Rattle.std.specs.Prelude.{nat_le, if◌then◌else◌}
use Rattle.std.proofs.lemmas.Bool.{false≢true}
use Rattle.std.proofs.lemmas.Bool.Decides.{nat_tests}
use Rattle.pair_domain.specs.declared.intervals.Interval.{Interval}
use Rattle.pair_domain.specs.Intervals.{IsIntervalWithin}
use Rattle.pair_domain.specs.Marks.{mark_below, mark_above, outward}
use Rattle.pair_domain.specs.MarkLaws.{MarksWiden}

is_le : (a b : ℕ) → a ≤ b → nat_le a b ≡ true
is_le a b le = grind (arith, nat_tests)

was_le : (a b : ℕ) → nat_le a b ≡ true → a ≤ b
was_le a b e = grind (arith, nat_tests)

-- ---- by the first mark

below_by : (b : Bool) (m x rest : ℕ) → (b ≡ true → m ≤ x) → rest ≤ x → (if b then max m rest else rest) ≤ x
below_by true m x rest le h = omega (arith, le refl, h)
below_by false m x rest le h = h

below_le : (marks : List ℕ) (x : ℕ) → mark_below marks x ≤ x
below_le [] x = omega arith
below_le (m ∷ ms) x = below_by (nat_le m x) m x (mark_below ms x) (was_le m x) (below_le ms x)

above_by : (b : Bool) (m x rest : ℕ) → (b ≡ true → x ≤ m) → x ≤ rest → x ≤ (if b then min m rest else rest)
above_by true m x rest le h = omega (arith, le refl, h)
above_by false m x rest le h = h

above_le : (marks : List ℕ) (x : ℕ) → x < 65536 → x ≤ mark_above marks x
above_le [] x h = omega (arith, h)
above_le (m ∷ ms) x h = above_by (nat_le x m) m x (mark_above ms x) (was_le x m) (above_le ms x h)

small_by : (b : Bool) (m rest : ℕ) → rest < 65536 → (if b then min m rest else rest) < 65536
small_by true m rest h = omega (arith, h)
small_by false m rest h = h

above_small : (marks : List ℕ) (x : ℕ) → mark_above marks x < 65536
above_small [] x = omega arith
above_small (m ∷ ms) x = small_by (nat_le x m) m (mark_above ms x) (above_small ms x)

below_more_by : (b c : Bool) (m rest rest' : ℕ) → (b ≡ true → c ≡ true) → rest ≤ rest' → (if b then max m rest else rest) ≤ (if c then max m rest' else rest')
below_more_by true true m rest rest' same h = omega (arith, h)
below_more_by true false m rest rest' same h = absurd (false≢true (same refl))
below_more_by false true m rest rest' same h = omega (arith, h)
below_more_by false false m rest rest' same h = h

below_more : (marks : List ℕ) (x y : ℕ) → x ≤ y → mark_below marks x ≤ mark_below marks y
below_more [] x y le = omega arith
below_more (m ∷ ms) x y le =
    below_more_by (nat_le m x) (nat_le m y) m (mark_below ms x) (mark_below ms y) (λ e. is_le m y (omega (arith, was_le m x e, le))) (below_more ms x y le)

above_more_by : (b c : Bool) (m rest rest' : ℕ) → (c ≡ true → b ≡ true) → rest ≤ rest' → (if b then min m rest else rest) ≤ (if c then min m rest' else rest')
above_more_by true true m rest rest' same h = omega (arith, h)
above_more_by true false m rest rest' same h = omega (arith, h)
above_more_by false true m rest rest' same h = absurd (false≢true (same refl))
above_more_by false false m rest rest' same h = h

above_more : (marks : List ℕ) (x y : ℕ) → x ≤ y → mark_above marks x ≤ mark_above marks y
above_more [] x y le = omega arith
above_more (m ∷ ms) x y le =
    above_more_by (nat_le x m) (nat_le y m) m (mark_above ms x) (mark_above ms y) (λ e. is_le x m (omega (arith, was_le y m e, le))) (above_more ms x y le)

pub marks_widen_outward : (marks : List ℕ) (i : Interval) → i.high < 65536 → IsIntervalWithin i (outward marks i)
marks_widen_outward marks i h = record { low = below_le marks i.low; high = above_le marks i.high h }

pub marks_small : (marks : List ℕ) (i : Interval) → (outward marks i).high < 65536
marks_small marks i = above_small marks i.high

pub marks_more : (marks : List ℕ) (i j : Interval) → IsIntervalWithin i j → IsIntervalWithin (outward marks i) (outward marks j)
marks_more marks i j le = record { low = below_more marks j.low i.low le.low; high = above_more marks i.high j.high le.high }

pub marks_widen : MarksWiden
marks_widen = record { within = marks_widen_outward; small = marks_small; more = marks_more }
