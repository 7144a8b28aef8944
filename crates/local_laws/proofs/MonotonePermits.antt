-- The bytes that a value permits, and the numbers that a pair does, are monotone.
use Rattle.std.proofs.Common.{◌≡◌, refl, ℕ, ◌+◌, ◌/◌, ◌<◌, nat_le, Bool, true, false, ◌&&◌, Option, Some, None, arith}
use Rattle.std.specs.Int.{bit_at}
use Rattle.std.proofs.lemmas.Bool.Decides.{nat_tests}
use Rattle.avr_model.specs.State.{low, high}
use Rattle.bit_domain.specs.declared.bytes.TriByte.{TriByte}
use Rattle.bit_domain.specs.TriByte.{has, IsWithin}
use Rattle.bit_domain.proofs.AllLaws.{tests_tell_members}
use Rattle.pair_domain.specs.declared.facts.PairFacts.{PairFacts}
use Rattle.pair_domain.specs.declared.intervals.Interval.{Interval}
use Rattle.pair_domain.specs.Facts.{interval_at, IsKnownWithin}
use Rattle.pair_domain.specs.Intervals.{IsIntervalWithin}
use Rattle.abs_state.specs.declared.values.AbsByte.{AbsByte}
use Rattle.abs_state.specs.declared.state.AbsState.{AbsState}
use Rattle.abs_state.specs.Order.{IsByteWithin}
use Rattle.local_rules.specs.Registers.{value}
use Rattle.local_rules.specs.Permitted.{may_be, is_between, is_in_interval, permits_bytes, permits_number}
use Rattle.local_laws.proofs.MonotoneValues.{bit_within}

pub and_more : (a b c d : Bool) → (a ≡ true → c ≡ true) → (b ≡ true → d ≡ true) → a && b ≡ true → c && d ≡ true
and_more true true c d f g e = λ i. f refl i && g refl i
and_more true false c d f g e = cc
and_more false b c d f g e = cc

pub has_more : (b c : TriByte) (x : ℕ) → IsWithin b c → has b x ≡ true → has c x ≡ true
has_more b c x le e =
    (tests_tell_members.bytes c x).1 (λ i lt. bit_within b c i lt le (bit_at x i) ((tests_tell_members.bytes b x).0 e i lt))

pub may_more : (v w : AbsByte) (x : ℕ) → IsByteWithin v w → may_be v x ≡ true → may_be w x ≡ true
may_more v w x le =
    and_more _ _ _ _
    (and_more _ _ _ _ (has_more v.bits w.bits x le.bits) (λ (e : nat_le v.low x ≡ true). let is : nat_le w.low x ≡ true = grind (arith, nat_tests, le.low) in is))
    (λ (e : nat_le x v.high ≡ true). let is : nat_le x w.high ≡ true = grind (arith, nat_tests, le.high) in is)

between_more : (i j : Interval) (p : ℕ) → IsIntervalWithin i j → is_between i.low i.high p ≡ true → is_between j.low j.high p ≡ true
between_more i j p le =
    and_more _ _ _ _ (λ (e : nat_le i.low p ≡ true). let is : nat_le j.low p ≡ true = grind (arith, nat_tests, le.low) in is)
    (λ (e : nat_le p i.high ≡ true). let is : nat_le p j.high ≡ true = grind (arith, nat_tests, le.high) in is)

interval_more : (x y : Option PairFacts) (r p : ℕ) → r < 32 → IsKnownWithin x y → is_in_interval x r p ≡ true → is_in_interval y r p ≡ true
interval_more x None r p there le e = refl
interval_more None (Some g) r p there le e = absurd le
interval_more (Some f) (Some g) r p there le e =
    between_more (interval_at f.intervals (r / 2)) (interval_at g.intervals (r / 2)) p (le.intervals (r / 2) (omega (arith, there))) e

-- the lesser state's registers and pair are within those of the greater
pub record IsPairWithin (s t : AbsState) (r : ℕ) : Type 0 where
  pub there : r < 32
  pub low : IsByteWithin (value s r) (value t r)
  pub high : IsByteWithin (value s (r + 1)) (value t (r + 1))
  pub facts : IsKnownWithin s.facts t.facts

-- by bits and ranges alone
pub bytes_more : (s t : AbsState) (r p : ℕ) → IsByteWithin (value s r) (value t r) → IsByteWithin (value s (r + 1)) (value t (r + 1)) → permits_bytes s r p ≡ true
    → permits_bytes t r p ≡ true
bytes_more s t r p lo hi = and_more _ _ _ _ (may_more (value s r) (value t r) (low p) lo) (may_more (value s (r + 1)) (value t (r + 1)) (high p) hi)

pub permits_more : (s t : AbsState) (r p : ℕ) → IsPairWithin s t r → permits_number s r p ≡ true → permits_number t r p ≡ true
permits_more s t r p le =
    and_more _ _ _ _
    (bytes_more s t r p le.low le.high)
    (interval_more s.facts t.facts r p le.there le.facts)
