-- Tags of an instruction are monotone, fit, and are within those that the plain rules leave.
use Rattle.std.proofs.Common.{◌≡◌, refl, sym, ◌∙◌, ap, subst, ℕ, ◌+◌, ◌*◌, ◌/◌, ◌%◌, ◌<◌, ◌≤◌, ◌==◌, nat_lt, ◌&&◌, if◌then◌else◌, ◌⊎◌, inl, inr, Bool, true, false, Option, Some, None, arith}
use Rattle.std.proofs.lemmas.Bool.{cases_eq, eqb-true, eq-eqb, and_parts, false≢true}
use Rattle.std.proofs.lemmas.Bool.Decides.{nat_tests}
use Rattle.std.proofs.lemmas.Option.{same_Some}
use Rattle.avr_model.specs.declared.instruction.Instr.{Instr}
use Rattle.avr_model.specs.declared.instruction.Instr.TheVariants as i
use Rattle.avr_model.specs.declared.instruction.BinaryOp.{BinaryOp}
use Rattle.avr_model.specs.declared.instruction.BinaryOp.TheVariants as binary
use Rattle.avr_model.specs.declared.instruction.ImmediateOp.{ImmediateOp}
use Rattle.avr_model.specs.declared.instruction.ImmediateOp.TheVariants as immediate
use Rattle.avr_model.specs.declared.instruction.UnaryOp.{UnaryOp}
use Rattle.avr_model.specs.declared.instruction.UnaryOp.TheVariants as unary
use Rattle.avr_model.specs.Written.{written}
use Rattle.pair_domain.specs.declared.tags.SumTag.{SumTag}
use Rattle.pair_domain.specs.declared.tags.SumTag.TheVariants as sum
use Rattle.pair_domain.specs.declared.tags.CompareTag.{CompareTag}
use Rattle.pair_domain.specs.declared.tags.CompareTag.TheVariants as compare
use Rattle.pair_domain.specs.declared.tags.ZeroTag.{ZeroTag}
use Rattle.pair_domain.specs.declared.tags.ZeroTag.TheVariants as zero
use Rattle.pair_domain.specs.declared.facts.PairFacts.{PairFacts}
use Rattle.pair_domain.specs.Tags.{IsSumTagWithin, IsCompareWithin, IsZeroWithin, up_if, down_if}
use Rattle.pair_domain.specs.Facts.{AreFactsWithin, IsKnownWithin}
use Rattle.pair_domain.specs.Rank.{IsPair, SumFits, CompareFits, ZeroFits, FactsFit, KnownFits}
use Rattle.pair_domain.specs.Rows.{up_tag, down_tag}
use Rattle.pair_domain.proofs.AllLaws.{rows_are_monotone, compares_are_ordered, zeros_are_ordered}
use Rattle.bit_domain.proofs.AllLaws.{ranges_fit}
use Rattle.abs_state.specs.declared.state.AbsState.{AbsState}
use Rattle.abs_state.specs.Values.{value_at}
use Rattle.abs_state.specs.Order.{IsStateWithin}
use Rattle.abs_state.specs.Formed.{IsFormed}
use Rattle.pair_rules.specs.Told.{interval_of, is_odd}
use Rattle.pair_rules.specs.Tags.{sum_of_add, sum_of_sub, sum_of_binary, sum_of_immediate, sum_of, compare_high, compare_of_binary, compare_of_immediate, compare_of, zero_high, zero_of_binary, zero_of_immediate, zero_of_unary, zero_of, tagged}
use Rattle.abs_state.specs.Ended.{is_one_of, sum_ended, compare_ended, zero_ended, facts_ended}
use Rattle.abs_state.specs.FlagsSet.{sets_flags, sets_carry}
use Rattle.pair_rules.specs.Hulls.{ended_by}
use Rattle.pair_rules.specs.Fits.{HasRegisters}
use Rattle.pair_laws.proofs.ToldLess.{AreBounds, bounds_at, bounds_of}

-- ---- sums

module _ (f f' : PairFacts) (le : AreFactsWithin f f') where
  add_within : (d n m n' m' : ℕ) → d < 32 → AreBounds n m n' m' → IsSumTagWithin (sum_of_add f d n m) (sum_of_add f' d n' m')
  add_within d n m n' m' lt b = by (is_odd d)
    where
      by : (odd : Bool) → IsSumTagWithin (if odd then sum.None else up_tag d (interval_of f d) n m) (if odd then sum.None else up_tag d (interval_of f' d) n' m')
      by true = tt
      by false = rows_are_monotone.up_tag d (interval_of f d) (interval_of f' d) n m n' m' (le.intervals (d / 2) (omega (arith, lt))) b.low b.high

  sub_within : (d n m n' m' : ℕ) → d < 32 → AreBounds n m n' m' → IsSumTagWithin (sum_of_sub f d n m) (sum_of_sub f' d n' m')
  sub_within d n m n' m' lt b = by (is_odd d)
    where
      by : (odd : Bool) → IsSumTagWithin (if odd then sum.None else down_tag d (interval_of f d) n m) (if odd then sum.None else down_tag d (interval_of f' d) n' m')
      by true = tt
      by false = rows_are_monotone.down_tag d (interval_of f d) (interval_of f' d) n m n' m' (le.intervals (d / 2) (omega (arith, lt))) b.low b.high

  compare_less : (t t' : CompareTag) (d p : ℕ) → IsCompareWithin t t' → IsCompareWithin (compare_high t d p) (compare_high t' d p)
  compare_less t compare.None d p within = tt
  compare_less t (compare.Pair r y q) d p within = tt
  compare_less t (compare.Byte x y) d p within =
      subst (λ (u : CompareTag). IsCompareWithin (compare_high u d p) (compare_high (compare.Byte x y) d p)) (sym within)
      (compares_are_ordered.same (compare_high (compare.Byte x y) d p))

  zero_less : (t t' : ZeroTag) (d : ℕ) → IsZeroWithin t t' → IsZeroWithin (zero_high t d) (zero_high t' d)
  zero_less t zero.None d within = tt
  zero_less t (zero.Pair r) d within = tt
  zero_less t (zero.Byte x) d within =
      subst (λ (u : ZeroTag). IsZeroWithin (zero_high u d) (zero_high (zero.Byte x) d)) (sym within) (zeros_are_ordered.same (zero_high (zero.Byte x) d))

  module _ (s s' : AbsState) (n : ℕ) (formed : IsFormed s n) (within : IsStateWithin s s') where
    sum_binary : (op : BinaryOp) (d r : ℕ) → d < 32 → r < 32 → IsSumTagWithin (sum_of_binary s.registers f op d r) (sum_of_binary s'.registers f' op d r)
    sum_binary binary.Cpc d r lt other = tt
    sum_binary binary.Sbc d r lt other = tt
    sum_binary binary.Add d r lt other = add_within d _ _ _ _ lt (bounds_at s s' n r formed within other)
    sum_binary binary.Cpse d r lt other = tt
    sum_binary binary.Cp d r lt other = tt
    sum_binary binary.Sub d r lt other = sub_within d _ _ _ _ lt (bounds_at s s' n r formed within other)
    sum_binary binary.Adc d r lt other = tt
    sum_binary binary.And d r lt other = tt
    sum_binary binary.Eor d r lt other = tt
    sum_binary binary.Or d r lt other = tt
    sum_binary binary.Mov d r lt other = tt
    sum_binary binary.Mul d r lt other = tt

    sum_immediate : (op : ImmediateOp) (d k : ℕ) → d < 32 → IsSumTagWithin (sum_of_immediate f op d k) (sum_of_immediate f' op d k)
    sum_immediate immediate.Cpi d k lt = tt
    sum_immediate immediate.Sbci d k lt = tt
    sum_immediate immediate.Subi d k lt = sub_within d k k k k lt (bounds_of k)
    sum_immediate immediate.Ori d k lt = tt
    sum_immediate immediate.Andi d k lt = tt
    sum_immediate immediate.Ldi d k lt = tt

    sums_less : (instr : Instr) → HasRegisters instr → IsSumTagWithin (sum_of s.registers f instr) (sum_of s'.registers f' instr)
    sums_less (i.Binary op d r) fit = sum_binary op d r fit.0 fit.1
    sums_less (i.Immediate op d k) fit = sum_immediate op d k fit.0
    sums_less _ fit = tt

    compare_binary : (op : BinaryOp) (d r : ℕ) → IsCompareWithin (compare_of_binary f op d r) (compare_of_binary f' op d r)
    compare_binary binary.Cpc d r = compare_less f.compare f'.compare d r le.compare
    compare_binary binary.Sbc d r = tt
    compare_binary binary.Add d r = tt
    compare_binary binary.Cpse d r = tt
    compare_binary binary.Cp d r = refl
    compare_binary binary.Sub d r = tt
    compare_binary binary.Adc d r = tt
    compare_binary binary.And d r = tt
    compare_binary binary.Eor d r = tt
    compare_binary binary.Or d r = tt
    compare_binary binary.Mov d r = tt
    compare_binary binary.Mul d r = tt

    compare_immediate : (op : ImmediateOp) (d k : ℕ) → IsCompareWithin (compare_of_immediate op d k) (compare_of_immediate op d k)
    compare_immediate op d k = compares_are_ordered.same (compare_of_immediate op d k)

    compares_less : (instr : Instr) → IsCompareWithin (compare_of f instr) (compare_of f' instr)
    compares_less (i.Binary op d r) = compare_binary op d r
    compares_less (i.Immediate op d k) = compare_immediate op d k
    compares_less _ = tt

    zero_binary : (op : BinaryOp) (d : ℕ) → IsZeroWithin (zero_of_binary f op d) (zero_of_binary f' op d)
    zero_binary binary.Cpc d = tt
    zero_binary binary.Sbc d = zero_less f.zero f'.zero d le.zero
    zero_binary binary.Add d = refl
    zero_binary binary.Cpse d = tt
    zero_binary binary.Cp d = tt
    zero_binary binary.Sub d = refl
    zero_binary binary.Adc d = refl
    zero_binary binary.And d = refl
    zero_binary binary.Eor d = refl
    zero_binary binary.Or d = refl
    zero_binary binary.Mov d = tt
    zero_binary binary.Mul d = tt

    zero_immediate : (op : ImmediateOp) (d : ℕ) → IsZeroWithin (zero_of_immediate f op d) (zero_of_immediate f' op d)
    zero_immediate immediate.Cpi d = tt
    zero_immediate immediate.Sbci d = zero_less f.zero f'.zero d le.zero
    zero_immediate immediate.Subi d = refl
    zero_immediate immediate.Ori d = refl
    zero_immediate immediate.Andi d = refl
    zero_immediate immediate.Ldi d = tt

    zeros_less : (instr : Instr) → IsZeroWithin (zero_of f instr) (zero_of f' instr)
    zeros_less (i.Binary op d r) = zero_binary op d
    zeros_less (i.Immediate op d k) = zero_immediate op d
    zeros_less (i.Unary op d) = zeros_are_ordered.same (zero_of_unary op d)
    zeros_less (i.Adiw d k) = refl
    zeros_less (i.Sbiw d k) = refl
    zeros_less _ = tt

    pub tags_more : (instr : Instr) (x y : Option PairFacts) → HasRegisters instr → IsKnownWithin x y
        → IsKnownWithin (tagged s.registers f instr x) (tagged s'.registers f' instr y)
    tags_more instr x None fit old = tt
    tags_more instr None (Some h) fit old = absurd old
    tags_more instr (Some g) (Some h) fit old = record {
      intervals = old.intervals;
      sum = sum_by (sets_carry instr);
      compare = compare_by (sets_flags instr);
      zero = zero_by (sets_flags instr);
    }
      where
        sum_by : (b : Bool) → IsSumTagWithin (if b then sum_of s.registers f instr else g.sum) (if b then sum_of s'.registers f' instr else h.sum)
        sum_by true = sums_less instr fit
        sum_by false = old.sum

        compare_by : (b : Bool) → IsCompareWithin (if b then compare_of f instr else g.compare) (if b then compare_of f' instr else h.compare)
        compare_by true = compares_less instr
        compare_by false = old.compare

        zero_by : (b : Bool) → IsZeroWithin (if b then zero_of f instr else g.zero) (if b then zero_of f' instr else h.zero)
        zero_by true = zeros_less instr
        zero_by false = old.zero

-- ---- they fit

even_pair : (d : ℕ) → d < 32 → is_odd d ≡ false → IsPair d
even_pair d lt e = record { register = lt; even = by (cases_eq (d % 2) 1) }
  where
    by : (d % 2 ≡ 1) ⊎ (d % 2 ≡ 1 → ⊥) → d % 2 ≡ 0
    by (inl odd) = absurd (false≢true (sym e ∙ eq-eqb (d % 2) 1 odd))
    by (inr even) = omega arith

up_fits : (test : Bool) (r a b : ℕ) → nat_lt b (a + 65535) ≡ test → IsPair r → a ≤ b → b < 1048576 → SumFits (up_if test r a b)
up_fits false r a b e pair ordered small = tt
up_fits true r a b e pair ordered small = record { pair = pair; ordered = ordered; near = grind (arith, nat_tests); small = small }

down_fits : (test : Bool) (r a b : ℕ) → nat_lt b (a + 65535) ≡ test → IsPair r → a ≤ b → b < 1048576 → SumFits (down_if test r a b)
down_fits false r a b e pair ordered small = tt
down_fits true r a b e pair ordered small = record { pair = pair; ordered = ordered; near = grind (arith, nat_tests); small = small }

module _ (f : PairFacts) (fits : FactsFit f) where
  add_fits : (d n m : ℕ) → d < 32 → n ≤ m → m < 256 → SumFits (sum_of_add f d n m)
  add_fits d n m lt ordered byte = by (is_odd d) refl
    where
      by : (odd : Bool) → is_odd d ≡ odd → SumFits (if odd then sum.None else up_tag d (interval_of f d) n m)
      by true e = tt
      by false e =
          let j = fits.intervals (d / 2) (omega (arith, lt)) in
          up_fits _ d _ _ refl (even_pair d lt e) (omega (arith, j.ordered, ordered)) (omega (arith, j.small, byte))

  sub_fits : (d n m : ℕ) → d < 32 → n ≤ m → m < 256 → SumFits (sum_of_sub f d n m)
  sub_fits d n m lt ordered byte = by (is_odd d) refl
    where
      by : (odd : Bool) → is_odd d ≡ odd → SumFits (if odd then sum.None else down_tag d (interval_of f d) n m)
      by true e = tt
      by false e =
          let j = fits.intervals (d / 2) (omega (arith, lt)) in
          down_fits _ d _ _ refl (even_pair d lt e) (omega (arith, j.ordered, ordered)) (omega (arith, j.small))

  high_pair : (x d : ℕ) → d < 32 → (is_odd d && (x + 1 == d)) ≡ true → IsPair x
  high_pair x d lt e =
      let parts = and_parts (is_odd d) (x + 1 == d) e in
      let odd : d % 2 ≡ 1 = eqb-true (d % 2) 1 parts.0 in
      let is : x + 1 ≡ d = eqb-true (x + 1) d parts.1 in
      record { register = omega arith; even = omega arith }

  compare_fits : (t : CompareTag) (d p : ℕ) → CompareFits t → d < 32 → p < 32 → CompareFits (compare_high t d p)
  compare_fits compare.None d p fit lt other = tt
  compare_fits (compare.Pair r y q) d p fit lt other = tt
  compare_fits (compare.Byte x y) d p fit lt other = by (is_odd d && (x + 1 == d)) refl
    where
      by : (test : Bool) → (is_odd d && (x + 1 == d)) ≡ test → CompareFits (if test then compare.Pair x y p else compare.None)
      by true e = (high_pair x d lt e, fit.1, other)
      by false e = tt

  zero_fits : (t : ZeroTag) (d : ℕ) → d < 32 → ZeroFits (zero_high t d)
  zero_fits zero.None d lt = tt
  zero_fits (zero.Pair r) d lt = tt
  zero_fits (zero.Byte x) d lt = by (is_odd d && (x + 1 == d)) refl
    where
      by : (test : Bool) → (is_odd d && (x + 1 == d)) ≡ test → ZeroFits (if test then zero.Pair x else zero.None)
      by true e = high_pair x d lt e
      by false e = tt

  module _ (s : AbsState) (n : ℕ) (formed : IsFormed s n) where
    ordered_at : (r : ℕ) → r < 32 → (value_at s.registers r).low ≤ (value_at s.registers r).high
    ordered_at r lt = (formed.ranges r (omega (arith, lt))).ordered

    byte_at : (r : ℕ) → r < 32 → (value_at s.registers r).high < 256
    byte_at r lt = omega (arith, (formed.ranges r (omega (arith, lt))).high, ranges_fit.most (value_at s.registers r).bits)

    binary_sum_fits : (op : BinaryOp) (d r : ℕ) → d < 32 → r < 32 → SumFits (sum_of_binary s.registers f op d r)
    binary_sum_fits binary.Cpc d r lt other = tt
    binary_sum_fits binary.Sbc d r lt other = tt
    binary_sum_fits binary.Add d r lt other = add_fits d _ _ lt (ordered_at r other) (byte_at r other)
    binary_sum_fits binary.Cpse d r lt other = tt
    binary_sum_fits binary.Cp d r lt other = tt
    binary_sum_fits binary.Sub d r lt other = sub_fits d _ _ lt (ordered_at r other) (byte_at r other)
    binary_sum_fits binary.Adc d r lt other = tt
    binary_sum_fits binary.And d r lt other = tt
    binary_sum_fits binary.Eor d r lt other = tt
    binary_sum_fits binary.Or d r lt other = tt
    binary_sum_fits binary.Mov d r lt other = tt
    binary_sum_fits binary.Mul d r lt other = tt

    immediate_sum_fits : (op : ImmediateOp) (d k : ℕ) → d < 32 → k < 256 → SumFits (sum_of_immediate f op d k)
    immediate_sum_fits immediate.Cpi d k lt byte = tt
    immediate_sum_fits immediate.Sbci d k lt byte = tt
    immediate_sum_fits immediate.Subi d k lt byte = sub_fits d k k lt (omega arith) byte
    immediate_sum_fits immediate.Ori d k lt byte = tt
    immediate_sum_fits immediate.Andi d k lt byte = tt
    immediate_sum_fits immediate.Ldi d k lt byte = tt

    sums_fit : (instr : Instr) → HasRegisters instr → SumFits (sum_of s.registers f instr)
    sums_fit (i.Binary op d r) fit = binary_sum_fits op d r fit.0 fit.1
    sums_fit (i.Immediate op d k) fit = immediate_sum_fits op d k fit.0 fit.1
    sums_fit _ fit = tt

    binary_compare_fits : (op : BinaryOp) (d r : ℕ) → d < 32 → r < 32 → CompareFits (compare_of_binary f op d r)
    binary_compare_fits binary.Cpc d r lt other = compare_fits f.compare d r fits.compare lt other
    binary_compare_fits binary.Sbc d r lt other = tt
    binary_compare_fits binary.Add d r lt other = tt
    binary_compare_fits binary.Cpse d r lt other = tt
    binary_compare_fits binary.Cp d r lt other = (lt, other)
    binary_compare_fits binary.Sub d r lt other = tt
    binary_compare_fits binary.Adc d r lt other = tt
    binary_compare_fits binary.And d r lt other = tt
    binary_compare_fits binary.Eor d r lt other = tt
    binary_compare_fits binary.Or d r lt other = tt
    binary_compare_fits binary.Mov d r lt other = tt
    binary_compare_fits binary.Mul d r lt other = tt

    immediate_compare_fits : (op : ImmediateOp) (d k : ℕ) → d < 32 → k < 256 → CompareFits (compare_of_immediate op d k)
    immediate_compare_fits immediate.Cpi d k lt byte = (lt, byte)
    immediate_compare_fits immediate.Sbci d k lt byte = tt
    immediate_compare_fits immediate.Subi d k lt byte = tt
    immediate_compare_fits immediate.Ori d k lt byte = tt
    immediate_compare_fits immediate.Andi d k lt byte = tt
    immediate_compare_fits immediate.Ldi d k lt byte = tt

    compares_fit : (instr : Instr) → HasRegisters instr → CompareFits (compare_of f instr)
    compares_fit (i.Binary op d r) fit = binary_compare_fits op d r fit.0 fit.1
    compares_fit (i.Immediate op d k) fit = immediate_compare_fits op d k fit.0 fit.1
    compares_fit _ fit = tt

    binary_zero_fits : (op : BinaryOp) (d : ℕ) → d < 32 → ZeroFits (zero_of_binary f op d)
    binary_zero_fits binary.Cpc d lt = tt
    binary_zero_fits binary.Sbc d lt = zero_fits f.zero d lt
    binary_zero_fits binary.Add d lt = lt
    binary_zero_fits binary.Cpse d lt = tt
    binary_zero_fits binary.Cp d lt = tt
    binary_zero_fits binary.Sub d lt = lt
    binary_zero_fits binary.Adc d lt = lt
    binary_zero_fits binary.And d lt = lt
    binary_zero_fits binary.Eor d lt = lt
    binary_zero_fits binary.Or d lt = lt
    binary_zero_fits binary.Mov d lt = tt
    binary_zero_fits binary.Mul d lt = tt

    immediate_zero_fits : (op : ImmediateOp) (d : ℕ) → d < 32 → ZeroFits (zero_of_immediate f op d)
    immediate_zero_fits immediate.Cpi d lt = tt
    immediate_zero_fits immediate.Sbci d lt = zero_fits f.zero d lt
    immediate_zero_fits immediate.Subi d lt = lt
    immediate_zero_fits immediate.Ori d lt = lt
    immediate_zero_fits immediate.Andi d lt = lt
    immediate_zero_fits immediate.Ldi d lt = tt

    unary_zero_fits : (op : UnaryOp) (d : ℕ) → d < 32 → ZeroFits (zero_of_unary op d)
    unary_zero_fits unary.Com d lt = lt
    unary_zero_fits unary.Neg d lt = lt
    unary_zero_fits unary.Swap d lt = tt
    unary_zero_fits unary.Inc d lt = lt
    unary_zero_fits unary.Asr d lt = lt
    unary_zero_fits unary.Lsr d lt = lt
    unary_zero_fits unary.Ror d lt = lt
    unary_zero_fits unary.Dec d lt = lt

    wide_pair : (d : ℕ) → d < 16 → IsPair (2 * d)
    wide_pair d lt = record { register = omega (arith, lt); even = omega arith }

    zeros_fit : (instr : Instr) → HasRegisters instr → ZeroFits (zero_of f instr)
    zeros_fit (i.Binary op d r) fit = binary_zero_fits op d fit.0
    zeros_fit (i.Immediate op d k) fit = immediate_zero_fits op d fit.0
    zeros_fit (i.Unary op d) fit = unary_zero_fits op d fit
    zeros_fit (i.Adiw d k) fit = wide_pair d fit.0
    zeros_fit (i.Sbiw d k) fit = wide_pair d fit.0
    zeros_fit _ fit = tt

    pub tags_fit : (instr : Instr) (x : Option PairFacts) → HasRegisters instr → KnownFits x → KnownFits (tagged s.registers f instr x)
    tags_fit instr None fit old = tt
    tags_fit instr (Some g) fit old = record {
      count = old.count;
      intervals = old.intervals;
      sum = sum_by (sets_carry instr);
      compare = compare_by (sets_flags instr);
      zero = zero_by (sets_flags instr);
    }
      where
        sum_by : (b : Bool) → SumFits (if b then sum_of s.registers f instr else g.sum)
        sum_by true = sums_fit instr fit
        sum_by false = old.sum

        compare_by : (b : Bool) → CompareFits (if b then compare_of f instr else g.compare)
        compare_by true = compares_fit instr fit
        compare_by false = old.compare

        zero_by : (b : Bool) → ZeroFits (if b then zero_of f instr else g.zero)
        zero_by true = zeros_fit instr fit
        zero_by false = old.zero

-- ---- where the tags were ended before

-- a write of C ends the sum tag, a write of flags ends the others
sum_gone : (written : ℕ → Bool) (t : SumTag) → sum_ended written true t ≡ sum.None
sum_gone written sum.None = refl
sum_gone written (sum.Up r a b) = refl
sum_gone written (sum.Down r a b) = refl

compare_gone : (written : ℕ → Bool) (t : CompareTag) → compare_ended written true t ≡ compare.None
compare_gone written compare.None = refl
compare_gone written (compare.Byte x y) = refl
compare_gone written (compare.Pair r y p) = refl

zero_gone : (written : ℕ → Bool) (t : ZeroTag) → zero_ended written true t ≡ zero.None
zero_gone written zero.None = refl
zero_gone written (zero.Byte x) = refl
zero_gone written (zero.Pair r) = refl

-- x is above what was left; y has fewer tags than x
pub tags_under : (s : AbsState) (f : PairFacts) (instr : Instr) (x y : Option PairFacts) → y ≡ ended_by instr (Some f) → IsKnownWithin x y
    → IsKnownWithin (tagged s.registers f instr x) y
tags_under s f instr x None is le = tt
tags_under s f instr None (Some h) is le = absurd le
tags_under s f instr (Some g) (Some h) is le = record {
  intervals = le.intervals;
  sum = sum_by (sets_carry instr) (ap (λ (k : PairFacts). k.sum) same);
  compare = compare_by (sets_flags instr) (ap (λ (k : PairFacts). k.compare) same);
  zero = zero_by (sets_flags instr) (ap (λ (k : PairFacts). k.zero) same);
}
  where
    same : h ≡ facts_ended (is_one_of (written instr)) (sets_flags instr) (sets_carry instr) f
    same = same_Some h (facts_ended (is_one_of (written instr)) (sets_flags instr) (sets_carry instr) f) is

    sum_by : (b : Bool) → h.sum ≡ sum_ended (is_one_of (written instr)) b f.sum → IsSumTagWithin (if b then sum_of s.registers f instr else g.sum) h.sum
    sum_by true e = subst (IsSumTagWithin (sum_of s.registers f instr)) (sym (e ∙ sum_gone (is_one_of (written instr)) f.sum)) tt
    sum_by false e = le.sum

    compare_by : (b : Bool) → h.compare ≡ compare_ended (is_one_of (written instr)) b f.compare → IsCompareWithin (if b then compare_of f instr else g.compare) h.compare
    compare_by true e = subst (IsCompareWithin (compare_of f instr)) (sym (e ∙ compare_gone (is_one_of (written instr)) f.compare)) tt
    compare_by false e = le.compare

    zero_by : (b : Bool) → h.zero ≡ zero_ended (is_one_of (written instr)) b f.zero → IsZeroWithin (if b then zero_of f instr else g.zero) h.zero
    zero_by true e = subst (IsZeroWithin (zero_of f instr)) (sym (e ∙ zero_gone (is_one_of (written instr)) f.zero)) tt
    zero_by false e = le.zero
