-- The transfer function is monotone.
use Rattle.std.proofs.Common.{refl, subst, ℕ, ◌+◌, ◌/◌, ◌<◌, ◌≤◌, ◌==◌, if◌then◌else◌, Bool, true, false, None, arith}
use Rattle.avr_model.specs.declared.instruction.Instr.{Instr}
use Rattle.avr_model.specs.declared.instruction.Instr.TheVariants as i
use Rattle.avr_model.specs.declared.instruction.BinaryOp.{BinaryOp}
use Rattle.avr_model.specs.declared.instruction.BinaryOp.TheVariants as binary
use Rattle.avr_model.specs.declared.instruction.ImmediateOp.{ImmediateOp}
use Rattle.avr_model.specs.declared.instruction.ImmediateOp.TheVariants as immediate
use Rattle.avr_model.specs.declared.instruction.Pointer.{Pointer}
use Rattle.avr_model.specs.declared.instruction.Pointer.TheVariants as pointer
use Rattle.pair_domain.specs.declared.tags.SumTag.{SumTag}
use Rattle.pair_domain.specs.declared.tags.SumTag.TheVariants as sum
use Rattle.pair_domain.specs.declared.facts.PairFacts.{PairFacts}
use Rattle.pair_domain.specs.Tags.{IsSumTagWithin}
use Rattle.pair_domain.specs.Facts.{interval_at, AreFactsWithin}
use Rattle.pair_domain.specs.Rank.{SumFits, FactsFit}
use Rattle.pair_domain.specs.Rows.{IsToldWithin, carried_up, carried_down}
use Rattle.pair_domain.proofs.AllLaws.{rows_are_monotone}
use Rattle.abs_state.specs.declared.state.AbsState.{AbsState}
use Rattle.abs_state.specs.Values.{value_at}
use Rattle.abs_state.specs.Order.{IsStateWithin}
use Rattle.abs_state.specs.Formed.{IsFormed}
use Rattle.pair_rules.specs.declared.told.Told.TheVariants as told
use Rattle.pair_rules.specs.Told.{interval_of, kept_same, carried, borrowed, told_add, told_adc, told_sub, told_sbc, told_pointer, told_binary, told_immediate, told_by}
use Rattle.pair_rules.specs.Fits.{HasRegisters}
use Rattle.pair_laws.proofs.Tellings.{IsToldLess, computed_less, high_less, unless_less}

-- the range from n to m has a byte, and is within the one from n' to m'
pub record AreBounds (n m n' m' : ℕ) : Type 0 where
  pub ordered : n ≤ m
  pub low : n' ≤ n
  pub high : m ≤ m'

pub bounds_at : (s s' : AbsState) (n r : ℕ) → IsFormed s n → IsStateWithin s s' → r < 32
    → AreBounds (value_at s.registers r).low (value_at s.registers r).high (value_at s'.registers r).low (value_at s'.registers r).high
bounds_at s s' n r formed le lt =
    let within = le.registers r (omega (arith, lt)) in
    record { ordered = (formed.ranges r (omega (arith, lt))).ordered; low = within.low; high = within.high }

pub bounds_of : (k : ℕ) → AreBounds k k k k
bounds_of k = record { ordered = omega arith; low = omega arith; high = omega arith }

carried_less : (t t' : SumTag) (d n m n' m' : ℕ) → SumFits t → SumFits t' → IsSumTagWithin t t' → AreBounds n m n' m' → IsToldWithin (carried t d n m) (carried t' d n' m')
carried_less t sum.None d n m n' m' fits fits' le b = tt
carried_less t (sum.Down r a c) d n m n' m' fits fits' le b = tt
carried_less sum.None (sum.Up s a' c') d n m n' m' fits fits' le b = absurd (le fits'.near)
carried_less (sum.Down r a c) (sum.Up s a' c') d n m n' m' fits fits' le b = absurd (le fits'.near)
carried_less (sum.Up r a c) (sum.Up s a' c') d n m n' m' fits fits' le b =
    subst (λ (q : ℕ). IsToldWithin (if r + 1 == d then carried_up a c n m else None) (if q + 1 == d then carried_up a' c' n' m' else None)) (le fits'.near).pair (by (r + 1 == d))
  where
    by : (same : Bool) → IsToldWithin (if same then carried_up a c n m else None) (if same then carried_up a' c' n' m' else None)
    by true = rows_are_monotone.carried_up a c a' c' n m n' m' fits.ordered b.ordered (le fits'.near).low (le fits'.near).high b.low b.high
    by false = tt

borrowed_less : (t t' : SumTag) (d n m n' m' : ℕ) → SumFits t → SumFits t' → IsSumTagWithin t t' → AreBounds n m n' m' → IsToldWithin (borrowed t d n m) (borrowed t' d n' m')
borrowed_less t sum.None d n m n' m' fits fits' le b = tt
borrowed_less t (sum.Up r a c) d n m n' m' fits fits' le b = tt
borrowed_less sum.None (sum.Down s a' c') d n m n' m' fits fits' le b = absurd (le fits'.near)
borrowed_less (sum.Up r a c) (sum.Down s a' c') d n m n' m' fits fits' le b = absurd (le fits'.near)
borrowed_less (sum.Down r a c) (sum.Down s a' c') d n m n' m' fits fits' le b =
    subst (λ (q : ℕ). IsToldWithin (if r + 1 == d then carried_down a c n m else None) (if q + 1 == d then carried_down a' c' n' m' else None)) (le fits'.near).pair (by (r + 1 == d))
  where
    by : (same : Bool) → IsToldWithin (if same then carried_down a c n m else None) (if same then carried_down a' c' n' m' else None)
    by true = rows_are_monotone.carried_down a c a' c' n m n' m' fits.ordered b.ordered (le fits'.near).low (le fits'.near).high b.low b.high
    by false = tt

module _ (f f' : PairFacts) (fits : FactsFit f) (fits' : FactsFit f') (le : AreFactsWithin f f') where
  add_less : (d n m n' m' : ℕ) → d < 32 → AreBounds n m n' m' → IsToldLess (told_add f d n m) (told_add f' d n' m')
  add_less d n m n' m' lt b =
      high_less d _ _
      (rows_are_monotone.pages_up (interval_of f d) (interval_of f' d) n m n' m' (fits.intervals (d / 2) (omega (arith, lt))).ordered b.ordered
      (le.intervals (d / 2) (omega (arith, lt))) b.low b.high)

  sub_less : (d n m n' m' : ℕ) → d < 32 → AreBounds n m n' m' → IsToldLess (told_sub f d n m) (told_sub f' d n' m')
  sub_less d n m n' m' lt b =
      high_less d _ _
      (rows_are_monotone.pages_down (interval_of f d) (interval_of f' d) n m n' m' (fits.intervals (d / 2) (omega (arith, lt))).ordered b.ordered
      (le.intervals (d / 2) (omega (arith, lt))) b.low b.high)

  adc_less : (d n m n' m' : ℕ) → AreBounds n m n' m' → IsToldLess (told_adc f d n m) (told_adc f' d n' m')
  adc_less d n m n' m' b = high_less d _ _ (carried_less f.sum f'.sum d n m n' m' fits.sum fits'.sum le.sum b)

  sbc_less : (d n m n' m' : ℕ) → AreBounds n m n' m' → IsToldLess (told_sbc f d n m) (told_sbc f' d n' m')
  sbc_less d n m n' m' b = high_less d _ _ (borrowed_less f.sum f'.sum d n m n' m' fits.sum fits'.sum le.sum b)

  same_less : (d r : ℕ) → d < 32 → IsToldLess (kept_same f d r) (kept_same f' d r)
  same_less d r lt = by (d == r)
    where
      by : (same : Bool) → IsToldLess (if same then told.Kept (d / 2) (interval_of f d) else told.Nothing) (if same then told.Kept (d / 2) (interval_of f' d) else told.Nothing)
      by true = (refl, le.intervals (d / 2) (omega (arith, lt)))
      by false = tt

  pointer_less : (d : ℕ) (p : Pointer) → IsToldLess (told_pointer f d p) (told_pointer f' d p)
  pointer_less d pointer.ZPlus = unless_less d 15 _ _ (rows_are_monotone.up (interval_at f.intervals 15) (interval_at f'.intervals 15) 1 (fits.intervals 15 (omega arith)).ordered (le.intervals 15 (omega arith)))
  pointer_less d pointer.MinusZ = unless_less d 15 _ _ (rows_are_monotone.down (interval_at f.intervals 15) (interval_at f'.intervals 15) 1 (fits.intervals 15 (omega arith)).ordered (le.intervals 15 (omega arith)))
  pointer_less d pointer.YPlus = unless_less d 14 _ _ (rows_are_monotone.up (interval_at f.intervals 14) (interval_at f'.intervals 14) 1 (fits.intervals 14 (omega arith)).ordered (le.intervals 14 (omega arith)))
  pointer_less d pointer.MinusY = unless_less d 14 _ _ (rows_are_monotone.down (interval_at f.intervals 14) (interval_at f'.intervals 14) 1 (fits.intervals 14 (omega arith)).ordered (le.intervals 14 (omega arith)))
  pointer_less d pointer.X = tt
  pointer_less d pointer.XPlus = unless_less d 13 _ _ (rows_are_monotone.up (interval_at f.intervals 13) (interval_at f'.intervals 13) 1 (fits.intervals 13 (omega arith)).ordered (le.intervals 13 (omega arith)))
  pointer_less d pointer.MinusX = unless_less d 13 _ _ (rows_are_monotone.down (interval_at f.intervals 13) (interval_at f'.intervals 13) 1 (fits.intervals 13 (omega arith)).ordered (le.intervals 13 (omega arith)))

  module _ (s s' : AbsState) (n : ℕ) (formed : IsFormed s n) (within : IsStateWithin s s') where
    binary_less : (op : BinaryOp) (d r : ℕ) → d < 32 → r < 32 → IsToldLess (told_binary s.registers f op d r) (told_binary s'.registers f' op d r)
    binary_less binary.Cpc d r lt other = tt
    binary_less binary.Sbc d r lt other = sbc_less d _ _ _ _ (bounds_at s s' n r formed within other)
    binary_less binary.Add d r lt other = add_less d _ _ _ _ lt (bounds_at s s' n r formed within other)
    binary_less binary.Cpse d r lt other = tt
    binary_less binary.Cp d r lt other = tt
    binary_less binary.Sub d r lt other = sub_less d _ _ _ _ lt (bounds_at s s' n r formed within other)
    binary_less binary.Adc d r lt other = adc_less d _ _ _ _ (bounds_at s s' n r formed within other)
    binary_less binary.And d r lt other = same_less d r lt
    binary_less binary.Eor d r lt other = tt
    binary_less binary.Or d r lt other = same_less d r lt
    binary_less binary.Mov d r lt other = tt
    binary_less binary.Mul d r lt other =
        let a = bounds_at s s' n d formed within lt in
        let b = bounds_at s s' n r formed within other in
        (refl, rows_are_monotone.product _ _ _ _ _ _ _ _ a.low a.high b.low b.high)

    immediate_less : (op : ImmediateOp) (d k : ℕ) → d < 32 → IsToldLess (told_immediate f op d k) (told_immediate f' op d k)
    immediate_less immediate.Cpi d k lt = tt
    immediate_less immediate.Sbci d k lt = sbc_less d k k k k (bounds_of k)
    immediate_less immediate.Subi d k lt = sub_less d k k k k lt (bounds_of k)
    immediate_less immediate.Ori d k lt = tt
    immediate_less immediate.Andi d k lt = tt
    immediate_less immediate.Ldi d k lt = tt

    pub told_less : (instr : Instr) → HasRegisters instr → IsToldLess (told_by s.registers f instr) (told_by s'.registers f' instr)
    told_less (i.Movw d r) fit = (refl, le.intervals r fit.1)
    told_less (i.Binary op d r) fit = binary_less op d r fit.0 fit.1
    told_less (i.Immediate op d k) fit = immediate_less op d k fit.0
    told_less (i.Adiw d k) fit =
        computed_less d _ _ (rows_are_monotone.up (interval_at f.intervals d) (interval_at f'.intervals d) k (fits.intervals d fit.0).ordered (le.intervals d fit.0))
    told_less (i.Sbiw d k) fit =
        computed_less d _ _ (rows_are_monotone.down (interval_at f.intervals d) (interval_at f'.intervals d) k (fits.intervals d fit.0).ordered (le.intervals d fit.0))
    told_less (i.Ld d p) fit = pointer_less d p
    told_less (i.St p r) fit = pointer_less 32 p
    told_less (i.LpmZPlus d) fit = pointer_less d pointer.ZPlus
    told_less (i.ElpmZPlus d) fit = pointer_less d pointer.ZPlus
    told_less _ fit = tt
