-- The transfer function of the pair domain: the interval of a pair after an instruction, from the state before it. It claims nothing if
-- only some of the numbers wrap. Source: own.
use Rattle.std.specs.Prelude.{ℕ, ◌+◌, ◌/◌, ◌%◌, ◌==◌, Bool, if◌then◌else◌, List, Option, Some, None}
use Rattle.avr_model.specs.declared.instruction.Instr.{Instr}
use Rattle.avr_model.specs.declared.instruction.Instr.TheVariants as i
use Rattle.avr_model.specs.declared.instruction.BinaryOp.{BinaryOp}
use Rattle.avr_model.specs.declared.instruction.BinaryOp.TheVariants as binary
use Rattle.avr_model.specs.declared.instruction.ImmediateOp.{ImmediateOp}
use Rattle.avr_model.specs.declared.instruction.ImmediateOp.TheVariants as immediate
use Rattle.avr_model.specs.declared.instruction.Pointer.{Pointer}
use Rattle.avr_model.specs.declared.instruction.Pointer.TheVariants as pointer
use Rattle.pair_domain.specs.declared.intervals.Interval.{Interval}
use Rattle.pair_domain.specs.declared.tags.SumTag.{SumTag}
use Rattle.pair_domain.specs.declared.tags.SumTag.TheVariants as sum
use Rattle.pair_domain.specs.declared.facts.PairFacts.{PairFacts}
use Rattle.pair_domain.specs.Facts.{interval_at}
use Rattle.pair_domain.specs.Rows.{moved_up, moved_down, pages_up, pages_down, carried_up, carried_down, product}
use Rattle.abs_state.specs.declared.values.AbsByte.{AbsByte}
use Rattle.abs_state.specs.Values.{value_at}
use Rattle.pair_rules.specs.declared.told.Told.{Told}
use Rattle.pair_rules.specs.declared.told.Told.TheVariants as told

-- the interval of the pair that has register r
abbrev pub interval_of : PairFacts → ℕ → Interval
interval_of f r = interval_at f.intervals (r / 2)

abbrev pub is_odd : ℕ → Bool
is_odd r = r % 2 == 1

-- an interval for pair n, if there is one
abbrev pub computed : ℕ → Option Interval → Told
computed n None = told.Nothing
computed n (Some j) = told.Computed n j

-- an interval for the pair whose high byte is register d
abbrev pub computed_high : ℕ → Option Interval → Told
computed_high d j = if is_odd d then computed (d / 2) j else told.Nothing

-- `and` and `or` of a register with itself keep the pair's interval
abbrev pub kept_same : PairFacts → ℕ → ℕ → Told
kept_same f d r = if d == r then told.Kept (d / 2) (interval_of f d) else told.Nothing

-- ---- a byte from low to high goes to register d

-- the carry added to the high byte d completes a sum of its pair
abbrev pub carried : SumTag → ℕ → ℕ → ℕ → Option Interval
carried sum.None d low high = None
carried (sum.Up r a b) d low high = if r + 1 == d then carried_up a b low high else None
carried (sum.Down r a b) d low high = None

-- the borrow subtracted from the high byte d completes a difference of its pair
abbrev pub borrowed : SumTag → ℕ → ℕ → ℕ → Option Interval
borrowed sum.None d low high = None
borrowed (sum.Up r a b) d low high = None
borrowed (sum.Down r a b) d low high = if r + 1 == d then carried_down a b low high else None

abbrev pub told_add : PairFacts → ℕ → ℕ → ℕ → Told
told_add f d low high = computed_high d (pages_up (interval_of f d) low high)

abbrev pub told_adc : PairFacts → ℕ → ℕ → ℕ → Told
told_adc f d low high = computed_high d (carried f.sum d low high)

abbrev pub told_sub : PairFacts → ℕ → ℕ → ℕ → Told
told_sub f d low high = computed_high d (pages_down (interval_of f d) low high)

abbrev pub told_sbc : PairFacts → ℕ → ℕ → ℕ → Told
told_sbc f d low high = computed_high d (borrowed f.sum d low high)

-- ---- a pointer that grows or falls by one

-- An interval for a pointer, unless the instruction sets one of its registers; d is the register that it sets.
abbrev pub unless_set : ℕ → ℕ → Option Interval → Told
unless_set d n j = if d / 2 == n then told.Nothing else computed n j

-- the interval of a pointer that moves; one that stays claims nothing
abbrev pub told_pointer : PairFacts → ℕ → Pointer → Told
told_pointer f d pointer.ZPlus = unless_set d 15 (moved_up (interval_at f.intervals 15) 1)
told_pointer f d pointer.MinusZ = unless_set d 15 (moved_down (interval_at f.intervals 15) 1)
told_pointer f d pointer.YPlus = unless_set d 14 (moved_up (interval_at f.intervals 14) 1)
told_pointer f d pointer.MinusY = unless_set d 14 (moved_down (interval_at f.intervals 14) 1)
told_pointer f d pointer.X = told.Nothing
told_pointer f d pointer.XPlus = unless_set d 13 (moved_up (interval_at f.intervals 13) 1)
told_pointer f d pointer.MinusX = unless_set d 13 (moved_down (interval_at f.intervals 13) 1)

-- ---- by the operation; the registers are those before

abbrev pub told_binary : List AbsByte → PairFacts → BinaryOp → ℕ → ℕ → Told
told_binary registers f binary.Add d r = told_add f d (value_at registers r).low (value_at registers r).high
told_binary registers f binary.Adc d r = told_adc f d (value_at registers r).low (value_at registers r).high
told_binary registers f binary.Sub d r = told_sub f d (value_at registers r).low (value_at registers r).high
told_binary registers f binary.Sbc d r = told_sbc f d (value_at registers r).low (value_at registers r).high
told_binary registers f binary.And d r = kept_same f d r
told_binary registers f binary.Or d r = kept_same f d r
told_binary registers f binary.Mul d r =
    told.Computed 0 (product (value_at registers d).low (value_at registers d).high (value_at registers r).low (value_at registers r).high)
told_binary registers f _ d r = told.Nothing

abbrev pub told_immediate : PairFacts → ImmediateOp → ℕ → ℕ → Told
told_immediate f immediate.Subi d k = told_sub f d k k
told_immediate f immediate.Sbci d k = told_sbc f d k k
told_immediate f _ d k = told.Nothing

-- A load or store through a moving pointer gives the pointer's interval; for a store, before the byte is stored.
abbrev pub told_by : List AbsByte → PairFacts → Instr → Told
told_by registers f (i.Movw d r) = told.Kept d (interval_at f.intervals r)
told_by registers f (i.Binary op d r) = told_binary registers f op d r
told_by registers f (i.Immediate op d k) = told_immediate f op d k
told_by registers f (i.Adiw d k) = computed d (moved_up (interval_at f.intervals d) k)
told_by registers f (i.Sbiw d k) = computed d (moved_down (interval_at f.intervals d) k)
told_by registers f (i.Ld d p) = told_pointer f d p
told_by registers f (i.St p r) = told_pointer f 32 p
told_by registers f (i.LpmZPlus d) = unless_set d 15 (moved_up (interval_at f.intervals 15) 1)
told_by registers f (i.ElpmZPlus d) = unless_set d 15 (moved_up (interval_at f.intervals 15) 1)
told_by registers f _ = told.Nothing
