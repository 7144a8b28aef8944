-- The flag tags that an instruction sets, from the state before it. They name registers as they are after it. Source: own.
use Rattle.std.specs.Prelude.{ℕ, ◌+◌, ◌*◌, ◌==◌, ◌&&◌, if◌then◌else◌, List, Option, Some, None}
use Rattle.avr_model.specs.declared.instruction.Instr.{Instr}
use Rattle.avr_model.specs.declared.instruction.Instr.TheVariants as i
use Rattle.avr_model.specs.declared.instruction.BinaryOp.{BinaryOp}
use Rattle.avr_model.specs.declared.instruction.BinaryOp.TheVariants as binary
use Rattle.avr_model.specs.declared.instruction.ImmediateOp.{ImmediateOp}
use Rattle.avr_model.specs.declared.instruction.ImmediateOp.TheVariants as immediate
use Rattle.avr_model.specs.declared.instruction.UnaryOp.{UnaryOp}
use Rattle.avr_model.specs.declared.instruction.UnaryOp.TheVariants as unary
use Rattle.pair_domain.specs.declared.tags.SumTag.{SumTag}
use Rattle.pair_domain.specs.declared.tags.SumTag.TheVariants as sum
use Rattle.pair_domain.specs.declared.tags.Side.TheVariants as side
use Rattle.pair_domain.specs.declared.tags.CompareTag.{CompareTag}
use Rattle.pair_domain.specs.declared.tags.CompareTag.TheVariants as compare
use Rattle.pair_domain.specs.declared.tags.ZeroTag.{ZeroTag}
use Rattle.pair_domain.specs.declared.tags.ZeroTag.TheVariants as zero
use Rattle.pair_domain.specs.declared.facts.PairFacts.{PairFacts}
use Rattle.pair_domain.specs.Rows.{up_tag, down_tag}
use Rattle.abs_state.specs.declared.values.AbsByte.{AbsByte}
use Rattle.abs_state.specs.Values.{value_at}
use Rattle.pair_rules.specs.Told.{interval_of, is_odd}
use Rattle.abs_state.specs.FlagsSet.{sets_flags, sets_carry}

-- ---- sums and differences whose low byte is register d, of which a byte from low to high is the other operand

abbrev pub sum_of_add : PairFacts → ℕ → ℕ → ℕ → SumTag
sum_of_add f d low high = if is_odd d then sum.None else up_tag d (interval_of f d) low high

abbrev pub sum_of_sub : PairFacts → ℕ → ℕ → ℕ → SumTag
sum_of_sub f d low high = if is_odd d then sum.None else down_tag d (interval_of f d) low high

abbrev pub sum_of_binary : List AbsByte → PairFacts → BinaryOp → ℕ → ℕ → SumTag
sum_of_binary registers f binary.Add d r = sum_of_add f d (value_at registers r).low (value_at registers r).high
sum_of_binary registers f binary.Sub d r = sum_of_sub f d (value_at registers r).low (value_at registers r).high
sum_of_binary registers f _ d r = sum.None

abbrev pub sum_of_immediate : PairFacts → ImmediateOp → ℕ → ℕ → SumTag
sum_of_immediate f immediate.Subi d k = sum_of_sub f d k k
sum_of_immediate f _ d k = sum.None

abbrev pub sum_of : List AbsByte → PairFacts → Instr → SumTag
sum_of registers f (i.Binary op d r) = sum_of_binary registers f op d r
sum_of registers f (i.Immediate op d k) = sum_of_immediate f op d k
sum_of registers f _ = sum.None

-- ---- comparisons

-- `cpc` of the high byte of a pair completes the comparison of its low byte
abbrev pub compare_high : CompareTag → ℕ → ℕ → CompareTag
compare_high compare.None d p = compare.None
compare_high (compare.Byte x y) d p = if is_odd d && (x + 1 == d) then compare.Pair x y p else compare.None
compare_high (compare.Pair r y q) d p = compare.None

abbrev pub compare_of_binary : PairFacts → BinaryOp → ℕ → ℕ → CompareTag
compare_of_binary f binary.Cp d r = compare.Byte d (side.Register r)
compare_of_binary f binary.Cpc d r = compare_high f.compare d r
compare_of_binary f _ d r = compare.None

abbrev pub compare_of_immediate : ImmediateOp → ℕ → ℕ → CompareTag
compare_of_immediate immediate.Cpi d k = compare.Byte d (side.Byte k)
compare_of_immediate _ d k = compare.None

abbrev pub compare_of : PairFacts → Instr → CompareTag
compare_of f (i.Binary op d r) = compare_of_binary f op d r
compare_of f (i.Immediate op d k) = compare_of_immediate op d k
compare_of f _ = compare.None

-- ---- results that are 0

-- `sbc` of the high byte of a pair keeps Z only if its low byte was 0
abbrev pub zero_high : ZeroTag → ℕ → ZeroTag
zero_high zero.None d = zero.None
zero_high (zero.Byte x) d = if is_odd d && (x + 1 == d) then zero.Pair x else zero.None
zero_high (zero.Pair r) d = zero.None

abbrev pub zero_of_binary : PairFacts → BinaryOp → ℕ → ZeroTag
zero_of_binary f binary.Cpc d = zero.None
zero_of_binary f binary.Sbc d = zero_high f.zero d
zero_of_binary f binary.Add d = zero.Byte d
zero_of_binary f binary.Cpse d = zero.None
zero_of_binary f binary.Cp d = zero.None
zero_of_binary f binary.Sub d = zero.Byte d
zero_of_binary f binary.Adc d = zero.Byte d
zero_of_binary f binary.And d = zero.Byte d
zero_of_binary f binary.Eor d = zero.Byte d
zero_of_binary f binary.Or d = zero.Byte d
zero_of_binary f binary.Mov d = zero.None
zero_of_binary f binary.Mul d = zero.None

abbrev pub zero_of_immediate : PairFacts → ImmediateOp → ℕ → ZeroTag
zero_of_immediate f immediate.Cpi d = zero.None
zero_of_immediate f immediate.Sbci d = zero_high f.zero d
zero_of_immediate f immediate.Subi d = zero.Byte d
zero_of_immediate f immediate.Ori d = zero.Byte d
zero_of_immediate f immediate.Andi d = zero.Byte d
zero_of_immediate f immediate.Ldi d = zero.None

abbrev pub zero_of_unary : UnaryOp → ℕ → ZeroTag
zero_of_unary unary.Swap d = zero.None
zero_of_unary _ d = zero.Byte d

abbrev pub zero_of : PairFacts → Instr → ZeroTag
zero_of f (i.Binary op d r) = zero_of_binary f op d
zero_of f (i.Immediate op d k) = zero_of_immediate f op d
zero_of f (i.Unary op d) = zero_of_unary op d
zero_of f (i.Adiw d k) = zero.Pair (2 * d)
zero_of f (i.Sbiw d k) = zero.Pair (2 * d)
zero_of f _ = zero.None

-- ---- behind the instruction

-- f has the facts before, g those that the writes left; a tag is set exactly if its flags are written
abbrev pub facts_tagged : List AbsByte → PairFacts → Instr → PairFacts → PairFacts
facts_tagged registers f instr g =
    record g {
      sum = if sets_carry instr then sum_of registers f instr else g.sum;
      compare = if sets_flags instr then compare_of f instr else g.compare;
      zero = if sets_flags instr then zero_of f instr else g.zero;
    }

abbrev pub tagged : List AbsByte → PairFacts → Instr → Option PairFacts → Option PairFacts
tagged registers f instr None = None
tagged registers f instr (Some g) = Some (facts_tagged registers f instr g)
