-- The tags of an instruction hold of registers and flags after it.
use Rattle.std.proofs.Common.{◌≡◌, refl, sym, ◌∙◌, ap, ap₂, subst, subst₂, ℕ, ◌+◌, ◌-◌, ◌*◌, ◌/◌, ◌%◌, ◌<◌, ◌==◌, nat_lt, nat_le, ◌&&◌, ◌||◌, not, if◌then◌else◌, ◌⊎◌, inl, inr, Bool, true, false, List, length, Option, Some, None, slice_index, slice_set, arith}
use Rattle.std.specs.Int.{from_bool}
use Rattle.std.proofs.lemmas.Bool.{cases_eq, eqb-true, eq-eqb, and_parts, false≢true}
use Rattle.std.proofs.lemmas.Bool.Decides.{nat_tests}
use Rattle.avr_model.specs.declared.instruction.Instr.{Instr}
use Rattle.avr_model.specs.declared.instruction.Instr.TheVariants as i
use Rattle.avr_model.specs.declared.instruction.BinaryOp.{BinaryOp}
use Rattle.avr_model.specs.declared.instruction.BinaryOp.TheVariants as binary
use Rattle.avr_model.specs.declared.instruction.ImmediateOp.{ImmediateOp}
use Rattle.avr_model.specs.declared.instruction.ImmediateOp.TheVariants as immediate
use Rattle.avr_model.specs.declared.instruction.UnaryOp.{UnaryOp}
use Rattle.avr_model.specs.declared.instruction.UnaryOp.TheVariants as unary
use Rattle.avr_model.specs.declared.operation.Logic.TheVariants as logic
use Rattle.avr_model.specs.declared.operation.Shift.{Shift}
use Rattle.avr_model.specs.declared.operation.Shift.TheVariants as shift
use Rattle.avr_model.specs.Bitwise.{logic_of, flags_of_result, step_of, step_overflows, shift_of, flags_of_shift}
use Rattle.avr_model.specs.Sreg.{flag, xor, with_flags}
use Rattle.avr_model.specs.Sums.{sum_of as sum_of_bytes, flags_of_sum, difference_of, flags_of_difference}
use Rattle.avr_model.specs.Wide.{wide_of, flags_of_wide}
use Rattle.avr_model.specs.State.{State, register, pair}
use Rattle.avr_model.specs.Effects.{carry, binary_effect, immediate_effect, unary_effect}
use Rattle.avr_model.specs.Step.{with_registers}
use Rattle.avr_model.specs.Devices.{Image}
use Rattle.abs_alu.proofs.AllLaws.{below_two}
use Rattle.sp_domain.specs.Tags.{Origin}
use Rattle.pair_domain.specs.declared.tags.SumTag.TheVariants as sum
use Rattle.pair_domain.specs.declared.tags.Side.{Side}
use Rattle.pair_domain.specs.declared.tags.Side.TheVariants as side
use Rattle.pair_domain.specs.declared.tags.CompareTag.{CompareTag}
use Rattle.pair_domain.specs.declared.tags.CompareTag.TheVariants as compare
use Rattle.pair_domain.specs.declared.tags.ZeroTag.{ZeroTag}
use Rattle.pair_domain.specs.declared.tags.ZeroTag.TheVariants as zero
use Rattle.pair_domain.specs.declared.facts.PairFacts.{PairFacts}
use Rattle.pair_domain.specs.Intervals.{InInterval}
use Rattle.pair_domain.specs.Tags.{pair_number, side_byte, LiesUp, LiesDown, SumHolds, IsCompared, CompareHolds, ZeroHolds, up_if, down_if}
use Rattle.pair_domain.specs.Rank.{SideFits, CompareFits, FactsFit}
use Rattle.pair_domain.specs.Rows.{up_tag, down_tag}
use Rattle.pair_domain.specs.RowLaws.{IsRow}
use Rattle.pair_domain.proofs.AllLaws.{rows_are_true, compares_are_told}
use Rattle.abs_state.specs.declared.state.AbsState.{AbsState}
use Rattle.abs_state.specs.Values.{value_at}
use Rattle.abs_state.specs.Formed.{IsFormed}
use Rattle.abs_state.specs.Laws.{HoldsAt}
use Rattle.pair_rules.specs.Told.{interval_of, is_odd}
use Rattle.pair_rules.specs.Tags.{sum_of_add, sum_of_sub, sum_of_binary, sum_of_immediate, sum_of, compare_high, compare_of_binary, compare_of_immediate, compare_of, zero_high, zero_of_binary, zero_of_immediate, zero_of_unary, zero_of, tagged}
use Rattle.abs_state.specs.FlagsSet.{sets_flags, sets_carry}
use Rattle.pair_rules.specs.Fits.{HasRegisters}
use Rattle.pair_laws.specs.Laws.{AreRegisterBytes, IsBefore, registers_set, sreg_set}
use Rattle.pair_laws.proofs.Numbers.{set_there, set_other, set_word, low_is}
use Rattle.pair_laws.proofs.ToldTrue.{IsOperand, operand_at, operand_of}

-- ---- C and Z of a result

flag_of_bit : (on : Bool) → (from_bool on == 1) ≡ on
flag_of_bit true = refl
flag_of_bit false = refl

lowest : (c z n v x h s : ℕ) → c < 2 → (c + 2 * z + 4 * n + 8 * v + 16 * x + 32 * h + 64 * (s / 64)) / 1 % 2 ≡ c
lowest c z n v x h s lt = omega arith

second : (c z n v x h s : ℕ) → c < 2 → z < 2 → (c + 2 * z + 4 * n + 8 * v + 16 * x + 32 * h + 64 * (s / 64)) / 2 % 2 ≡ z
second c z n v x h s lt lz = omega arith

carry_of : (c z n v h : Bool) (s : ℕ) → flag (with_flags c z n v h s) 0 ≡ c
carry_of c z n v h s = ap (λ (x : ℕ). x == 1) (lowest (from_bool c) _ _ _ _ _ s (below_two c)) ∙ flag_of_bit c

zero_of_flags : (c z n v h : Bool) (s : ℕ) → flag (with_flags c z n v h s) 1 ≡ z
zero_of_flags c z n v h s = ap (λ (x : ℕ). x == 1) (second (from_bool c) (from_bool z) _ _ _ _ s (below_two c) (below_two z)) ∙ flag_of_bit z

-- ---- sums

up_holds : (test : Bool) (r a b : ℕ) (registers : List ℕ) (c : Bool) → LiesUp a b (pair_number registers r) (from_bool c) → SumHolds registers (up_if test r a b) c
up_holds true r a b registers c h = λ near. h
up_holds false r a b registers c h = tt

down_holds : (test : Bool) (r a b : ℕ) (registers : List ℕ) (c : Bool) → LiesDown a b (pair_number registers r) (from_bool c) → SumHolds registers (down_if test r a b) c
down_holds true r a b registers c h = λ near. h
down_holds false r a b registers c h = tt

even_is : (d : ℕ) → is_odd d ≡ false → 2 * (d / 2) ≡ d
even_is d e = by (cases_eq (d % 2) 1)
  where
    by : (d % 2 ≡ 1) ⊎ (d % 2 ≡ 1 → ⊥) → 2 * (d / 2) ≡ d
    by (inl odd) = absurd (false≢true (sym e ∙ eq-eqb (d % 2) 1 odd))
    by (inr even) = omega arith

no_borrow : (x z : ℕ) → nat_lt x (z + from_bool false) ≡ nat_lt x z
no_borrow x z = let e : z + 0 ≡ z = omega arith in ap (nat_lt x) e

module _ (registers : List ℕ) (count : length registers ≡ 34) (bytes : AreRegisterBytes registers) (f : PairFacts) (sreg : ℕ) (h : HoldsAt (Some f) registers sreg)
    (d low high z : ℕ) (small : d < 32) (operand : IsOperand low high z) where
  low_row : 2 * (d / 2) ≡ d → IsRow (interval_of f d) low high (slice_index registers d) (slice_index registers (d + 1)) z
  low_row even = record {
    pair = subst (λ (q : ℕ). InInterval (interval_of f d) (pair_number registers q)) even (h.intervals (d / 2) (omega (arith, small)));
    low = operand.low;
    high = operand.high;
    first = bytes d;
    second = bytes (d + 1);
    byte = operand.byte;
  }

  pub add_sum : SumHolds (slice_set registers d (sum_of_bytes (slice_index registers d) z false % 256)) (sum_of_add f d low high) (flag (flags_of_sum (slice_index registers d) z false sreg) 0)
  add_sum = by (is_odd d) refl
    where
      by : (odd : Bool) → is_odd d ≡ odd
          → SumHolds (slice_set registers d (sum_of_bytes (slice_index registers d) z false % 256)) (if odd then sum.None else up_tag d (interval_of f d) low high) (flag (flags_of_sum (slice_index registers d) z false sreg) 0)
      by true e = tt
      by false e =
          let even = even_is d e in
          let x = slice_index registers d in
          up_holds _ d _ _ (slice_set registers d (sum_of_bytes x z false % 256)) (flag (flags_of_sum x z false sreg) 0)
          (subst₂ (LiesUp ((interval_of f d).low + low + 256) ((interval_of f d).high + high + 256)) (sym (low_is registers count d (sum_of_bytes x z false % 256) small))
          (ap from_bool (sym (carry_of (nat_le 256 (sum_of_bytes x z false)) _ _ _ _ sreg)))
          (rows_are_true.up_tag (interval_of f d) low high x (slice_index registers (d + 1)) z (low_row even)))

  pub sub_sum : SumHolds (slice_set registers d (difference_of (slice_index registers d) z false)) (sum_of_sub f d low high)
      (flag (flags_of_difference (slice_index registers d) z false false sreg) 0)
  sub_sum = by (is_odd d) refl
    where
      by : (odd : Bool) → is_odd d ≡ odd
          → SumHolds (slice_set registers d (difference_of (slice_index registers d) z false)) (if odd then sum.None else down_tag d (interval_of f d) low high)
          (flag (flags_of_difference (slice_index registers d) z false false sreg) 0)
      by true e = tt
      by false e =
          let even = even_is d e in
          let x = slice_index registers d in
          let borrows : flag (flags_of_difference x z false false sreg) 0 ≡ nat_lt x z = carry_of (nat_lt x (z + from_bool false)) _ _ _ _ sreg ∙ no_borrow x z in
          down_holds _ d _ _ (slice_set registers d (difference_of x z false)) (flag (flags_of_difference x z false false sreg) 0)
          (subst₂ (LiesDown ((interval_of f d).low + (256 - high)) ((interval_of f d).high + (256 - low))) (sym (low_is registers count d (difference_of x z false) small))
          (ap from_bool (sym borrows))
          (rows_are_true.down_tag (interval_of f d) low high x (slice_index registers (d + 1)) z (low_row even)))

-- ---- a result that is 0

zero_alone : (b c : Bool) → (b && (not false || c)) ≡ b
zero_alone true c = refl
zero_alone false c = refl

-- Z after a result that goes to register d
zero_there : (registers : List ℕ) (d result : ℕ) (z : Bool) → d < length registers → z ≡ (result == 0) → ZeroHolds (slice_set registers d result) (zero.Byte d) z
zero_there registers d result z lt is = is ∙ ap (λ (x : ℕ). x == 0) (sym (set_there registers d result lt))

sum_zero : (a b : ℕ) (c : Bool) (s : ℕ) → flag (flags_of_sum a b c s) 1 ≡ (sum_of_bytes a b c % 256 == 0)
sum_zero a b c s = zero_of_flags _ _ _ _ _ s

difference_zero : (a b s : ℕ) → flag (flags_of_difference a b false false s) 1 ≡ (difference_of a b false == 0)
difference_zero a b s = zero_of_flags _ _ _ _ _ s ∙ zero_alone (difference_of a b false == 0) (flag s 1)

result_zero : (c v : Bool) (r s : ℕ) → flag (flags_of_result c v r s) 1 ≡ (r == 0)
result_zero c v r s = zero_of_flags c (r == 0) _ v (flag s 5) s

step_zero : (up : Bool) (x s : ℕ) → flag (flags_of_result (flag s 0) (step_overflows up (step_of up x)) (step_of up x) s) 1 ≡ (step_of up x == 0)
step_zero up x s = result_zero (flag s 0) (step_overflows up (step_of up x)) (step_of up x) s

shift_zero : (op : Shift) (x s : ℕ) → flag (flags_of_shift x (shift_of op x s) s) 1 ≡ (shift_of op x s == 0)
shift_zero op x s = result_zero (x % 2 == 1) (xor (nat_le 128 (shift_of op x s)) (x % 2 == 1)) (shift_of op x s) s

wide_is_zero : (up : Bool) (w k s : ℕ) → flag (flags_of_wide up w k s) 1 ≡ (wide_of up w k == 0)
wide_is_zero true w k s = zero_of_flags _ ((w + k) % 65536 == 0) _ _ _ s
wide_is_zero false w k s = zero_of_flags _ ((65536 + w - k) % 65536 == 0) _ _ _ s

both_zero : (x y : ℕ) (z : Bool) → z ≡ (x == 0) → (y == 0 && (not true || z)) ≡ (x + 256 * y == 0)
both_zero x y z is = by z is
  where
    by : (b : Bool) → b ≡ (x == 0) → (y == 0 && (not true || b)) ≡ (x + 256 * y == 0)
    by true e = grind (arith, nat_tests)
    by false e = grind (arith, nat_tests)

-- `sbc` keeps Z for a result of 0
kept_zero : (registers : List ℕ) (count : length registers ≡ 34) (t : ZeroTag) (d b s : ℕ) (c : Bool) → d < 32 → ZeroHolds registers t (flag s 1)
    → ZeroHolds (slice_set registers d (difference_of (slice_index registers d) b c)) (zero_high t d) (flag (flags_of_difference (slice_index registers d) b c true s) 1)
kept_zero registers count zero.None d b s c lt h = tt
kept_zero registers count (zero.Pair r) d b s c lt h = tt
kept_zero registers count (zero.Byte x) d b s c lt h = by (is_odd d && (x + 1 == d)) refl
  where
    by : (test : Bool) → (is_odd d && (x + 1 == d)) ≡ test
        → ZeroHolds (slice_set registers d (difference_of (slice_index registers d) b c)) (if test then zero.Pair x else zero.None)
        (flag (flags_of_difference (slice_index registers d) b c true s) 1)
    by false e = tt
    by true e =
        let is : x + 1 ≡ d = eqb-true (x + 1) d (and_parts (is_odd d) (x + 1 == d) e).1 in
        let value = difference_of (slice_index registers d) b c in
        let number : pair_number (slice_set registers d value) x ≡ slice_index registers x + 256 * value =
        ap₂ (λ (v w : ℕ). v + 256 * w) (set_other registers d x value (λ same. omega arith))
        (ap (slice_index (slice_set registers d value)) is ∙ set_there registers d value (omega (arith, lt, count))) in
        zero_of_flags _ _ _ _ _ s ∙ both_zero (slice_index registers x) value (flag s 1) h ∙ ap (λ (w : ℕ). w == 0) (sym number)

-- ---- comparisons

high_compared : (registers : List ℕ) → AreRegisterBytes registers → (t : CompareTag) (d r s : ℕ) → CompareFits t
    → CompareHolds registers t (flag s 0) (flag s 1) (flag s 4)
    → CompareHolds registers (compare_high t d r) (flag (flags_of_difference (slice_index registers d) (slice_index registers r) (flag s 0) true s) 0)
    (flag (flags_of_difference (slice_index registers d) (slice_index registers r) (flag s 0) true s) 1)
    (flag (flags_of_difference (slice_index registers d) (slice_index registers r) (flag s 0) true s) 4)
high_compared registers bytes compare.None d r s fit h = tt
high_compared registers bytes (compare.Pair q y p) d r s fit h = tt
high_compared registers bytes (compare.Byte x y) d r s fit h = by (is_odd d && (x + 1 == d)) refl
  where
    side_small : (u : Side) → SideFits u → side_byte registers u < 256
    side_small (side.Byte k) lt = lt
    side_small (side.Register q) lt = bytes q

    by : (test : Bool) → (is_odd d && (x + 1 == d)) ≡ test
        → CompareHolds registers (if test then compare.Pair x y r else compare.None)
        (flag (flags_of_difference (slice_index registers d) (slice_index registers r) (flag s 0) true s) 0)
        (flag (flags_of_difference (slice_index registers d) (slice_index registers r) (flag s 0) true s) 1)
        (flag (flags_of_difference (slice_index registers d) (slice_index registers r) (flag s 0) true s) 4)
    by false e = tt
    by true e =
        let is : x + 1 ≡ d = eqb-true (x + 1) d (and_parts (is_odd d) (x + 1 == d) e).1 in
        let told =
        compares_are_told.high (slice_index registers x) (side_byte registers y) (slice_index registers d) (slice_index registers r) s (bytes x) (side_small y fit.1) (bytes d)
        (bytes r) h in
        subst (λ (q : ℕ). IsCompared 32768 (slice_index registers x + 256 * slice_index registers q) (side_byte registers y + 256 * slice_index registers r)
        (flag (flags_of_difference (slice_index registers d) (slice_index registers r) (flag s 0) true s) 0)
        (flag (flags_of_difference (slice_index registers d) (slice_index registers r) (flag s 0) true s) 1)
        (flag (flags_of_difference (slice_index registers d) (slice_index registers r) (flag s 0) true s) 4)) (sym is) told

-- ---- by the instruction

module _ (o : Origin) (m : State) (s : AbsState) (n : ℕ) (at : IsBefore o s m) (formed : IsFormed s n) (f : PairFacts) (fits : FactsFit f)
    (h : HoldsAt (Some f) m.registers m.sreg) (image : Image) where
  inside : (d : ℕ) → d < 32 → d < length m.registers
  inside d lt = omega (arith, lt, at.count)

  binary_sum : (op : BinaryOp) (d r : ℕ) → d < 32 → r < 32
      → SumHolds (with_registers m.registers (binary_effect image m op d r).registers) (sum_of_binary s.registers f op d r) (flag (binary_effect image m op d r).sreg 0)
  binary_sum binary.Cpc d r lt other = tt
  binary_sum binary.Sbc d r lt other = tt
  binary_sum binary.Add d r lt other =
      add_sum m.registers at.count at.bytes f m.sreg h d (value_at s.registers r).low (value_at s.registers r).high (slice_index m.registers r) lt (operand_at o s m n r at formed other)
  binary_sum binary.Cpse d r lt other = tt
  binary_sum binary.Cp d r lt other = tt
  binary_sum binary.Sub d r lt other =
      sub_sum m.registers at.count at.bytes f m.sreg h d (value_at s.registers r).low (value_at s.registers r).high (slice_index m.registers r) lt (operand_at o s m n r at formed other)
  binary_sum binary.Adc d r lt other = tt
  binary_sum binary.And d r lt other = tt
  binary_sum binary.Eor d r lt other = tt
  binary_sum binary.Or d r lt other = tt
  binary_sum binary.Mov d r lt other = tt
  binary_sum binary.Mul d r lt other = tt

  immediate_sum : (op : ImmediateOp) (d k : ℕ) → d < 32 → k < 256
      → SumHolds (with_registers m.registers (immediate_effect m op d k).registers) (sum_of_immediate f op d k) (flag (immediate_effect m op d k).sreg 0)
  immediate_sum immediate.Cpi d k lt byte = tt
  immediate_sum immediate.Sbci d k lt byte = tt
  immediate_sum immediate.Subi d k lt byte = sub_sum m.registers at.count at.bytes f m.sreg h d k k k lt (operand_of k byte)
  immediate_sum immediate.Ori d k lt byte = tt
  immediate_sum immediate.Andi d k lt byte = tt
  immediate_sum immediate.Ldi d k lt byte = tt

  binary_compare : (op : BinaryOp) (d r : ℕ)
      → CompareHolds (with_registers m.registers (binary_effect image m op d r).registers) (compare_of_binary f op d r) (flag (binary_effect image m op d r).sreg 0)
      (flag (binary_effect image m op d r).sreg 1) (flag (binary_effect image m op d r).sreg 4)
  binary_compare binary.Cpc d r = high_compared m.registers at.bytes f.compare d r m.sreg fits.compare h.compare
  binary_compare binary.Sbc d r = tt
  binary_compare binary.Add d r = tt
  binary_compare binary.Cpse d r = tt
  binary_compare binary.Cp d r = compares_are_told.low (slice_index m.registers d) (slice_index m.registers r) m.sreg (at.bytes d) (at.bytes r)
  binary_compare binary.Sub d r = tt
  binary_compare binary.Adc d r = tt
  binary_compare binary.And d r = tt
  binary_compare binary.Eor d r = tt
  binary_compare binary.Or d r = tt
  binary_compare binary.Mov d r = tt
  binary_compare binary.Mul d r = tt

  immediate_compare : (op : ImmediateOp) (d k : ℕ) → k < 256
      → CompareHolds (with_registers m.registers (immediate_effect m op d k).registers) (compare_of_immediate op d k) (flag (immediate_effect m op d k).sreg 0)
      (flag (immediate_effect m op d k).sreg 1) (flag (immediate_effect m op d k).sreg 4)
  immediate_compare immediate.Cpi d k byte = compares_are_told.low (slice_index m.registers d) k m.sreg (at.bytes d) byte
  immediate_compare immediate.Sbci d k byte = tt
  immediate_compare immediate.Subi d k byte = tt
  immediate_compare immediate.Ori d k byte = tt
  immediate_compare immediate.Andi d k byte = tt
  immediate_compare immediate.Ldi d k byte = tt

  binary_zero : (op : BinaryOp) (d r : ℕ) → d < 32
      → ZeroHolds (with_registers m.registers (binary_effect image m op d r).registers) (zero_of_binary f op d) (flag (binary_effect image m op d r).sreg 1)
  binary_zero binary.Cpc d r lt = tt
  binary_zero binary.Sbc d r lt = kept_zero m.registers at.count f.zero d (slice_index m.registers r) m.sreg (flag m.sreg 0) lt h.zero
  binary_zero binary.Add d r lt = zero_there m.registers d _ _ (inside d lt) (sum_zero (register m d) (register m r) false m.sreg)
  binary_zero binary.Cpse d r lt = tt
  binary_zero binary.Cp d r lt = tt
  binary_zero binary.Sub d r lt = zero_there m.registers d _ _ (inside d lt) (difference_zero (register m d) (register m r) m.sreg)
  binary_zero binary.Adc d r lt = zero_there m.registers d _ _ (inside d lt) (sum_zero (register m d) (register m r) (carry m) m.sreg)
  binary_zero binary.And d r lt = zero_there m.registers d _ _ (inside d lt) (result_zero (carry m) false (logic_of logic.And (register m d) (register m r)) m.sreg)
  binary_zero binary.Eor d r lt = zero_there m.registers d _ _ (inside d lt) (result_zero (carry m) false (logic_of logic.Eor (register m d) (register m r)) m.sreg)
  binary_zero binary.Or d r lt = zero_there m.registers d _ _ (inside d lt) (result_zero (carry m) false (logic_of logic.Or (register m d) (register m r)) m.sreg)
  binary_zero binary.Mov d r lt = tt
  binary_zero binary.Mul d r lt = tt

  immediate_zero : (op : ImmediateOp) (d k : ℕ) → d < 32
      → ZeroHolds (with_registers m.registers (immediate_effect m op d k).registers) (zero_of_immediate f op d) (flag (immediate_effect m op d k).sreg 1)
  immediate_zero immediate.Cpi d k lt = tt
  immediate_zero immediate.Sbci d k lt = kept_zero m.registers at.count f.zero d k m.sreg (flag m.sreg 0) lt h.zero
  immediate_zero immediate.Subi d k lt = zero_there m.registers d _ _ (inside d lt) (difference_zero (register m d) k m.sreg)
  immediate_zero immediate.Ori d k lt = zero_there m.registers d _ _ (inside d lt) (result_zero (carry m) false (logic_of logic.Or (register m d) k) m.sreg)
  immediate_zero immediate.Andi d k lt = zero_there m.registers d _ _ (inside d lt) (result_zero (carry m) false (logic_of logic.And (register m d) k) m.sreg)
  immediate_zero immediate.Ldi d k lt = tt

  unary_zero : (op : UnaryOp) (d : ℕ) → d < 32
      → ZeroHolds (with_registers m.registers (unary_effect m op d).registers) (zero_of_unary op d) (flag (unary_effect m op d).sreg 1)
  unary_zero unary.Com d lt = zero_there m.registers d _ _ (inside d lt) (result_zero true false (255 - register m d) m.sreg)
  unary_zero unary.Neg d lt = zero_there m.registers d _ _ (inside d lt) (difference_zero 0 (register m d) m.sreg)
  unary_zero unary.Swap d lt = tt
  unary_zero unary.Inc d lt = zero_there m.registers d _ _ (inside d lt) (step_zero true (register m d) m.sreg)
  unary_zero unary.Asr d lt = zero_there m.registers d _ _ (inside d lt) (shift_zero shift.Asr (register m d) m.sreg)
  unary_zero unary.Lsr d lt = zero_there m.registers d _ _ (inside d lt) (shift_zero shift.Lsr (register m d) m.sreg)
  unary_zero unary.Ror d lt = zero_there m.registers d _ _ (inside d lt) (shift_zero shift.Ror (register m d) m.sreg)
  unary_zero unary.Dec d lt = zero_there m.registers d _ _ (inside d lt) (step_zero false (register m d) m.sreg)

  wide_zero : (d w : ℕ) (z : Bool) → d < 16 → z ≡ (w == 0)
      → ZeroHolds (slice_set (slice_set m.registers (2 * d) (w % 256)) (2 * d + 1) (w / 256)) (zero.Pair (2 * d)) z
  wide_zero d w z lt is = is ∙ ap (λ (x : ℕ). x == 0) (sym (set_word m.registers at.count d w lt))

  module _ (still : Bool) (b1 b2 : ℕ) where
    sum_true : (instr : Instr) → HasRegisters instr → SumHolds (registers_set image still m instr b1 b2) (sum_of s.registers f instr) (flag (sreg_set image still m instr b1 b2) 0)
    sum_true (i.Binary op d r) fit = binary_sum op d r fit.0 fit.1
    sum_true (i.Immediate op d k) fit = immediate_sum op d k fit.0 fit.1
    sum_true _ fit = tt

    compare_true : (instr : Instr) → HasRegisters instr
        → CompareHolds (registers_set image still m instr b1 b2) (compare_of f instr) (flag (sreg_set image still m instr b1 b2) 0) (flag (sreg_set image still m instr b1 b2) 1)
        (flag (sreg_set image still m instr b1 b2) 4)
    compare_true (i.Binary op d r) fit = binary_compare op d r
    compare_true (i.Immediate op d k) fit = immediate_compare op d k fit.1
    compare_true _ fit = tt

    zero_true : (instr : Instr) → HasRegisters instr → ZeroHolds (registers_set image still m instr b1 b2) (zero_of f instr) (flag (sreg_set image still m instr b1 b2) 1)
    zero_true (i.Binary op d r) fit = binary_zero op d r fit.0
    zero_true (i.Immediate op d k) fit = immediate_zero op d k fit.0
    zero_true (i.Unary op d) fit = unary_zero op d fit
    zero_true (i.Adiw d k) fit = wide_zero d (wide_of true (pair m (2 * d)) k) _ fit.0 (wide_is_zero true (pair m (2 * d)) k m.sreg)
    zero_true (i.Sbiw d k) fit = wide_zero d (wide_of false (pair m (2 * d)) k) _ fit.0 (wide_is_zero false (pair m (2 * d)) k m.sreg)
    zero_true _ fit = tt

    pub tags_true : (instr : Instr) (x : Option PairFacts) → HasRegisters instr → HoldsAt x (registers_set image still m instr b1 b2) (sreg_set image still m instr b1 b2)
        → HoldsAt (tagged s.registers f instr x) (registers_set image still m instr b1 b2) (sreg_set image still m instr b1 b2)
    tags_true instr None fit holds = tt
    tags_true instr (Some g) fit holds = record {
      intervals = holds.intervals;
      sum = sum_by (sets_carry instr);
      compare = compare_by (sets_flags instr);
      zero = zero_by (sets_flags instr);
    }
      where
        sum_by : (b : Bool) → SumHolds (registers_set image still m instr b1 b2) (if b then sum_of s.registers f instr else g.sum) (flag (sreg_set image still m instr b1 b2) 0)
        sum_by true = sum_true instr fit
        sum_by false = holds.sum

        compare_by : (b : Bool) → CompareHolds (registers_set image still m instr b1 b2) (if b then compare_of f instr else g.compare) (flag (sreg_set image still m instr b1 b2) 0)
            (flag (sreg_set image still m instr b1 b2) 1) (flag (sreg_set image still m instr b1 b2) 4)
        compare_by true = compare_true instr fit
        compare_by false = holds.compare

        zero_by : (b : Bool) → ZeroHolds (registers_set image still m instr b1 b2) (if b then zero_of f instr else g.zero) (flag (sreg_set image still m instr b1 b2) 1)
        zero_by true = zero_true instr fit
        zero_by false = holds.zero
