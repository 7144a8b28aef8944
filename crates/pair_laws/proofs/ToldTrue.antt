-- The transfer function holds of the registers after the instruction, and fits.
use Rattle.std.proofs.Common.{◌≡◌, refl, sym, ◌∙◌, ap, subst, ℕ, ◌+◌, ◌-◌, ◌*◌, ◌/◌, ◌%◌, ◌<◌, ◌≤◌, ◌==◌, if◌then◌else◌, Bool, true, false, List, length, Option, Some, None, slice_index, slice_set, arith}
use Rattle.std.specs.Prelude.{◌++◌, bit_and, bit_or}
use Rattle.std.specs.Int.{from_bool}
use Rattle.std.specs.Int.Bits.{or_self, and_self}
use Rattle.std.proofs.lemmas.Bool.{eqb-true}
use Rattle.basics.specs.Numbers.{product_of_bytes}
use Rattle.avr_model.specs.declared.instruction.Instr.{Instr}
use Rattle.avr_model.specs.declared.instruction.Instr.TheVariants as i
use Rattle.avr_model.specs.declared.instruction.BinaryOp.{BinaryOp}
use Rattle.avr_model.specs.declared.instruction.BinaryOp.TheVariants as binary
use Rattle.avr_model.specs.declared.instruction.ImmediateOp.{ImmediateOp}
use Rattle.avr_model.specs.declared.instruction.ImmediateOp.TheVariants as immediate
use Rattle.avr_model.specs.declared.instruction.Pointer.{Pointer}
use Rattle.avr_model.specs.declared.instruction.Pointer.TheVariants as pointer
use Rattle.avr_model.specs.Sites.{pointer_register}
use Rattle.avr_model.specs.Sreg.{flag}
use Rattle.avr_model.specs.Sums.{sum_of, difference_of}
use Rattle.avr_model.specs.State.{State, RAMPZ, pair, plus16, minus16}
use Rattle.avr_model.specs.Effects.{moved, set, binary_effect, immediate_effect}
use Rattle.avr_model.specs.Step.{with_registers}
use Rattle.avr_model.specs.Devices.{Image}
use Rattle.bit_domain.proofs.AllLaws.{ranges_fit}
use Rattle.sp_domain.specs.Tags.{Origin}
use Rattle.pair_domain.specs.declared.intervals.Interval.{Interval}
use Rattle.pair_domain.specs.declared.tags.SumTag.{SumTag}
use Rattle.pair_domain.specs.declared.tags.SumTag.TheVariants as sum
use Rattle.pair_domain.specs.declared.facts.PairFacts.{PairFacts}
use Rattle.pair_domain.specs.Intervals.{InInterval}
use Rattle.pair_domain.specs.Tags.{pair_number, LiesUp, LiesDown, SumHolds}
use Rattle.pair_domain.specs.Facts.{interval_at}
use Rattle.pair_domain.specs.Rows.{ToldHolds, moved_up, moved_down, pages_up, pages_down, carried_up, carried_down, product}
use Rattle.pair_domain.specs.Rank.{SumFits, FactsFit}
use Rattle.pair_domain.specs.RowLaws.{IsRow}
use Rattle.pair_domain.proofs.AllLaws.{rows_are_true}
use Rattle.abs_state.specs.declared.state.AbsState.{AbsState}
use Rattle.abs_state.specs.Values.{value_at}
use Rattle.abs_state.specs.Formed.{IsFormed}
use Rattle.abs_state.specs.Laws.{HoldsAt}
use Rattle.pair_rules.specs.declared.told.Told.TheVariants as told
use Rattle.pair_rules.specs.Told.{interval_of, computed, kept_same, carried, borrowed, told_add, told_adc, told_sub, told_sbc, unless_set, told_pointer, told_binary, told_immediate, told_by}
use Rattle.pair_rules.specs.Fits.{HasRegisters}
use Rattle.pair_laws.specs.Laws.{AreRegisterBytes, IsBefore, registers_set}
use Rattle.pair_laws.proofs.Numbers.{set_word, word_kept, word_kept_twice, high_is, same_is}
use Rattle.pair_laws.proofs.Tellings.{TellsTrue, ToldFits, IsIntervalSmall, modulo_small, computed_true, computed_fits, high_true, high_fits, unless_true, unless_fits}

-- ---- what an operand is known to be

-- a byte from low to high, which is one
pub record IsOperand (n m z : ℕ) : Type 0 where
  pub low : n ≤ z
  pub high : z ≤ m
  pub byte : m < 256

pub operand_at : (o : Origin) (s : AbsState) (m : State) (n r : ℕ) → IsBefore o s m → IsFormed s n → r < 32
    → IsOperand (value_at s.registers r).low (value_at s.registers r).high (slice_index m.registers r)
operand_at o s m n r at formed lt =
    let stands = at.registers r (omega (arith, lt)) in
    record { low = stands.low; high = stands.high; byte = omega (arith, (formed.ranges r (omega (arith, lt))).high, ranges_fit.most (value_at s.registers r).bits) }

pub operand_of : (k : ℕ) → k < 256 → IsOperand k k k
operand_of k lt = record { low = omega arith; high = omega arith; byte = lt }

-- ---- the high byte of a pair

module _ (registers : List ℕ) (count : length registers ≡ 34) (bytes : AreRegisterBytes registers) (f : PairFacts) (sreg : ℕ) (h : HoldsAt (Some f) registers sreg)
    (d low high z : ℕ) (small : d < 32) (operand : IsOperand low high z) where
  row : IsRow (interval_of f d) low high (slice_index registers (2 * (d / 2))) (slice_index registers (2 * (d / 2) + 1)) z
  row = record {
    pair = h.intervals (d / 2) (omega (arith, small));
    low = operand.low;
    high = operand.high;
    first = bytes (2 * (d / 2));
    second = bytes (2 * (d / 2) + 1);
    byte = operand.byte;
  }

  pub add_true : TellsTrue (told_add f d low high) (slice_set registers d (sum_of (slice_index registers d) z false % 256))
  add_true =
      high_true d (pages_up (interval_of f d) low high) (slice_set registers d (sum_of (slice_index registers d) z false % 256))
      (λ odd.
      subst (ToldHolds (pages_up (interval_of f d) low high)) (sym (high_is registers count (d / 2) d (λ x. sum_of x z false % 256) (omega (arith, small)) odd))
      (rows_are_true.pages_up (interval_of f d) low high (slice_index registers (2 * (d / 2))) (slice_index registers (2 * (d / 2) + 1)) z row))

  pub sub_true : TellsTrue (told_sub f d low high) (slice_set registers d (difference_of (slice_index registers d) z false))
  sub_true =
      high_true d (pages_down (interval_of f d) low high) (slice_set registers d (difference_of (slice_index registers d) z false))
      (λ odd.
      subst (ToldHolds (pages_down (interval_of f d) low high)) (sym (high_is registers count (d / 2) d (λ x. difference_of x z false) (omega (arith, small)) odd))
      (rows_are_true.pages_down (interval_of f d) low high (slice_index registers (2 * (d / 2))) (slice_index registers (2 * (d / 2) + 1)) z row))

  carried_told : (t : SumTag) (c : Bool) → SumFits t → SumHolds registers t c → 2 * (d / 2) + 1 ≡ d
      → ToldHolds (carried t d low high) (slice_index registers (2 * (d / 2)) + 256 * (sum_of (slice_index registers (2 * (d / 2) + 1)) z c % 256))
  carried_told sum.None c fits holds odd = tt
  carried_told (sum.Down r a b) c fits holds odd = tt
  carried_told (sum.Up r a b) c fits holds odd = by (r + 1 == d) refl
    where
      by : (same : Bool) → (r + 1 == d) ≡ same
          → ToldHolds (if same then carried_up a b low high else None) (slice_index registers (2 * (d / 2)) + 256 * (sum_of (slice_index registers (2 * (d / 2) + 1)) z c % 256))
      by false e = tt
      by true e =
          let is : r + 1 ≡ d = eqb-true (r + 1) d e in
          let pair_is : r ≡ 2 * (d / 2) = omega arith in
          rows_are_true.carried_up a b low high (slice_index registers (2 * (d / 2))) (slice_index registers (2 * (d / 2) + 1)) z c (bytes (2 * (d / 2)))
          (bytes (2 * (d / 2) + 1)) operand.low operand.high operand.byte (subst (λ (q : ℕ). LiesUp a b (pair_number registers q) (from_bool c)) pair_is (holds fits.near))

  borrowed_told : (t : SumTag) (c : Bool) → SumFits t → SumHolds registers t c → 2 * (d / 2) + 1 ≡ d
      → ToldHolds (borrowed t d low high) (slice_index registers (2 * (d / 2)) + 256 * difference_of (slice_index registers (2 * (d / 2) + 1)) z c)
  borrowed_told sum.None c fits holds odd = tt
  borrowed_told (sum.Up r a b) c fits holds odd = tt
  borrowed_told (sum.Down r a b) c fits holds odd = by (r + 1 == d) refl
    where
      by : (same : Bool) → (r + 1 == d) ≡ same
          → ToldHolds (if same then carried_down a b low high else None) (slice_index registers (2 * (d / 2)) + 256 * difference_of (slice_index registers (2 * (d / 2) + 1)) z c)
      by false e = tt
      by true e =
          let is : r + 1 ≡ d = eqb-true (r + 1) d e in
          let pair_is : r ≡ 2 * (d / 2) = omega arith in
          rows_are_true.carried_down a b low high (slice_index registers (2 * (d / 2))) (slice_index registers (2 * (d / 2) + 1)) z c (bytes (2 * (d / 2)))
          (bytes (2 * (d / 2) + 1)) operand.low operand.high operand.byte (subst (λ (q : ℕ). LiesDown a b (pair_number registers q) (from_bool c)) pair_is (holds fits.near))

  pub adc_true : SumFits f.sum → TellsTrue (told_adc f d low high) (slice_set registers d (sum_of (slice_index registers d) z (flag sreg 0) % 256))
  adc_true kept =
      high_true d (carried f.sum d low high) (slice_set registers d (sum_of (slice_index registers d) z (flag sreg 0) % 256))
      (λ odd.
      subst (ToldHolds (carried f.sum d low high)) (sym (high_is registers count (d / 2) d (λ x. sum_of x z (flag sreg 0) % 256) (omega (arith, small)) odd))
      (carried_told f.sum (flag sreg 0) kept h.sum odd))

  pub sbc_true : SumFits f.sum → TellsTrue (told_sbc f d low high) (slice_set registers d (difference_of (slice_index registers d) z (flag sreg 0)))
  sbc_true kept =
      high_true d (borrowed f.sum d low high) (slice_set registers d (difference_of (slice_index registers d) z (flag sreg 0)))
      (λ odd.
      subst (ToldHolds (borrowed f.sum d low high)) (sym (high_is registers count (d / 2) d (λ x. difference_of x z (flag sreg 0)) (omega (arith, small)) odd))
      (borrowed_told f.sum (flag sreg 0) kept h.sum odd))

module _ (o : Origin) (m : State) (s : AbsState) (n : ℕ) (at : IsBefore o s m) (formed : IsFormed s n) (f : PairFacts) (fits : FactsFit f)
    (h : HoldsAt (Some f) m.registers m.sreg) where
  word_of : (r : ℕ) → pair m r < 65536
  word_of r = omega (arith, at.bytes r, at.bytes (r + 1))

  -- a pair that is set to a word
  word_true : (k w : ℕ) (told : Option Interval) → k < 16 → w < 65536 → ToldHolds told w
      → TellsTrue (computed k told) (slice_set (slice_set m.registers (2 * k) (w % 256)) (2 * k + 1) (w / 256))
  word_true k w told lt small holds =
      computed_true k told (slice_set (slice_set m.registers (2 * k) (w % 256)) (2 * k + 1) (w / 256)) (subst (ToldHolds told) (sym (set_word m.registers at.count k w lt)) holds)

  -- a pair that is set to a word, and then a register
  pointer_true : (d k w byte : ℕ) (told : Option Interval) → k < 16 → w < 65536 → ToldHolds told w
      → TellsTrue (unless_set d k told) (slice_set (slice_set (slice_set m.registers (2 * k) (w % 256)) (2 * k + 1) (w / 256)) d byte)
  pointer_true d k w byte told lt small holds =
      unless_true d k told (slice_set (slice_set (slice_set m.registers (2 * k) (w % 256)) (2 * k + 1) (w / 256)) d byte)
      (λ away. subst (ToldHolds told) (sym (word_kept m.registers at.count k d w byte lt away)) holds)

  -- the same with RAMPZ set between
  banked_true : (d w bank byte : ℕ) (told : Option Interval) → w < 65536 → ToldHolds told w
      → TellsTrue (unless_set d 15 told) (slice_set (slice_set (slice_set (slice_set m.registers 30 (w % 256)) 31 (w / 256)) RAMPZ bank) d byte)
  banked_true d w bank byte told small holds =
      unless_true d 15 told (slice_set (slice_set (slice_set (slice_set m.registers 30 (w % 256)) 31 (w / 256)) RAMPZ bank) d byte)
      (λ away. subst (ToldHolds told) (sym (word_kept_twice m.registers at.count 15 RAMPZ d w bank byte (omega arith) (λ is. omega (arith, is)) away)) holds)

  same_true : (d r x : ℕ) → d < 32 → (d ≡ r → x ≡ slice_index m.registers d) → TellsTrue (kept_same f d r) (slice_set m.registers d x)
  same_true d r x lt is = by (d == r) refl
    where
      by : (same : Bool) → (d == r) ≡ same → TellsTrue (if same then told.Kept (d / 2) (interval_of f d) else told.Nothing) (slice_set m.registers d x)
      by false e = tt
      by true e =
          subst (InInterval (interval_of f d)) (sym (same_is m.registers at.count d (d / 2) x (is (eqb-true d r e)))) (h.intervals (d / 2) (omega (arith, lt)))

  binary_true : (image : Image) (op : BinaryOp) (d r : ℕ) → d < 32 → r < 32
      → TellsTrue (told_binary s.registers f op d r) (with_registers m.registers (binary_effect image m op d r).registers)
  binary_true image binary.Cpc d r small other = tt
  binary_true image binary.Sbc d r small other =
      sbc_true m.registers at.count at.bytes f m.sreg h d (value_at s.registers r).low (value_at s.registers r).high (slice_index m.registers r) small (operand_at o s m n r at formed other) fits.sum
  binary_true image binary.Add d r small other =
      add_true m.registers at.count at.bytes f m.sreg h d (value_at s.registers r).low (value_at s.registers r).high (slice_index m.registers r) small (operand_at o s m n r at formed other)
  binary_true image binary.Cpse d r small other = tt
  binary_true image binary.Cp d r small other = tt
  binary_true image binary.Sub d r small other =
      sub_true m.registers at.count at.bytes f m.sreg h d (value_at s.registers r).low (value_at s.registers r).high (slice_index m.registers r) small (operand_at o s m n r at formed other)
  binary_true image binary.Adc d r small other =
      adc_true m.registers at.count at.bytes f m.sreg h d (value_at s.registers r).low (value_at s.registers r).high (slice_index m.registers r) small (operand_at o s m n r at formed other) fits.sum
  binary_true image binary.And d r small other =
      same_true d r _ small (λ e. ap (λ (q : ℕ). bit_and (slice_index m.registers d) (slice_index m.registers q)) (sym e) ∙ and_self (slice_index m.registers d))
  binary_true image binary.Eor d r small other = tt
  binary_true image binary.Or d r small other =
      same_true d r _ small (λ e. ap (λ (q : ℕ). bit_or (slice_index m.registers d) (slice_index m.registers q)) (sym e) ∙ or_self (slice_index m.registers d))
  binary_true image binary.Mov d r small other = tt
  binary_true image binary.Mul d r small other =
      let a = operand_at o s m n d at formed small in
      let b = operand_at o s m n r at formed other in
      subst (InInterval (product (value_at s.registers d).low (value_at s.registers d).high (value_at s.registers r).low (value_at s.registers r).high))
      (sym (set_word m.registers at.count 0 (slice_index m.registers d * slice_index m.registers r) (omega arith)))
      (rows_are_true.product (value_at s.registers d).low (value_at s.registers d).high (value_at s.registers r).low (value_at s.registers r).high
      (slice_index m.registers d) (slice_index m.registers r) a.low a.high b.low b.high)

  immediate_true : (op : ImmediateOp) (d k : ℕ) → d < 32 → k < 256 → TellsTrue (told_immediate f op d k) (with_registers m.registers (immediate_effect m op d k).registers)
  immediate_true immediate.Cpi d k small byte = tt
  immediate_true immediate.Sbci d k small byte = sbc_true m.registers at.count at.bytes f m.sreg h d k k k small (operand_of k byte) fits.sum
  immediate_true immediate.Subi d k small byte = sub_true m.registers at.count at.bytes f m.sreg h d k k k small (operand_of k byte)
  immediate_true immediate.Ori d k small byte = tt
  immediate_true immediate.Andi d k small byte = tt
  immediate_true immediate.Ldi d k small byte = tt

  up_true : (k : ℕ) → k < 16 → (w : ℕ) → pair m (2 * k) ≡ w → ToldHolds (moved_up (interval_at f.intervals k) 1) (plus16 w 1)
  up_true k lt w is = rows_are_true.up (interval_at f.intervals k) w 1 (subst (InInterval (interval_at f.intervals k)) is (h.intervals k lt))

  down_true : (k : ℕ) → k < 16 → (w : ℕ) → pair m (2 * k) ≡ w → ToldHolds (moved_down (interval_at f.intervals k) 1) (minus16 w 1)
  down_true k lt w is = rows_are_true.down (interval_at f.intervals k) w 1 (omega arith) (subst (InInterval (interval_at f.intervals k)) is (h.intervals k lt))

  load_true : (d byte : ℕ) (p : Pointer) → TellsTrue (told_pointer f d p) (with_registers m.registers (moved p (pair m (pointer_register p)) ++ set d byte))
  load_true d byte pointer.ZPlus = pointer_true d 15 (plus16 (pair m 30) 1) byte _ (omega arith) (omega arith) (up_true 15 (omega arith) (pair m 30) refl)
  load_true d byte pointer.MinusZ = pointer_true d 15 (minus16 (pair m 30) 1) byte _ (omega arith) (omega arith) (down_true 15 (omega arith) (pair m 30) refl)
  load_true d byte pointer.YPlus = pointer_true d 14 (plus16 (pair m 28) 1) byte _ (omega arith) (omega arith) (up_true 14 (omega arith) (pair m 28) refl)
  load_true d byte pointer.MinusY = pointer_true d 14 (minus16 (pair m 28) 1) byte _ (omega arith) (omega arith) (down_true 14 (omega arith) (pair m 28) refl)
  load_true d byte pointer.X = tt
  load_true d byte pointer.XPlus = pointer_true d 13 (plus16 (pair m 26) 1) byte _ (omega arith) (omega arith) (up_true 13 (omega arith) (pair m 26) refl)
  load_true d byte pointer.MinusX = pointer_true d 13 (minus16 (pair m 26) 1) byte _ (omega arith) (omega arith) (down_true 13 (omega arith) (pair m 26) refl)

  store_true : (p : Pointer) → TellsTrue (told_pointer f 32 p) (with_registers m.registers (moved p (pair m (pointer_register p))))
  store_true pointer.ZPlus = word_true 15 (plus16 (pair m 30) 1) _ (omega arith) (omega arith) (up_true 15 (omega arith) (pair m 30) refl)
  store_true pointer.MinusZ = word_true 15 (minus16 (pair m 30) 1) _ (omega arith) (omega arith) (down_true 15 (omega arith) (pair m 30) refl)
  store_true pointer.YPlus = word_true 14 (plus16 (pair m 28) 1) _ (omega arith) (omega arith) (up_true 14 (omega arith) (pair m 28) refl)
  store_true pointer.MinusY = word_true 14 (minus16 (pair m 28) 1) _ (omega arith) (omega arith) (down_true 14 (omega arith) (pair m 28) refl)
  store_true pointer.X = tt
  store_true pointer.XPlus = word_true 13 (plus16 (pair m 26) 1) _ (omega arith) (omega arith) (up_true 13 (omega arith) (pair m 26) refl)
  store_true pointer.MinusX = word_true 13 (minus16 (pair m 26) 1) _ (omega arith) (omega arith) (down_true 13 (omega arith) (pair m 26) refl)

  wide_less : (w k : ℕ) → w < 65536 → k < 256 → minus16 w k ≡ (65536 + w - k) % 65536
  wide_less w k small lt = omega arith

  pub told_true : (image : Image) (still : Bool) (b1 b2 : ℕ) (instr : Instr) → HasRegisters instr → TellsTrue (told_by s.registers f instr) (registers_set image still m instr b1 b2)
  told_true image still b1 b2 (i.Movw d r) fit =
      subst (InInterval (interval_at f.intervals r)) (sym (set_word m.registers at.count d (pair m (2 * r)) fit.0)) (h.intervals r fit.1)
  told_true image still b1 b2 (i.Binary op d r) fit = binary_true image op d r fit.0 fit.1
  told_true image still b1 b2 (i.Immediate op d k) fit = immediate_true op d k fit.0 fit.1
  told_true image still b1 b2 (i.Adiw d k) fit =
      word_true d ((pair m (2 * d) + k) % 65536) (moved_up (interval_at f.intervals d) k) fit.0 (omega arith)
      (rows_are_true.up (interval_at f.intervals d) (pair m (2 * d)) k (h.intervals d fit.0))
  told_true image still b1 b2 (i.Sbiw d k) fit =
      word_true d ((65536 + pair m (2 * d) - k) % 65536) (moved_down (interval_at f.intervals d) k) fit.0 (omega arith)
      (subst (ToldHolds (moved_down (interval_at f.intervals d) k)) (wide_less (pair m (2 * d)) k (word_of (2 * d)) fit.1)
      (rows_are_true.down (interval_at f.intervals d) (pair m (2 * d)) k (omega (arith, fit.1)) (h.intervals d fit.0)))
  told_true image still b1 b2 (i.Ld d p) fit = load_true d _ p
  told_true image still b1 b2 (i.St p r) fit = store_true p
  told_true image still b1 b2 (i.LpmZPlus d) fit = pointer_true d 15 (plus16 (pair m 30) 1) _ _ (omega arith) (omega arith) (up_true 15 (omega arith) (pair m 30) refl)
  told_true image still b1 b2 (i.ElpmZPlus d) fit = banked_true d (plus16 (pair m 30) 1) _ _ _ (omega arith) (up_true 15 (omega arith) (pair m 30) refl)
  told_true image still b1 b2 _ fit = tt

-- ---- it fits

carried_small : (t : SumTag) (d low high : ℕ) → IsIntervalSmall (carried t d low high)
carried_small sum.None d low high = tt
carried_small (sum.Down r a b) d low high = tt
carried_small (sum.Up r a b) d low high = by (r + 1 == d)
  where
    by : (same : Bool) → IsIntervalSmall (if same then carried_up a b low high else None)
    by true = modulo_small _ _
    by false = tt

borrowed_small : (t : SumTag) (d low high : ℕ) → IsIntervalSmall (borrowed t d low high)
borrowed_small sum.None d low high = tt
borrowed_small (sum.Up r a b) d low high = tt
borrowed_small (sum.Down r a b) d low high = by (r + 1 == d)
  where
    by : (same : Bool) → IsIntervalSmall (if same then carried_down a b low high else None)
    by true = modulo_small _ _
    by false = tt

same_fits : (f : PairFacts) (d r : ℕ) → d < 32 → ToldFits (kept_same f d r)
same_fits f d r lt = by (d == r)
  where
    by : (same : Bool) → ToldFits (if same then told.Kept (d / 2) (interval_of f d) else told.Nothing)
    by true = omega (arith, lt)
    by false = tt

binary_fits : (s : AbsState) (n : ℕ) → IsFormed s n → (f : PairFacts) (op : BinaryOp) (d r : ℕ) → d < 32 → r < 32 → ToldFits (told_binary s.registers f op d r)
binary_fits s n formed f binary.Cpc d r lt other = tt
binary_fits s n formed f binary.Sbc d r lt other = high_fits d _ lt (borrowed_small f.sum d (value_at s.registers r).low (value_at s.registers r).high)
binary_fits s n formed f binary.Add d r lt other = high_fits d _ lt (modulo_small _ _)
binary_fits s n formed f binary.Cpse d r lt other = tt
binary_fits s n formed f binary.Cp d r lt other = tt
binary_fits s n formed f binary.Sub d r lt other = high_fits d _ lt (modulo_small _ _)
binary_fits s n formed f binary.Adc d r lt other = high_fits d _ lt (carried_small f.sum d (value_at s.registers r).low (value_at s.registers r).high)
binary_fits s n formed f binary.And d r lt other = same_fits f d r lt
binary_fits s n formed f binary.Eor d r lt other = tt
binary_fits s n formed f binary.Or d r lt other = same_fits f d r lt
binary_fits s n formed f binary.Mov d r lt other = tt
binary_fits s n formed f binary.Mul d r lt other =
    let first : (value_at s.registers d).high < 256 = omega (arith, (formed.ranges d (omega (arith, lt))).high, ranges_fit.most (value_at s.registers d).bits) in
    let second : (value_at s.registers r).high < 256 = omega (arith, (formed.ranges r (omega (arith, other))).high, ranges_fit.most (value_at s.registers r).bits) in
    (omega arith, product_of_bytes (value_at s.registers d).high (value_at s.registers r).high first second)

immediate_fits : (f : PairFacts) (op : ImmediateOp) (d k : ℕ) → d < 32 → ToldFits (told_immediate f op d k)
immediate_fits f immediate.Cpi d k lt = tt
immediate_fits f immediate.Sbci d k lt = high_fits d _ lt (borrowed_small f.sum d k k)
immediate_fits f immediate.Subi d k lt = high_fits d _ lt (modulo_small _ _)
immediate_fits f immediate.Ori d k lt = tt
immediate_fits f immediate.Andi d k lt = tt
immediate_fits f immediate.Ldi d k lt = tt

pointer_fits : (f : PairFacts) (d : ℕ) (p : Pointer) → ToldFits (told_pointer f d p)
pointer_fits f d pointer.ZPlus = unless_fits d 15 _ (omega arith) (modulo_small _ _)
pointer_fits f d pointer.MinusZ = unless_fits d 15 _ (omega arith) (modulo_small _ _)
pointer_fits f d pointer.YPlus = unless_fits d 14 _ (omega arith) (modulo_small _ _)
pointer_fits f d pointer.MinusY = unless_fits d 14 _ (omega arith) (modulo_small _ _)
pointer_fits f d pointer.X = tt
pointer_fits f d pointer.XPlus = unless_fits d 13 _ (omega arith) (modulo_small _ _)
pointer_fits f d pointer.MinusX = unless_fits d 13 _ (omega arith) (modulo_small _ _)

pub told_fits : (s : AbsState) (n : ℕ) → IsFormed s n → (f : PairFacts) (instr : Instr) → HasRegisters instr → ToldFits (told_by s.registers f instr)
told_fits s n formed f (i.Movw d r) fit = fit.0
told_fits s n formed f (i.Binary op d r) fit = binary_fits s n formed f op d r fit.0 fit.1
told_fits s n formed f (i.Immediate op d k) fit = immediate_fits f op d k fit.0
told_fits s n formed f (i.Adiw d k) fit = computed_fits d _ fit.0 (modulo_small _ _)
told_fits s n formed f (i.Sbiw d k) fit = computed_fits d _ fit.0 (modulo_small _ _)
told_fits s n formed f (i.Ld d p) fit = pointer_fits f d p
told_fits s n formed f (i.St p r) fit = pointer_fits f 32 p
told_fits s n formed f (i.LpmZPlus d) fit = unless_fits d 15 _ (omega arith) (modulo_small _ _)
told_fits s n formed f (i.ElpmZPlus d) fit = unless_fits d 15 _ (omega arith) (modulo_small _ _)
told_fits s n formed f _ fit = tt
