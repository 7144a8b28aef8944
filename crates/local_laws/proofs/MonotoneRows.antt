-- The instruction table, row by row, is monotone.
use Rattle.std.proofs.Common.{ℕ, ◌+◌, ◌*◌, ◌<◌, ◌==◌, ◌||◌, Bool, true, false, [], ◌∷◌, if◌then◌else◌, arith}
use Rattle.local_rules.specs.Cover.{IsKey}
use Rattle.avr_model.specs.Devices.{wrapped}
use Rattle.avr_model.specs.declared.device.Device.{Device}
use Rattle.avr_model.specs.declared.instruction.Instr.{Instr}
use Rattle.avr_model.specs.declared.instruction.Instr.TheVariants as i
use Rattle.avr_model.specs.declared.instruction.BinaryOp.{BinaryOp}
use Rattle.avr_model.specs.declared.instruction.BinaryOp.TheVariants as binary
use Rattle.avr_model.specs.declared.instruction.Base.{Base}
use Rattle.avr_model.specs.declared.instruction.Base.TheVariants as base_of
use Rattle.avr_model.specs.declared.instruction.Pointer.{Pointer}
use Rattle.avr_model.specs.declared.instruction.Pointer.TheVariants as pointer
use Rattle.avr_model.specs.declared.operation.Logic.TheVariants as logic
use Rattle.avr_model.specs.declared.operation.Mul.TheVariants as product
use Rattle.avr_model.specs.Assumptions.{is_frame, has_scratch}
use Rattle.avr_model.specs.Masks.{reads_masks}
use Rattle.avr_model.specs.Text.{far, near}
use Rattle.avr_model.specs.State.{RAMPZ}
use Rattle.avr_model.specs.Sites.{base_register, pointer_register}
use Rattle.avr_model.specs.Effects.{port}
use Rattle.bit_domain.specs.declared.bits.Tri.TheVariants.{Zero, One}
use Rattle.bit_domain.specs.Tri.{IsTriWithin, tri_not}
use Rattle.bit_domain.specs.TriByte.{tri_at, byte_constant}
use Rattle.bit_domain.specs.Logic.{byte_equal}
use Rattle.abs_alu.proofs.AllLaws.{same_within}
use Rattle.bit_domain.proofs.AllLaws.{bits_cover, writes_cover, logic_is_monotone}
use Rattle.abs_state.specs.declared.state.AbsState.{AbsState}
use Rattle.node_keys.specs.declared.keys.NodeKey.{NodeKey}
use Rattle.node_keys.specs.declared.keys.Kind.{Kind}
use Rattle.node_keys.specs.Keys.{offset_of}
use Rattle.local_rules.specs.Raw.{Raw, at_word, next, further}
use Rattle.local_rules.specs.HighBytes.{view_by}
use Rattle.local_rules.specs.Registers.{value, bits, carry_bit, set, less_than, less_kept, or_nothing, pair_moved, going_by, binary_after}
use Rattle.local_rules.specs.FrameLines.{is_followed, framed_binary}
use Rattle.local_rules.specs.Reads.{read_at, pair_constant, kept_bits, flash_value}
use Rattle.local_rules.specs.Banks.{extended_constant}
use Rattle.local_rules.specs.Flow.{skipping, reading_zero, flag_at, ret_exit, reti_exit}
use Rattle.local_rules.specs.Local.{step_before, pointer_moved, extended_moved, bit_row, row_of}
use Rattle.local_laws.proofs.MonotoneValues.{IsLess, AreRegistersLess, IsStateLess, any_bit_within, constant_is, constant_tells, untagged_less, registers_set}
use Rattle.local_laws.proofs.MonotoneRaw.{LeadsLess, further_small, wrapped_small, word_key, next_key, going_less, on_less, setting_less}
use Rattle.local_laws.proofs.MonotoneAlu.{with_7, pair_set, reg, reg_bits, flag_bits, kept_flags, setting_flags, setting_register, sum_less, compare_less, sub_less, sbc_less, or_nothing_within, logic_less, than_of, than_within, kept_of, kept_within, product_less, pair_less, wide_less, flag_less as one_flag_less}
use Rattle.local_laws.proofs.FrameMonotone.{add_less, adc_less, framed_sub_less, immediate_line_less, unary_line_less}
use Rattle.local_laws.proofs.MonotonePermits.{IsPairWithin}
use Rattle.local_laws.proofs.MonotoneReads.{flash_less, read_less, constants, pointed_constants, pointed_frames, pointer_read, loading_less}
use Rattle.local_laws.proofs.MonotoneBanks.{extended_tells, stepped_less}
use Rattle.local_laws.proofs.MonotoneWrites.{write_less, pointer_less}
use Rattle.local_laws.proofs.MonotoneFlow.{calling_less, here, zero_place, branch_less, flag_less, skipping_less, flag_within, jump_less, indirect_less, far_jump_less, far_indirect_less, push_less, relative_less, pop_less, return_less}
use Rattle.local_laws.proofs.MonotoneFields.{InstrFits}
use Rattle.local_rules.specs.Site.{Task, site_at}
use Rattle.local_rules.specs.Local.{equal_skip}
use Rattle.local_rules.specs.FrameLines.{binary_at}

base_small : (b : Base) → base_register b < 32
base_small base_of.Y = omega arith
base_small base_of.Z = omega arith

pub pointer_small : (p : Pointer) → pointer_register p < 32
pointer_small pointer.ZPlus = omega arith
pointer_small pointer.MinusZ = omega arith
pointer_small pointer.YPlus = omega arith
pointer_small pointer.MinusY = omega arith
pointer_small pointer.X = omega arith
pointer_small pointer.XPlus = omega arith
pointer_small pointer.MinusX = omega arith

module _ (device : Device) (task : Task) (k : NodeKey) (at : IsKey device k) (s t : AbsState) (le : IsStateLess k.inst.kind (offset_of k.sp) s t) where
  abbrev kind : Kind
  kind = k.inst.kind

  carry_in : IsTriWithin (carry_bit s) (carry_bit t)
  carry_in = any_bit_within s.flags.bits t.flags.bits 0 (flag_bits device k at s t le)

  register_bit : (r b : ℕ) → IsTriWithin (tri_at (bits s r) b) (tri_at (bits t r) b)
  register_bit r b = any_bit_within (bits s r) (bits t r) b (reg_bits device k at s t le r)

  binary_less : (op : BinaryOp) (d r : ℕ) → d < 32 → LeadsLess device k.inst (going_by (site_at device k s) (binary_at (view_by device k) false s op d r) (equal_skip task.flash (site_at device k s) d r)) (going_by (site_at device k t) (binary_at (view_by device k) false t op d r) (equal_skip task.flash (site_at device k t) d r))
  binary_less binary.Cpc d r low =
      compare_less device k at s t le (bits s d) (bits t d) (bits s r) (bits t r) (carry_bit s) (carry_bit t) true
      (less_kept (byte_constant (bits s d)) (byte_constant (bits s r)) s.flags.carry) (less_kept (byte_constant (bits t d)) (byte_constant (bits t r)) t.flags.carry)
      (reg_bits device k at s t le d) (reg_bits device k at s t le r) carry_in (kept_of (byte_constant (bits s d)) (byte_constant (bits s r)) s.flags.carry le.flags.bytes le.flags.names)
      (kept_within (byte_constant (bits s d)) (byte_constant (bits s r)) (byte_constant (bits t d)) (byte_constant (bits t r)) s.flags.carry t.flags.carry
      (constant_tells (bits s d) (bits t d) (reg_bits device k at s t le d)) (constant_tells (bits s r) (bits t r) (reg_bits device k at s t le r)) le.flags.within.carry)
  binary_less binary.Sbc d r low =
      sbc_less device k at s t le d (bits s r) (bits t r) (byte_constant (bits s r)) (byte_constant (bits t r)) (reg_bits device k at s t le r)
      (constant_tells (bits s r) (bits t r) (reg_bits device k at s t le r))
  binary_less binary.Add d r low = sum_less device k at s t le d (bits s r) (bits t r) Zero Zero (reg_bits device k at s t le r) (λ n p. p)
  binary_less binary.Cpse d r low =
      skipping_less device k at s t le task.flash k k (byte_equal (bits s d) (bits s r)) (byte_equal (bits t d) (bits t r)) (here device k at s t le) (here device k at s t le)
      (logic_is_monotone.tests (bits s d) (bits s r) (bits t d) (bits t r) (reg_bits device k at s t le d) (reg_bits device k at s t le r))
  binary_less binary.Cp d r low =
      compare_less device k at s t le (bits s d) (bits t d) (bits s r) (bits t r) Zero Zero false (less_than d (byte_constant (bits s r))) (less_than d (byte_constant (bits t r)))
      (reg_bits device k at s t le d) (reg_bits device k at s t le r) (λ n p. p) (than_of d (byte_constant (bits s r)) low (λ n e. (constant_is (bits s r) n e).1))
      (than_within d (byte_constant (bits s r)) (byte_constant (bits t r)) (constant_tells (bits s r) (bits t r) (reg_bits device k at s t le r)))
  binary_less binary.Sub d r low =
      sub_less device k at s t le d (or_nothing d r (bits s d)) (or_nothing d r (bits t d)) (or_nothing d r (bits s r)) (or_nothing d r (bits t r))
      (byte_constant (bits s r)) (byte_constant (bits t r))
      (or_nothing_within device k at s t le d r (bits s d) (bits t d) (reg_bits device k at s t le d)) (or_nothing_within device k at s t le d r (bits s r) (bits t r) (reg_bits device k at s t le r))
      (constant_tells (bits s r) (bits t r) (reg_bits device k at s t le r)) (λ n e. (constant_is (bits s r) n e).1)
  binary_less binary.Adc d r low = sum_less device k at s t le d (bits s r) (bits t r) (carry_bit s) (carry_bit t) (reg_bits device k at s t le r) carry_in
  binary_less binary.And d r low =
      logic_less device k at s t le logic.And d (bits s d) (bits t d) (bits s r) (bits t r) (d == r) (reg_bits device k at s t le d) (reg_bits device k at s t le r)
  binary_less binary.Eor d r low =
      logic_less device k at s t le logic.Eor d (or_nothing d r (bits s d)) (or_nothing d r (bits t d)) (or_nothing d r (bits s r)) (or_nothing d r (bits t r)) false
      (or_nothing_within device k at s t le d r (bits s d) (bits t d) (reg_bits device k at s t le d)) (or_nothing_within device k at s t le d r (bits s r) (bits t r) (reg_bits device k at s t le r))
  binary_less binary.Or d r low =
      logic_less device k at s t le logic.Or d (bits s d) (bits t d) (bits s r) (bits t r) (d == r) (reg_bits device k at s t le d) (reg_bits device k at s t le r)
  binary_less binary.Mov d r low = setting_register device k at s t le d (value s r) (value t r) (reg device k at s t le r)
  binary_less binary.Mul d r low = product_less device k at s t le product.Mul d r

  -- the row of two registers, with pairs or without
  abbrev row_by : Bool → AbsState → BinaryOp → ℕ → ℕ → Raw
  row_by framed u op d r = going_by (site_at device k u) (if framed then framed_binary (view_by device k) u op d r else binary_after (view_by device k) u op d r) (skipping task.flash (site_at device k u) k k (byte_equal (bits u d) (bits u r)))

  binary_line_less : (framed : Bool) (op : BinaryOp) (d r : ℕ) → d < 32 → LeadsLess device k.inst (row_by framed s op d r) (row_by framed t op d r)
  binary_line_less false op d r low = binary_less op d r low
  binary_line_less true binary.Cpc d r low = binary_less binary.Cpc d r low
  binary_line_less true binary.Sbc d r low = binary_less binary.Sbc d r low
  binary_line_less true binary.Add d r low = add_less device k at s t le d r
  binary_line_less true binary.Cpse d r low = binary_less binary.Cpse d r low
  binary_line_less true binary.Cp d r low = binary_less binary.Cp d r low
  binary_line_less true binary.Sub d r low =
      framed_sub_less device k at s t le d (bits s r) (bits t r) (byte_constant (bits s r)) (byte_constant (bits t r)) (reg_bits device k at s t le r)
      (constant_tells (bits s r) (bits t r) (reg_bits device k at s t le r)) (λ n e. (constant_is (bits s r) n e).1)
  binary_line_less true binary.Adc d r low = adc_less device k at s t le d r
  binary_line_less true binary.And d r low = binary_less binary.And d r low
  binary_line_less true binary.Eor d r low = binary_less binary.Eor d r low
  binary_line_less true binary.Or d r low = binary_less binary.Or d r low
  binary_line_less true binary.Mov d r low = binary_less binary.Mov d r low
  binary_line_less true binary.Mul d r low = binary_less binary.Mul d r low

  -- ---- loads and stores

  pub moved_less : (p : Pointer) → AreRegistersLess kind (pointer_moved (view_by device k) p s) (pointer_moved (view_by device k) p t)
  moved_less pointer.ZPlus = pair_less device k at s t le 30 true 1
  moved_less pointer.MinusZ = pair_less device k at s t le 30 false 1
  moved_less pointer.YPlus = pair_less device k at s t le 28 true 1
  moved_less pointer.MinusY = pair_less device k at s t le 28 false 1
  moved_less pointer.X = le.registers
  moved_less pointer.XPlus = pair_less device k at s t le 26 true 1
  moved_less pointer.MinusX = pair_less device k at s t le 26 false 1

  abbrev may : Bool
  may = reads_masks device task.assumptions

  bit_less : (a b : ℕ) (on : Bool) → LeadsLess device k.inst (bit_row (site_at device k s) a b on) (bit_row (site_at device k t) a b on)
  bit_less a b on =
      write_less device (next device k) (next_key device k at) s t le k.pc false a _ _
      (untagged_less kind _ _ (writes_cover.more (kept_bits device k.masks a) (kept_bits device k.masks a) b (if on then One else Zero) (if on then One else Zero)
      (same_within (kept_bits device k.masks a)) (λ n p. p)))

  port_bit : (a b : ℕ) → IsTriWithin (tri_at (read_at device may k s a).bits b) (tri_at (read_at device may k t a).bits b)
  port_bit a b = any_bit_within (read_at device may k s a).bits (read_at device may k t a).bits b (read_less device may k at s t le a).within.bits

  -- the registers and the pair of a pointer
  pub pair_less_at : (r : ℕ) → r < 32 → IsPairWithin s t r
  pair_less_at r there = record { there = there; low = (reg device k at s t le r).within; high = (reg device k at s t le (r + 1)).within; facts = le.facts.within }

  -- the byte of flash at the address in RAMPZ and Z
  far_byte_less : IsLess kind (flash_value task.flash (extended_constant s)) (flash_value task.flash (extended_constant t))
  far_byte_less = flash_less kind task.flash (extended_constant s) (extended_constant t) (extended_tells device k at s t le)

  -- Z and RAMPZ behind Z+
  extended_less : AreRegistersLess kind (extended_moved (site_at device k s)) (extended_moved (site_at device k t))
  extended_less =
      registers_set kind (pair_moved (view_by device k) s 30 true 1) (pair_moved (view_by device k) t 30 true 1) (pair_less device k at s t le 30 true 1) RAMPZ _ _
      (stepped_less device k at s t le)

  -- ---- the whole table

  pub row_less : (scratch : Bool) (instr : Instr) → InstrFits instr → LeadsLess device k.inst (row_of task scratch (site_at device k s) instr) (row_of task scratch (site_at device k t) instr)
  row_less scratch (i.Movw d r) fits =
      setting_less device k at s t le _ _ s.flags t.flags
      (pair_set kind s.registers t.registers (2 * d) _ _ _ _ le.registers (reg device k at s t le (2 * r)) (reg device k at s t le (2 * r + 1))) le.flags
  row_less scratch (i.Muls d r) fits = product_less device k at s t le product.Muls d r
  row_less scratch (i.Mulsu d r) fits = product_less device k at s t le product.Mulsu d r
  row_less scratch (i.Fmul d r) fits = product_less device k at s t le product.Fmul d r
  row_less scratch (i.Fmuls d r) fits = product_less device k at s t le product.Fmuls d r
  row_less scratch (i.Fmulsu d r) fits = product_less device k at s t le product.Fmulsu d r
  row_less scratch (i.Binary op d r) fits = binary_line_less (is_followed (is_frame task.assumptions k.pc) d r) op d r fits
  row_less scratch (i.Immediate op d n) fits = immediate_line_less device k at s t le (is_frame task.assumptions k.pc) op d n fits.0 fits.1
  row_less scratch (i.Unary op d) fits = unary_line_less device k at s t le (is_frame task.assumptions k.pc) op d
  row_less scratch (i.Adiw d n) fits = wide_less device k at s t le true (2 * d) n
  row_less scratch (i.Sbiw d n) fits = wide_less device k at s t le false (2 * d) n
  row_less scratch (i.Bset n) fits = one_flag_less device k at s t le n true
  row_less scratch (i.Bclr n) fits = one_flag_less device k at s t le n false
  row_less scratch (i.Bld d b) fits =
      setting_register device k at s t le d _ _
      (untagged_less kind _ _ (writes_cover.more (bits s d) (bits t d) b (tri_at s.flags.bits 6) (tri_at t.flags.bits 6) (reg_bits device k at s t le d)
      (any_bit_within s.flags.bits t.flags.bits 6 (flag_bits device k at s t le))))
  row_less scratch (i.Bst d b) fits =
      setting_flags device k at s t le _ _
      (kept_flags device k at s t le _ _
      (writes_cover.more s.flags.bits t.flags.bits 6 (tri_at (bits s d) b) (tri_at (bits t d) b) (flag_bits device k at s t le) (register_bit d b))
      (with_7 s.flags.bits 6 (tri_at (bits s d) b) (omega arith) le.flags.bit_7))
  row_less scratch (i.Ldd d b q) fits = loading_less device k at s t le s.registers t.registers d _ _ le.registers (pointer_read device may k at s t le (base_register b) q)
  row_less scratch (i.Std b q r) fits =
      pointer_less device (next device k) (next_key device k at) s t le k.pc (value s r) (value t r) (reg device k at s t le r) task s t (base_register b) q
      (pointed_constants device k at s t le (base_register b) q)
      (pointed_frames device k at s t le (base_register b) q) (pair_less_at (base_register b) (base_small b))
  row_less scratch (i.Lds d a) fits =
      going_less device k at (record s { registers = set s d (read_at device may k s a) }) (record t { registers = set t d (read_at device may k t a) })
      (record { registers = registers_set kind s.registers t.registers le.registers d _ _ (read_less device may k at s t le a); flags = le.flags; slots = le.slots; facts = le.facts })
      (further device k 2) (further_small device k 2)
  row_less scratch (i.Sts a r) fits =
      write_less device (at_word k (further device k 2)) (word_key k (further device k 2) at (further_small device k 2)) s t le k.pc false a (value s r) (value t r) (reg device k at s t le r)
  row_less scratch (i.Ld d p) fits =
      loading_less device k at s t le (pointer_moved (view_by device k) p s) (pointer_moved (view_by device k) p t) d _ _ (moved_less p) (pointer_read device may k at s t le (pointer_register p) (step_before p))
  row_less scratch (i.St p r) fits =
      pointer_less device (next device k) (next_key device k at) (record s { registers = pointer_moved (view_by device k) p s }) (record t { registers = pointer_moved (view_by device k) p t })
      (record { registers = moved_less p; flags = le.flags; slots = le.slots; facts = le.facts }) k.pc (value s r) (value t r) (reg device k at s t le r) task s t (pointer_register p) (step_before p)
      (pointed_constants device k at s t le (pointer_register p) (step_before p))
      (pointed_frames device k at s t le (pointer_register p) (step_before p)) (pair_less_at (pointer_register p) (pointer_small p))
  row_less scratch (i.LpmZ d) fits = setting_register device k at s t le d _ _ (flash_less kind task.flash (pair_constant s 30) (pair_constant t 30) (constants device k at s t le 30))
  row_less scratch (i.LpmZPlus d) fits =
      setting_less device k at s t le _ _ s.flags t.flags
      (registers_set kind (pair_moved (view_by device k) s 30 true 1) (pair_moved (view_by device k) t 30 true 1) (pair_less device k at s t le 30 true 1) d _ _
      (flash_less kind task.flash (pair_constant s 30) (pair_constant t 30) (constants device k at s t le 30))) le.flags
  row_less scratch i.Lpm fits = setting_register device k at s t le 0 _ _ (flash_less kind task.flash (pair_constant s 30) (pair_constant t 30) (constants device k at s t le 30))
  row_less scratch (i.ElpmZ d) fits = setting_register device k at s t le d _ _ far_byte_less
  row_less scratch (i.ElpmZPlus d) fits =
      setting_less device k at s t le _ _ s.flags t.flags
      (registers_set kind (extended_moved (site_at device k s)) (extended_moved (site_at device k t)) extended_less d _ _ far_byte_less) le.flags
  row_less scratch i.Elpm fits = setting_register device k at s t le 0 _ _ far_byte_less
  row_less scratch (i.Pop d) fits = pop_less device k at s t le d
  row_less scratch (i.Push r) fits = push_less device k at s t le (scratch || has_scratch task.assumptions k.pc) r
  row_less scratch (i.In d a) fits = setting_register device k at s t le d _ _ (read_less device may k at s t le (port device a))
  row_less scratch (i.Out a r) fits = write_less device (next device k) (next_key device k at) s t le k.pc true (port device a) (value s r) (value t r) (reg device k at s t le r)
  row_less scratch (i.Cbi a b) fits = bit_less (port device a) b false
  row_less scratch (i.Sbi a b) fits = bit_less (port device a) b true
  row_less scratch i.Ijmp fits = jump_less device k at s t le task.assumptions
  row_less scratch i.Icall fits = indirect_less device k at s t le task.assumptions
  row_less scratch i.Eijmp fits = far_jump_less device k at s t le task.assumptions
  row_less scratch i.Eicall fits = far_indirect_less device k at s t le task.assumptions
  row_less scratch i.Ret fits = return_less device k at s t le (ret_exit k)
  row_less scratch i.Reti fits = return_less device k at s t le (reti_exit k)
  row_less scratch (i.Jmp target) fits = going_less device k at s t le (wrapped device target) (wrapped_small device target)
  row_less scratch (i.Call target) fits = calling_less k.inst k (further device k 2) (wrapped device target ∷ [])
  row_less scratch (i.Rjmp target) fits = going_less device k at s t le (wrapped device (far k.pc target)) (wrapped_small device (far k.pc target))
  row_less scratch (i.Rcall target) fits = relative_less device k at s t le scratch (wrapped device (far k.pc target)) (wrapped_small device (far k.pc target))
  row_less scratch (i.Brbs n target) fits =
      flag_less device k at s t le n (wrapped device (near k.pc target)) (further device k 1) _ _ (wrapped_small device (near k.pc target)) (further_small device k 1)
      (branch_less device k at s t le (flag_at k s n) (flag_at k t n) (wrapped device (near k.pc target)) (further device k 1) (flag_within device k at s t le n) (wrapped_small device (near k.pc target)) (further_small device k 1))
  row_less scratch (i.Brbc n target) fits =
      flag_less device k at s t le n (further device k 1) (wrapped device (near k.pc target)) _ _ (further_small device k 1) (wrapped_small device (near k.pc target))
      (branch_less device k at s t le (tri_not (flag_at k s n)) (tri_not (flag_at k t n)) (wrapped device (near k.pc target)) (further device k 1)
      (bits_cover.nots_within (flag_at k s n) (flag_at k t n) (flag_within device k at s t le n)) (wrapped_small device (near k.pc target)) (further_small device k 1))
  row_less scratch (i.Sbic a b) fits =
      skipping_less device k at s t le task.flash (reading_zero device may k (port device a) b) k _ _ (zero_place device k at s t le may (port device a) b) (here device k at s t le) (bits_cover.nots_within _ _ (port_bit (port device a) b))
  row_less scratch (i.Sbis a b) fits =
      skipping_less device k at s t le task.flash k (reading_zero device may k (port device a) b) _ _ (here device k at s t le) (zero_place device k at s t le may (port device a) b) (port_bit (port device a) b)
  row_less scratch (i.Sbrc r b) fits = skipping_less device k at s t le task.flash k k _ _ (here device k at s t le) (here device k at s t le) (bits_cover.nots_within _ _ (register_bit r b))
  row_less scratch (i.Sbrs r b) fits = skipping_less device k at s t le task.flash k k _ _ (here device k at s t le) (here device k at s t le) (register_bit r b)
  row_less scratch i.Nop fits = on_less device k at s t le
  row_less scratch i.Sleep fits = on_less device k at s t le
  row_less scratch i.Break fits = on_less device k at s t le
  row_less scratch i.Wdr fits = on_less device k at s t le
