-- The effect of every row is in range: bytes are bytes, and words are words.
use Rattle.std.proofs.Common.{ℕ, ◌+◌, ◌-◌, ◌*◌, ◌/◌, ◌%◌, ◌<◌, ◌==◌, Bool, true, false, not, nat_lt, nat_le, if◌then◌else◌, List, [], ◌++◌, slice_index, arith}
use Rattle.abs_alu.proofs.AllLaws.{logic_small, result_small, top_small}
use Rattle.avr_model.proofs.AllLaws.{devices_are_alike}
use Rattle.avr_model.specs.Devices.{Image, words_of, device_of, back_of, wrapped}
use Rattle.avr_model.specs.declared.effect.Write.{Write}
use Rattle.avr_model.specs.declared.instruction.Instr.{Instr}
use Rattle.avr_model.specs.declared.instruction.Instr.TheVariants as i
use Rattle.avr_model.specs.declared.instruction.BinaryOp.{BinaryOp}
use Rattle.avr_model.specs.declared.instruction.BinaryOp.TheVariants as binary
use Rattle.avr_model.specs.declared.instruction.ImmediateOp.{ImmediateOp}
use Rattle.avr_model.specs.declared.instruction.ImmediateOp.TheVariants as immediate
use Rattle.avr_model.specs.declared.instruction.UnaryOp.{UnaryOp}
use Rattle.avr_model.specs.declared.instruction.UnaryOp.TheVariants as unary
use Rattle.avr_model.specs.declared.instruction.Pointer.{Pointer}
use Rattle.avr_model.specs.declared.instruction.Pointer.TheVariants as pointer
use Rattle.avr_model.specs.declared.operation.Logic.{Logic}
use Rattle.avr_model.specs.declared.operation.Logic.TheVariants as logic
use Rattle.avr_model.specs.declared.operation.Shift.{Shift}
use Rattle.avr_model.specs.declared.operation.Shift.TheVariants as shift
use Rattle.avr_model.specs.declared.operation.Mul.{Mul}
use Rattle.avr_model.specs.declared.operation.Mul.TheVariants as product
use Rattle.avr_model.specs.Bitwise.{logic_of, shift_of, flags_of_result}
use Rattle.avr_model.specs.Image.{byte_at}
use Rattle.avr_model.specs.Product.{result_of, flags_of_product}
use Rattle.avr_model.specs.Sreg.{flag}
use Rattle.avr_model.specs.Wide.{wide_of, flags_of_wide}
use Rattle.avr_model.specs.State.{State, register, pair, plus16, minus16}
use Rattle.avr_model.specs.Effects.{set, set_pair, going_to, setting, storing, calling, flash_read, extended_byte, stepped_bank, moved, binary_effect, immediate_effect, unary_effect, effect_of, branch_effect, logic_effect, carry}
use Rattle.local_rules.specs.Machine.{IsMachine, AreWords}
use Rattle.local_laws.proofs.BankSizes.{stepped_most}
use Rattle.local_laws.proofs.Bytes.{below_in_list, byte_in_list}
use Rattle.local_laws.proofs.Bits.{with_bit_small, with_flags_small, with_carry_and_zero_small}
use Rattle.local_laws.proofs.Memory.{AreByteWrites}
use Rattle.local_laws.proofs.Sized.{IsInstrSized}
use Rattle.local_laws.proofs.Machine.{IsEffect, up_small, down_small, pushed_bytes, read_small}

-- ---- numbers

pub shift_small : (op : Shift) (a s : ℕ) → a < 256 → shift_of op a s < 256
shift_small op a s h = omega (arith, top_small op a s h)

pub wide_small : (up : Bool) (a k : ℕ) → wide_of up a k < 65536
wide_small true a k = omega arith
wide_small false a k = omega arith

result_flags_small : (c v : Bool) (r s : ℕ) → s < 256 → flags_of_result c v r s < 256
result_flags_small c v r s h = with_flags_small c (r == 0) (nat_le 128 r) v (flag s 5) s h

wide_flags_small : (up : Bool) (a k s : ℕ) → s < 256 → flags_of_wide up a k s < 256
wide_flags_small true a k s h = with_flags_small _ _ _ _ _ s h
wide_flags_small false a k s h = with_flags_small _ _ _ _ _ s h

pub byte_at_small : (image : Image) (z : ℕ) → AreWords image → byte_at image.words z < 256
byte_at_small image z h = here (z % 2 == 0)
  where
    here : (b : Bool) → (if b then slice_index image.words (z / 2) % 256 else slice_index image.words (z / 2) / 256) < 256
    here true = omega arith
    here false = omega (arith, below_in_list 65536 image.words (z / 2) (omega arith) h)

pub flash_small : (image : Image) (z input : ℕ) → AreWords image → input < 256 → flash_read image z input < 256
flash_small image z input h small = here (nat_lt z (2 * words_of (device_of image)))
  where
    here : (b : Bool) → (if b then byte_at image.words z else input) < 256
    here true = byte_at_small image z h
    here false = small

one_write : (r b : ℕ) → b < 256 → AreByteWrites (set r b)
one_write r b h = (h, tt)

pair_writes : (r w : ℕ) → w < 65536 → AreByteWrites (set_pair r w)
pair_writes r w h = (omega arith, (omega arith, tt))

and_one : (r w a b : ℕ) → w < 65536 → b < 256 → AreByteWrites (set_pair r w ++ set a b)
and_one r w a b h g = (omega arith, (omega arith, (g, tt)))

moved_writes : (p : Pointer) (w : ℕ) → AreByteWrites (moved p w)
moved_writes pointer.ZPlus w = pair_writes 30 (plus16 w 1) (omega arith)
moved_writes pointer.MinusZ w = pair_writes 30 (minus16 w 1) (omega arith)
moved_writes pointer.YPlus w = pair_writes 28 (plus16 w 1) (omega arith)
moved_writes pointer.MinusY w = pair_writes 28 (minus16 w 1) (omega arith)
moved_writes pointer.X w = tt
moved_writes pointer.XPlus w = pair_writes 26 (plus16 w 1) (omega arith)
moved_writes pointer.MinusX w = pair_writes 26 (minus16 w 1) (omega arith)

moved_and_one : (p : Pointer) (w d b : ℕ) → b < 256 → AreByteWrites (moved p w ++ set d b)
moved_and_one pointer.ZPlus w d b h = and_one 30 (plus16 w 1) d b (omega arith) h
moved_and_one pointer.MinusZ w d b h = and_one 30 (minus16 w 1) d b (omega arith) h
moved_and_one pointer.YPlus w d b h = and_one 28 (plus16 w 1) d b (omega arith) h
moved_and_one pointer.MinusY w d b h = and_one 28 (minus16 w 1) d b (omega arith) h
moved_and_one pointer.X w d b h = (h, tt)
moved_and_one pointer.XPlus w d b h = and_one 26 (plus16 w 1) d b (omega arith) h
moved_and_one pointer.MinusX w d b h = and_one 26 (minus16 w 1) d b (omega arith) h

-- ---- effects

module _ (m : State) (h : IsMachine m) where
  byte : (r : ℕ) → register m r < 256
  byte r = byte_in_list m.registers r h.register_bytes

  inside : (a : ℕ) → wrapped m.device a < words_of m.device
  inside a = devices_are_alike.inside m.device a

  stepped_small : stepped_bank m < 256
  stepped_small = omega (arith, stepped_most m h, devices_are_alike.most_rampz m.device)

  goes : (pc : ℕ) → IsEffect m.device (going_to m pc)
  goes pc = record { pc = inside pc; registers = tt; sreg = h.sreg_byte; sp = h.sp_fits; enables = h.enable_bits; stores = tt; pushes = tt }

  sets : (ws : List Write) (sreg : ℕ) → AreByteWrites ws → sreg < 256 → IsEffect m.device (setting m ws sreg)
  sets ws sreg bytes small = record { pc = inside _; registers = bytes; sreg = small; sp = h.sp_fits; enables = h.enable_bits; stores = tt; pushes = tt }

  stores_byte : (a b : ℕ) → b < 256 → IsEffect m.device (storing m a b)
  stores_byte a b small = record { pc = inside _; registers = tt; sreg = h.sreg_byte; sp = h.sp_fits; enables = h.enable_bits; stores = (small, tt); pushes = tt }

  calls : (target back : ℕ) → IsEffect m.device (calling m target back)
  calls target back =
      record {
        pc = inside target;
        registers = tt;
        sreg = h.sreg_byte;
        sp = down_small m.device m.sp (back_of m.device);
        enables = h.enable_bits;
        stores = tt;
        pushes = pushed_bytes m.device (back_of m.device) m.sp back;
      }

  logic_fits : (op : Logic) (d a b : ℕ) → a < 256 → b < 256 → IsEffect m.device (logic_effect m op d a b)
  logic_fits op d a b small_a small_b =
      sets (set d (logic_of op a b)) (flags_of_result (carry m) false (logic_of op a b) m.sreg) (one_write d _ (logic_small op a b small_a small_b))
      (result_flags_small (carry m) false (logic_of op a b) m.sreg h.sreg_byte)

  multiplies : (op : Mul) (a b : ℕ) → a < 256 → b < 256 → IsEffect m.device (setting m (set_pair 0 (result_of op a b)) (flags_of_product op a b m.sreg))
  multiplies op a b small_a small_b = sets _ _ (pair_writes 0 _ (result_small op a b small_a small_b)) (with_carry_and_zero_small _ _ m.sreg h.sreg_byte)

  binary_fits : (image : Image) (op : BinaryOp) (d r : ℕ) → IsEffect m.device (binary_effect image m op d r)
  binary_fits image binary.Cpc d r = sets [] _ tt (with_flags_small _ _ _ _ _ m.sreg h.sreg_byte)
  binary_fits image binary.Sbc d r = sets _ _ (one_write d _ (omega arith)) (with_flags_small _ _ _ _ _ m.sreg h.sreg_byte)
  binary_fits image binary.Add d r = sets _ _ (one_write d _ (omega arith)) (with_flags_small _ _ _ _ _ m.sreg h.sreg_byte)
  binary_fits image binary.Cpse d r = goes _
  binary_fits image binary.Cp d r = sets [] _ tt (with_flags_small _ _ _ _ _ m.sreg h.sreg_byte)
  binary_fits image binary.Sub d r = sets _ _ (one_write d _ (omega arith)) (with_flags_small _ _ _ _ _ m.sreg h.sreg_byte)
  binary_fits image binary.Adc d r = sets _ _ (one_write d _ (omega arith)) (with_flags_small _ _ _ _ _ m.sreg h.sreg_byte)
  binary_fits image binary.And d r = logic_fits logic.And d (register m d) (register m r) (byte d) (byte r)
  binary_fits image binary.Eor d r = logic_fits logic.Eor d (register m d) (register m r) (byte d) (byte r)
  binary_fits image binary.Or d r = logic_fits logic.Or d (register m d) (register m r) (byte d) (byte r)
  binary_fits image binary.Mov d r = sets _ _ (one_write d _ (byte r)) h.sreg_byte
  binary_fits image binary.Mul d r = multiplies product.Mul (register m d) (register m r) (byte d) (byte r)

  immediate_fits : (op : ImmediateOp) (d n : ℕ) → n < 256 → IsEffect m.device (immediate_effect m op d n)
  immediate_fits immediate.Cpi d n small = sets [] _ tt (with_flags_small _ _ _ _ _ m.sreg h.sreg_byte)
  immediate_fits immediate.Sbci d n small = sets _ _ (one_write d _ (omega arith)) (with_flags_small _ _ _ _ _ m.sreg h.sreg_byte)
  immediate_fits immediate.Subi d n small = sets _ _ (one_write d _ (omega arith)) (with_flags_small _ _ _ _ _ m.sreg h.sreg_byte)
  immediate_fits immediate.Ori d n small = logic_fits logic.Or d (register m d) n (byte d) small
  immediate_fits immediate.Andi d n small = logic_fits logic.And d (register m d) n (byte d) small
  immediate_fits immediate.Ldi d n small = sets _ _ (one_write d _ small) h.sreg_byte

  unary_fits : (op : UnaryOp) (d : ℕ) → IsEffect m.device (unary_effect m op d)
  unary_fits unary.Com d = sets _ (flags_of_result true false (255 - register m d) m.sreg) (one_write d _ (omega arith)) (result_flags_small true false (255 - register m d) m.sreg h.sreg_byte)
  unary_fits unary.Neg d = sets _ _ (one_write d _ (omega arith)) (with_flags_small _ _ _ _ _ m.sreg h.sreg_byte)
  unary_fits unary.Swap d = sets _ _ (one_write d _ (omega (arith, byte d))) h.sreg_byte
  unary_fits unary.Inc d = sets _ _ (one_write d _ (omega arith)) (with_flags_small _ _ _ _ _ m.sreg h.sreg_byte)
  unary_fits unary.Asr d = sets _ _ (one_write d _ (shift_small shift.Asr _ m.sreg (byte d))) (with_flags_small _ _ _ _ _ m.sreg h.sreg_byte)
  unary_fits unary.Lsr d = sets _ _ (one_write d _ (shift_small shift.Lsr _ m.sreg (byte d))) (with_flags_small _ _ _ _ _ m.sreg h.sreg_byte)
  unary_fits unary.Ror d = sets _ _ (one_write d _ (shift_small shift.Ror _ m.sreg (byte d))) (with_flags_small _ _ _ _ _ m.sreg h.sreg_byte)
  unary_fits unary.Dec d = sets _ _ (one_write d _ (omega arith)) (with_flags_small _ _ _ _ _ m.sreg h.sreg_byte)

  branches : (test : Bool) (k : ℕ) → IsEffect m.device (branch_effect m test k)
  branches true k = goes _
  branches false k = goes _

  module _ (image : Image) (are : AreWords image) (still : Bool) (b1 b2 : ℕ) (small1 : b1 < 256) (small2 : b2 < 256) where
    -- the effect of every row is in range
    pub row_fits : (instr : Instr) → IsInstrSized instr → IsEffect m.device (effect_of image still m instr b1 b2)
    row_fits i.Nop sized = goes _
    row_fits (i.Movw d r) sized = sets _ _ (pair_writes (2 * d) (pair m (2 * r)) (omega (arith, byte (2 * r), byte (2 * r + 1)))) h.sreg_byte
    row_fits (i.Muls d r) sized = multiplies product.Muls (register m d) (register m r) (byte d) (byte r)
    row_fits (i.Mulsu d r) sized = multiplies product.Mulsu (register m d) (register m r) (byte d) (byte r)
    row_fits (i.Fmul d r) sized = multiplies product.Fmul (register m d) (register m r) (byte d) (byte r)
    row_fits (i.Fmuls d r) sized = multiplies product.Fmuls (register m d) (register m r) (byte d) (byte r)
    row_fits (i.Fmulsu d r) sized = multiplies product.Fmulsu (register m d) (register m r) (byte d) (byte r)
    row_fits (i.Binary op d r) sized = binary_fits image op d r
    row_fits (i.Immediate op d n) sized = immediate_fits op d n sized
    row_fits (i.Ldd d b q) sized = sets _ _ (one_write d _ (read_small m still _ b1 h small1)) h.sreg_byte
    row_fits (i.Std b q r) sized = stores_byte _ _ (byte r)
    row_fits (i.Lds d a) sized = record { pc = inside _; registers = (read_small m still a b1 h small1, tt); sreg = h.sreg_byte; sp = h.sp_fits; enables = h.enable_bits; stores = tt; pushes = tt }
    row_fits (i.Ld d p) sized = sets _ _ (moved_and_one p _ d _ (read_small m still _ b1 h small1)) h.sreg_byte
    row_fits (i.LpmZ d) sized = sets _ _ (one_write d _ (flash_small image (pair m 30) b1 are small1)) h.sreg_byte
    row_fits (i.LpmZPlus d) sized = sets _ _ (and_one 30 (plus16 (pair m 30) 1) d _ (omega arith) (flash_small image (pair m 30) b1 are small1)) h.sreg_byte
    row_fits (i.ElpmZ d) sized = sets _ _ (one_write d _ (flash_small image (extended_byte m) b1 are small1)) h.sreg_byte
    row_fits (i.ElpmZPlus d) sized = sets _ _ (omega arith, (omega arith, (stepped_small, (flash_small image (extended_byte m) b1 are small1, tt)))) h.sreg_byte
    row_fits i.Elpm sized = sets _ _ (one_write 0 _ (flash_small image (extended_byte m) b1 are small1)) h.sreg_byte
    row_fits (i.Pop d) sized = record { pc = inside _; registers = (read_small m still _ b1 h small1, tt); sreg = h.sreg_byte; sp = up_small m.device m.sp 1; enables = h.enable_bits; stores = tt; pushes = tt }
    row_fits (i.Sts a r) sized = record { pc = inside _; registers = tt; sreg = h.sreg_byte; sp = h.sp_fits; enables = h.enable_bits; stores = (byte r, tt); pushes = tt }
    row_fits (i.St p r) sized = record { pc = inside _; registers = moved_writes p _; sreg = h.sreg_byte; sp = h.sp_fits; enables = h.enable_bits; stores = (byte r, tt); pushes = tt }
    row_fits (i.Push r) sized = record { pc = inside _; registers = tt; sreg = h.sreg_byte; sp = down_small m.device m.sp 1; enables = h.enable_bits; stores = tt; pushes = (byte r, tt) }
    row_fits (i.Unary op d) sized = unary_fits op d
    row_fits (i.Bset n) sized = record { pc = inside _; registers = tt; sreg = with_bit_small m.sreg n true; sp = h.sp_fits; enables = h.enable_bits; stores = tt; pushes = tt }
    row_fits (i.Bclr n) sized = record { pc = inside _; registers = tt; sreg = with_bit_small m.sreg n false; sp = h.sp_fits; enables = h.enable_bits; stores = tt; pushes = tt }
    row_fits i.Ijmp sized = goes _
    row_fits i.Icall sized = calls _ _
    row_fits i.Eijmp sized = goes _
    row_fits i.Eicall sized = calls _ _
    row_fits i.Ret sized = record { pc = inside _; registers = tt; sreg = h.sreg_byte; sp = up_small m.device m.sp (back_of m.device); enables = h.enable_bits; stores = tt; pushes = tt }
    row_fits i.Reti sized = record { pc = inside _; registers = tt; sreg = with_bit_small m.sreg 7 true; sp = up_small m.device m.sp (back_of m.device); enables = h.enable_bits; stores = tt; pushes = tt }
    row_fits i.Sleep sized = goes _
    row_fits i.Break sized = goes _
    row_fits i.Wdr sized = goes _
    row_fits i.Lpm sized = sets _ _ (one_write 0 _ (flash_small image (pair m 30) b1 are small1)) h.sreg_byte
    row_fits (i.Jmp t) sized = goes t
    row_fits (i.Call t) sized = calls t _
    row_fits (i.Adiw d n) sized = sets _ _ (pair_writes (2 * d) _ (wide_small true (pair m (2 * d)) n)) (wide_flags_small true (pair m (2 * d)) n m.sreg h.sreg_byte)
    row_fits (i.Sbiw d n) sized = sets _ _ (pair_writes (2 * d) _ (wide_small false (pair m (2 * d)) n)) (wide_flags_small false (pair m (2 * d)) n m.sreg h.sreg_byte)
    row_fits (i.Cbi a b) sized = stores_byte _ _ (with_bit_small _ b false)
    row_fits (i.Sbi a b) sized = stores_byte _ _ (with_bit_small _ b true)
    row_fits (i.Sbic a b) sized = goes _
    row_fits (i.Sbis a b) sized = goes _
    row_fits (i.In d a) sized = sets _ _ (one_write d _ (read_small m still _ b1 h small1)) h.sreg_byte
    row_fits (i.Out a r) sized = record { pc = inside _; registers = tt; sreg = h.sreg_byte; sp = h.sp_fits; enables = h.enable_bits; stores = (byte r, tt); pushes = tt }
    row_fits (i.Rjmp t) sized = goes _
    row_fits (i.Rcall t) sized = calls _ _
    row_fits (i.Brbs n t) sized = branches (flag m.sreg n) t
    row_fits (i.Brbc n t) sized = branches (not (flag m.sreg n)) t
    row_fits (i.Bld d b) sized = sets _ _ (one_write d _ (with_bit_small _ b _)) h.sreg_byte
    row_fits (i.Bst d b) sized = sets [] _ tt (with_bit_small m.sreg 6 _)
    row_fits (i.Sbrc r b) sized = goes _
    row_fits (i.Sbrs r b) sized = goes _
