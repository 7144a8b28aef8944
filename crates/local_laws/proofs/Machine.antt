-- Every step leaves a state of the machine: equally many registers and bytes, all in range.
use Rattle.std.proofs.Common.{◌≡◌, ◌∙◌, ℕ, zero, suc, ◌+◌, ◌%◌, ◌-◌, ◌*◌, ◌^◌, ◌<◌, ◌==◌, ◌&&◌, Bool, true, false, nat_le, if◌then◌else◌, List, [], ◌∷◌, length, Option, Some, None, slice_set, arith, length-set}
use Rattle.std.specs.Int.{bit_at}
use Rattle.std.specs.List.{All}
use Rattle.std.proofs.lemmas.Nat.Bits.{bit_at-lt}
use Rattle.std.proofs.lemmas.List.Elements.{All-set}
use Rattle.avr_model.specs.Devices.{spl_address, sph_address, sreg_address, words_of, io_end, size_of, has_sph, sp_count}
use Rattle.avr_model.specs.declared.device.Device.{Device}
use Rattle.avr_model.specs.declared.effect.Write.{Write}
use Rattle.avr_model.specs.declared.effect.Effect.{Effect}
use Rattle.avr_model.specs.State.{State, REGISTERS, register_at, read_behind, is_sph, sram_at, is_sram, byte_in, read, low, high, plus_sp, minus_sp}
use Rattle.avr_model.specs.Effects.{back_bytes, pushed_from}
use Rattle.avr_model.specs.Step.{with_registers, register_stored, registers_after, sreg_after, sp_after, open_after, enables_after, after}
use Rattle.avr_model.specs.Vectors.{enable_count, is_moving, io_bit, io_byte}
use Rattle.vector_table.proofs.AllLaws.{numbers_are_their_bits, enables_are_vectors}
use Rattle.local_rules.specs.Machine.{IsMachine}
use Rattle.local_laws.proofs.BankSizes.{AreBankWrites, kept_small, banks_set, banks_after}
use Rattle.local_laws.proofs.Bytes.{byte_in_list}
use Rattle.local_laws.proofs.Memory.{AreByteWrites, memory_stays}

-- the numbers of an effect are in range
pub record IsEffect (device : Device) (e : Effect) : Type 0 where
  pub pc : e.pc < words_of device
  pub registers : AreByteWrites e.registers
  pub sreg : e.sreg < 256
  pub sp : e.sp < sp_count device
  pub enables : e.enables < 2 ^ enable_count device
  pub stores : AreByteWrites e.stores
  pub pushes : AreByteWrites e.pushes

-- ---- the state after such an effect

-- 34 registers, each a byte
pub record AreRegisters (registers : List ℕ) : Type 0 where
  pub count : length registers ≡ REGISTERS
  pub each : All (λ b. b < 256) registers

set_register : (registers : List ℕ) (r b : ℕ) → b < 256 → AreRegisters registers → AreRegisters (slice_set registers r b)
set_register registers r b small h = record { count = length-set registers r b ∙ h.count; each = All-set (λ x. x < 256) registers r b small h.each }

pub with_stay : (ws : List Write) (registers : List ℕ) → AreByteWrites ws → AreRegisters registers → AreRegisters (with_registers registers ws)
with_stay [] registers small h = h
with_stay (w ∷ ws) registers small h = with_stay ws (slice_set registers w.address w.byte) small.1 (set_register registers w.address w.byte small.0 h)

stored_stay : (device : Device) (registers : List ℕ) (b : ℕ) (r : Option ℕ) → b < 256 → AreRegisters registers → AreRegisters (register_stored device registers b r)
stored_stay device registers b None small h = h
stored_stay device registers b (Some r) small h = set_register registers r _ (kept_small device r b small) h

registers_stay : (device : Device) (ws : List Write) (registers : List ℕ) → AreByteWrites ws → AreRegisters registers → AreRegisters (registers_after device registers ws)
registers_stay device [] registers small h = h
registers_stay device (w ∷ ws) registers small h = registers_stay device ws _ small.1 (stored_stay device registers w.byte (register_at device w.address) small.0 h)

chosen : (b : Bool) (bound x y : ℕ) → x < bound → y < bound → (if b then x else y) < bound
chosen true bound x y h g = h
chosen false bound x y h g = g

sreg_stays : (device : Device) (ws : List Write) (sreg : ℕ) → AreByteWrites ws → sreg < 256 → sreg_after device sreg ws < 256
sreg_stays device [] sreg small h = h
sreg_stays device (w ∷ ws) sreg small h = sreg_stays device ws _ small.1 (chosen (w.address == sreg_address device) 256 w.byte sreg small.0 h)

-- how many numbers a stack pointer holds, with a high byte or without
abbrev counted : Bool → ℕ
counted has_high = if has_high then 65536 else 256

up_by : (has_high : Bool) (a k : ℕ) → (a + k) % counted has_high < counted has_high
up_by true a k = omega arith
up_by false a k = omega arith

pub up_small : (device : Device) (a k : ℕ) → plus_sp device a k < sp_count device
up_small device a k = up_by (has_sph device) a k

pub down_small : (device : Device) (a k : ℕ) → minus_sp device a k < sp_count device
down_small device a k = up_by (has_sph device) a (sp_count device - k % sp_count device)

-- pushes of a word's bytes
pub pushed_bytes : (device : Device) (n sp word : ℕ) → AreByteWrites (pushed_from device sp (back_bytes n word))
pushed_bytes device zero sp word = tt
pushed_bytes device (suc n) sp word = (omega arith, pushed_bytes device n (minus_sp device sp 1) (high word))

low_stays : (has_high : Bool) (sp byte : ℕ) → sp < counted has_high → byte < 256 → 256 * high sp + byte < counted has_high
low_stays true sp byte h small = omega arith
low_stays false sp byte h small = omega arith

high_stays : (has_high is_high : Bool) (sp byte : ℕ) → sp < counted has_high → byte < 256 → (if is_high && has_high then 256 * byte + low sp else sp) < counted has_high
high_stays true true sp byte h small = omega arith
high_stays true false sp byte h small = h
high_stays false true sp byte h small = h
high_stays false false sp byte h small = h

sp_stays : (device : Device) (ws : List Write) (sp : ℕ) → AreByteWrites ws → sp < sp_count device → sp_after device sp ws < sp_count device
sp_stays device [] sp small h = h
sp_stays device (w ∷ ws) sp small h =
    sp_stays device ws _ small.1
    (chosen (w.address == spl_address device) (sp_count device) (256 * high sp + w.byte) _ (low_stays (has_sph device) sp w.byte h small.0)
    (high_stays (has_sph device) (w.address == sph_address device) sp w.byte h small.0))

enables_stay : (device : Device) (ws : List Write) (enables : ℕ) → enables < 2 ^ enable_count device → enables_after device enables ws < 2 ^ enable_count device
enables_stay device [] enables h = h
enables_stay device (w ∷ ws) enables h = enables_stay device ws _ (enables_are_vectors.written device enables w.address w.byte)

pub after_stays : (m : State) (guarded : Bool) (e : Effect) → IsMachine m → IsEffect m.device e → AreBankWrites m.device e.registers → IsMachine (after m guarded e)
after_stays m guarded e h fits banked =
    let set_first = with_stay e.registers m.registers fits.registers (record { count = h.count_registers; each = h.register_bytes }) in
    let registers = registers_stay m.device e.stores (with_registers m.registers e.registers) fits.stores set_first in
    let memory = memory_stays (io_end m.device) (size_of m.device) m.memory guarded (open_after m.device e.is_open e.stores) (sp_after m.device e.sp e.stores) e.stores e.pushes fits.stores fits.pushes
    (record { is = h.below; count_bytes = h.count_bytes; sram_bytes = h.sram_bytes; count_live = h.count_live }) in
    record {
      pc_small = fits.pc;
      count_registers = registers.count;
      register_bytes = registers.each;
      banks = banks_after m.device e.stores (with_registers m.registers e.registers) (banks_set m.device e.registers m.registers banked h.banks);
      sreg_byte = sreg_stays m.device e.stores e.sreg fits.stores fits.sreg;
      sp_fits = sp_stays m.device e.stores e.sp fits.stores fits.sp;
      enable_bits = enables_stay m.device e.stores e.enables fits.enables;
      below = memory.is;
      count_bytes = memory.count_bytes;
      sram_bytes = memory.sram_bytes;
      count_live = memory.count_live;
    }

-- ---- bytes that are read

-- a bit that no place holds: a moving bit is 0 if `still`, every other is the input byte's
abbrev pub free_bit : Device → Bool → ℕ → ℕ → ℕ → ℕ
free_bit device still a input b = if still && is_moving device a b then 0 else bit_at input b

pub free_small : (device : Device) (still : Bool) (a input b : ℕ) → free_bit device still a input b < 2
free_small device still a input b = by (still && is_moving device a b)
  where
    by : (c : Bool) → (if c then 0 else bit_at input b) < 2
    by true = omega arith
    by false = bit_at-lt input b

pub io_value : (v : Option ℕ) (enables free : ℕ) → free < 2 → io_bit v enables free < 2
io_value None enables free h = h
io_value (Some v) enables free h = bit_at-lt enables (v - 2)

pub io_small : (device : Device) (still : Bool) (enables a input : ℕ) → io_byte device still enables a input < 256
unfolding io_byte
io_small device still enables a input = numbers_are_their_bits.below 8 _ (λ b lt. io_value _ enables (free_bit device still a input b) (free_small device still a input b))

byte_small : (below : ℕ) (bytes : List ℕ) (a : ℕ) → All (λ b. b < 256) bytes → byte_in below bytes a < 256
unfolding byte_in
byte_small below bytes a h = byte_in_list bytes (a - (below + 1)) h

pub sp_small : (has_high : Bool) (sp : ℕ) → sp < counted has_high → sp < 65536
sp_small true sp h = h
sp_small false sp h = omega arith

pub high_small : (has_high : Bool) (sp : ℕ) → sp < counted has_high → high sp < 256
high_small true sp h = omega arith
high_small false sp h = omega arith

pub read_small : (m : State) (still : Bool) (a input : ℕ) → IsMachine m → input < 256 → read still m a input < 256
unfolding read
read_small m still a input h small = by (register_at m.device a)
  where
    by : (r : Option ℕ) → read_behind still m a input r < 256
    by (Some r) = byte_in_list m.registers r h.register_bytes
    by None =
        chosen (a == spl_address m.device) 256 (low m.sp) _ (omega arith)
        (chosen (is_sph m.device a) 256 (high m.sp) _ (high_small (has_sph m.device) m.sp h.sp_fits)
        (chosen (a == sreg_address m.device) 256 m.sreg _ h.sreg_byte
        (chosen (nat_le a (io_end m.device)) 256 (io_byte m.device still m.enables a input) _ (io_small m.device still m.enables a input)
        (chosen (is_sram m.device a) 256 (sram_at m a) input (byte_small m.memory.below m.memory.bytes a h.sram_bytes) small))))
