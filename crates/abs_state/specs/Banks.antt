-- What the device says of a state: its tags, and RAMPZ and EIND, the registers 32 and 33. Source: own.
use Rattle.std.specs.Prelude.{ℕ, ◌≡◌, ◌<◌, ◌≤◌, ⊤, Bool, true, false, if◌then◌else◌, length, Some}
use Rattle.avr_model.specs.declared.device.Device.{Device}
use Rattle.avr_model.specs.Devices.{has_sph}
use Rattle.avr_model.specs.State.{RAMPZ, EIND, REGISTERS, bank_most, has_register}
use Rattle.bit_domain.specs.TriByte.{byte_known}
use Rattle.bit_domain.specs.Ranges.{most_of}
use Rattle.sp_domain.specs.declared.tags.Tag.{Tag}
use Rattle.sp_domain.specs.declared.tags.Tag.TheVariants as tag
use Rattle.sp_domain.specs.declared.slots.Slot.{Slot}
use Rattle.sp_domain.specs.declared.slots.Slot.TheVariants.{Free, Guarded}
use Rattle.sp_domain.specs.Slots.{slot_at}
use Rattle.abs_state.specs.declared.values.AbsByte.{AbsByte}
use Rattle.abs_state.specs.declared.state.AbsState.{AbsState}
use Rattle.abs_state.specs.Values.{value_at, with_bits, root, following_root}
use Rattle.abs_state.specs.Order.{state_join}
use Rattle.abs_state.specs.Frames.{entered}
use Rattle.abs_state.specs.PairsBack.{returned}
use Rattle.abs_state.specs.Formed.{IsWhole}

-- ---- tags

-- an entry tag names a register that the device has
abbrev pub names_of : Device → Tag → Bool
names_of device (tag.Entry r) = has_register device r
names_of device t = true

-- and only a device with SPH has tags of a high byte
abbrev pub is_tag_of : Device → Tag → Bool
is_tag_of device (tag.Entry r) = has_register device r
is_tag_of device (tag.SpHi k) = has_sph device
is_tag_of device t = true

abbrev pub IsSlotOf : (Tag → Bool) → Slot AbsByte → Type 0
IsSlotOf good Free = ⊤
IsSlotOf good (Guarded v) = good v.tag ≡ true

-- ---- RAMPZ and EIND

-- the value of a register that the device lacks: 0, with its own tag outside the root
abbrev pub absent : Bool → ℕ → AbsByte
absent is_root r = with_bits (if is_root then tag.None else tag.Entry r) (byte_known 0)

-- the value of RAMPZ or EIND permits no number above the register's greatest; if the device lacks the register, it is the absent one
pub record IsBankIn (good : Tag → Bool) (device : Device) (is_root : Bool) (r : ℕ) (v : AbsByte) : Type 0 where
  pub most : most_of v.bits ≤ bank_most device r
  pub tag : has_register device r ≡ true → good v.tag ≡ true
  pub lacking : has_register device r ≡ false → v ≡ absent is_root r

-- ---- states

-- a state with such tags, in the root or outside
pub record IsStateWith (good : Tag → Bool) (device : Device) (is_root : Bool) (s : AbsState) : Type 0 where
  pub registers : (r : ℕ) → r < 32 → good (value_at s.registers r).tag ≡ true
  pub slots : (d : ℕ) → d < length s.slots → IsSlotOf good (slot_at s.slots d)
  pub rampz : IsBankIn good device is_root RAMPZ (value_at s.registers RAMPZ)
  pub eind : IsBankIn good device is_root EIND (value_at s.registers EIND)

abbrev pub IsStateOf : Device → Bool → AbsState → Type 0
IsStateOf device is_root s = IsStateWith (is_tag_of device) device is_root s

-- This holds after reset, of a join, at an entry and after a return.
pub record StatesAreOf : Type 0 where
  pub root : (device : Device) → IsStateOf device true root
  pub following_root : (device : Device) → IsStateOf device true following_root
  pub joined : (good : Tag → Bool) (device : Device) (is_root : Bool) (s t : AbsState) → good tag.None ≡ true → IsWhole s → IsWhole t → length s.slots ≡ length t.slots
      → IsStateWith good device is_root s → IsStateWith good device is_root t → IsStateWith good device is_root (state_join s t)
  pub entered : (device : Device) (is_root : Bool) (s : AbsState) → length s.registers ≡ REGISTERS → IsStateOf device is_root s → IsStateOf device false (entered s)
  pub returned : (device : Device) (is_root : Bool) (caller exit t : AbsState) → IsWhole caller → IsWhole exit
      → IsStateOf device is_root caller → IsStateOf device false exit → returned caller exit ≡ Some t → IsStateOf device is_root t
