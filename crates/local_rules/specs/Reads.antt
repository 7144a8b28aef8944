-- The value of a byte read from data space. Source: own.
use Rattle.std.specs.Prelude.{ℕ, ◌+◌, ◌*◌, ◌-◌, ◌&&◌, Bool, true, false, nat_lt, nat_le, if◌then◌else◌, length, Option, Some, None}
use Rattle.std.specs.Int.{bit_at, from_bool}
use Rattle.avr_model.specs.declared.device.Device.{Device}
use Rattle.avr_model.specs.declared.device.Special.{Special}
use Rattle.avr_model.specs.declared.device.Special.TheVariants.{Spl, Sph, Sreg}
use Rattle.avr_model.specs.Devices.{Image, words_of, io_end, ramend, device_of}
use Rattle.avr_model.specs.Image.{byte_at}
use Rattle.avr_model.specs.Vectors.{enable_of, held_of, is_moving}
use Rattle.avr_model.specs.State.{register_at, special, low, high, plus16, minus16}
use Rattle.bit_domain.specs.declared.bits.Tri.{Tri}
use Rattle.bit_domain.specs.declared.bits.Tri.TheVariants.{Zero, One, Any}
use Rattle.bit_domain.specs.declared.bytes.TriByte.{TriByte}
use Rattle.bit_domain.specs.Tri.{tri_bit}
use Rattle.bit_domain.specs.TriByte.{byte_of, byte_any, byte_with, byte_constant}
use Rattle.bit_domain.specs.Ranges.{set_meet}
use Rattle.sp_domain.specs.declared.tags.Tag.{Tag}
use Rattle.sp_domain.specs.declared.tags.Tag.TheVariants as tag
use Rattle.sp_domain.specs.declared.slots.Slot.{Slot}
use Rattle.sp_domain.specs.declared.slots.Slot.TheVariants.{Free, Guarded}
use Rattle.sp_domain.specs.Tags.{low_of, high_of, frame_of}
use Rattle.sp_domain.specs.Slots.{slot_at}
use Rattle.abs_state.specs.declared.values.AbsByte.{AbsByte}
use Rattle.abs_state.specs.declared.state.AbsState.{AbsState}
use Rattle.abs_state.specs.Values.{untagged, unknown, known, set_of, valued}
use Rattle.abs_state.specs.Frames.{with_tag}
use Rattle.node_keys.specs.declared.keys.NodeKey.{NodeKey}
use Rattle.node_keys.specs.declared.keys.Kind.{Kind}
use Rattle.node_keys.specs.declared.keys.Kind.TheVariants.{Root, Call, Vector}
use Rattle.node_keys.specs.declared.keys.SpForm.{SpForm}
use Rattle.node_keys.specs.declared.keys.SpForm.TheVariants.{Closed, Open}
-- the address that a pointer gives: a number, base - k, or both
use Rattle.local_rules.specs.declared.pointers.Pointed.{Pointed}
use Rattle.local_rules.specs.HighBytes.{SpView}
use Rattle.local_rules.specs.Registers.{value, bits, with_bits, high_tag_of}

-- ---- at an address

-- The bytes of a closed stack pointer: known in the root, whose base is the top of SRAM, and base - offset elsewhere.
abbrev pub closed_low : Device → Kind → ℕ → AbsByte
closed_low device Root offset = known (low (ramend device - offset))
closed_low device Call offset = with_bits (low_of offset) byte_any
closed_low device (Vector v) offset = with_bits (low_of offset) byte_any

abbrev pub closed_high : Device → Kind → ℕ → AbsByte
closed_high device Root offset = known (high (ramend device - offset))
closed_high device Call offset = with_bits (high_of offset) byte_any
closed_high device (Vector v) offset = with_bits (high_of offset) byte_any

-- the bytes of an open stack pointer are unknown
abbrev pub sp_low : Device → Kind → SpForm → AbsByte
sp_low device kind (Closed offset) = closed_low device kind offset
sp_low device kind (Open offset h) = unknown

abbrev pub sp_high : Device → Kind → SpForm → AbsByte
sp_high device kind (Closed offset) = closed_high device kind offset
sp_high device kind (Open offset h) = unknown

-- the status register, with I from the key
abbrev pub flags_tag : Bool → Tag
flags_tag true = tag.EntryFlags
flags_tag false = tag.None

abbrev pub sreg_value : NodeKey → AbsState → AbsByte
sreg_value k s = with_bits (flags_tag s.flags.entry) (byte_with s.flags.bits 7 (tri_bit (from_bool k.i)))

-- a bit of a set of what may be enabled: 0 if it is 0, else unknown
abbrev pub loosened : Tri → Tri
loosened Zero = Zero
loosened One = Any
loosened Any = Any

-- An enable bit is read from the key. If `may`, it is 0 or unknown.
abbrev pub enable_read : Bool → ℕ → Tri
enable_read false bit = tri_bit bit
enable_read true bit = loosened (tri_bit bit)

-- a bit that is a vector's enable bit comes from the key; others are as given
abbrev pub io_tri : Tri → Bool → Option ℕ → ℕ → Tri
io_tri free may None masks = free
io_tri free may (Some v) masks = enable_read may (bit_at masks (v - 2))

-- a bit that no key knows: a moving bit is read as 0 if `may`, every other is unknown
abbrev pub free_tri : Bool → Tri
free_tri true = Zero
free_tri false = Any

-- what a read of an I/O address gives: held bits by the key, other bits are unknown but for a moving bit
abbrev pub io_bits : Device → Bool → ℕ → ℕ → TriByte
io_bits device may masks a = byte_of (λ b. io_tri (free_tri (may && is_moving device a b)) may (held_of device a b) masks)

-- The byte of an I/O address of which `sbi` and `cbi` change one bit: each bit that enables a vector is that of the key, every other bit is
-- 0. So writing it back leaves all other enable bits of the key.
abbrev pub kept_bits : Device → ℕ → ℕ → TriByte
kept_bits device masks a = byte_of (λ b. io_tri Zero false (enable_of device a b) masks)

abbrev pub value_of : Slot AbsByte → AbsByte
value_of Free = unknown
value_of (Guarded v) = v

-- the slot at an address, for the root, whose base is known
abbrev pub slot_read : Device → Kind → AbsState → ℕ → AbsByte
slot_read device Root s a = if nat_le a (ramend device) then value_of (slot_at s.slots (ramend device - a)) else unknown
slot_read device Call s a = unknown
slot_read device (Vector v) s a = unknown

-- the value of a known address that is no register's; `may` says whether the key has what may be enabled
abbrev pub read_special : Device → Bool → NodeKey → AbsState → ℕ → Option Special → AbsByte
read_special device may k s a (Some Spl) = sp_low device k.inst.kind k.sp
read_special device may k s a (Some Sph) = sp_high device k.inst.kind k.sp
read_special device may k s a (Some Sreg) = sreg_value k s
read_special device may k s a None = if nat_le a (io_end device) then untagged (io_bits device may k.masks a) else slot_read device k.inst.kind s a

-- the value of a known address
abbrev pub read_behind : Device → Bool → NodeKey → AbsState → ℕ → Option ℕ → AbsByte
read_behind device may k s a (Some r) = value s r
read_behind device may k s a None = read_special device may k s a (special device a)

unfoldable pub read_at : Device → Bool → NodeKey → AbsState → ℕ → AbsByte
read_at device may k s a = read_behind device may k s a (register_at device a)

-- ---- through a pointer

abbrev pub word_of : Option ℕ → Option ℕ → Option ℕ
word_of None hi = None
word_of (Some x) None = None
word_of (Some x) (Some y) = Some (x + 256 * y)

-- the number in registers r and r + 1, if all bits are known
abbrev pub pair_constant : AbsState → ℕ → Option ℕ
pair_constant s r = word_of (byte_constant (bits s r)) (byte_constant (bits s (r + 1)))

abbrev pub raised : ℕ → Option ℕ → Option ℕ
raised up None = None
raised up (Some a) = Some (plus16 a up)

abbrev pub lowered : ℕ → Option ℕ → Option ℕ
lowered up None = None
lowered up (Some k) = Some (minus16 k up)

-- the pair plus a number, modulo 65,536: base - k plus the number is base - (k - number)
abbrev pub pointed : SpView → AbsState → ℕ → ℕ → Pointed
pointed view s r up =
    record {
      constant = raised up (pair_constant s r);
      frame = lowered up (frame_of (value s r).tag (high_tag_of view s r));
    }

-- the value by the number alone: without a tag; of registers and I/O the bits alone, a slot keeps its range
abbrev pub read_number : Device → Bool → NodeKey → AbsState → ℕ → AbsByte
read_number device may k s a = if nat_le a (io_end device) then untagged (read_at device may k s a).bits else valued tag.None (set_of (read_at device may k s a))

abbrev pub read_constant : Device → Bool → NodeKey → AbsState → Option ℕ → AbsByte
read_constant device may k s None = unknown
read_constant device may k s (Some a) = read_number device may k s a

-- the meet of a slot and of the value by the number; none if there is no meet
abbrev pub read_both : Device → Bool → NodeKey → AbsState → Option ℕ → AbsByte → Option AbsByte
read_both device may k s None v = Some v
read_both device may k s (Some a) v = with_tag v.tag (set_meet (set_of (read_number device may k s a)) (set_of v))

-- A missing slot is read by the number alone.
abbrev pub read_frame : Device → Bool → NodeKey → AbsState → Option ℕ → Option ℕ → Option AbsByte
read_frame device may k s constant None = Some (read_constant device may k s constant)
read_frame device may k s constant (Some d) =
    if nat_lt d (length s.slots) then read_both device may k s constant (value_of (slot_at s.slots d)) else Some (read_constant device may k s constant)

-- the value of a read through a pointer; none if it is impossible
abbrev pub read_pointed : Device → Bool → NodeKey → AbsState → Pointed → Option AbsByte
read_pointed device may k s p = read_frame device may k s p.constant p.frame

-- the byte of flash at a known address, on the image's device
abbrev pub flash_value : Image → Option ℕ → AbsByte
flash_value image None = unknown
flash_value image (Some z) = if nat_lt z (2 * words_of (device_of image)) then known (byte_at image.words z) else unknown
