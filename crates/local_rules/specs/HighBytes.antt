-- The high byte of an address in the frame. Source: own.
use Rattle.std.specs.Prelude.{ℕ, ◌==◌, ◌&&◌, ◌||◌, Bool, false, nat_le, if◌then◌else◌, Option, Some, None}
use Rattle.avr_model.specs.declared.device.Device.{Device}
use Rattle.avr_model.specs.Devices.{has_sph}
use Rattle.bit_domain.specs.TriByte.{byte_constant}
use Rattle.sp_domain.specs.declared.tags.Tag.{Tag}
use Rattle.sp_domain.specs.declared.tags.Tag.TheVariants as tag
use Rattle.sp_domain.specs.declared.tags.CarryTag.{CarryTag}
use Rattle.sp_domain.specs.declared.tags.CarryTag.TheVariants as carry
use Rattle.sp_domain.specs.Tags.{is_same_tag}
use Rattle.abs_state.specs.declared.values.AbsByte.{AbsByte}
use Rattle.node_keys.specs.declared.keys.NodeKey.{NodeKey}
use Rattle.node_keys.specs.Keys.{offset_of}
use Rattle.local_rules.specs.Site.{Site}
use Rattle.local_rules.specs.declared.views.SpView.{SpView as View}

-- the stack pointer where an instruction executes: whether it has a high byte, and how far it is below the base
abbrev pub SpView : Type 0
SpView = View

abbrev pub view_by : Device → NodeKey → SpView
view_by device k = record { high = has_sph device; offset = offset_of k.sp }

abbrev pub view_of : Site → SpView
view_of at = view_by at.device at.key

-- the j of a low byte of base - j
abbrev pub low_number : Tag → Option ℕ
low_number (tag.SpLo j) = Some j
low_number t = None

-- the j of the low byte that a carry or borrow is of
abbrev pub carry_number : CarryTag → Option ℕ
carry_number (carry.Borrow j l) = Some j
carry_number (carry.Sum j l) = Some j
carry_number c = None

abbrev pub is_zero : Option ℕ → Bool
is_zero None = false
is_zero (Some n) = n == 0

-- Without SPH each address from the base down to the stack pointer is below 0x100, so 0 is its high byte. Another byte is the high byte of
-- base - j if its tag says so.
abbrev pub is_high_of : ℕ → ℕ → AbsByte → Bool
is_high_of offset j v = is_same_tag v.tag (tag.SpHi j) || (is_zero (byte_constant v.bits) && nat_le j offset)

abbrev pub beside : ℕ → Option ℕ → AbsByte → Tag
beside offset None v = tag.None
beside offset (Some j) v = if is_high_of offset j v then tag.SpHi j else tag.None

-- the tag of a high byte whose low byte is that of base - j: its own, or without SPH what it is beside that byte
abbrev pub seen_high : SpView → Option ℕ → AbsByte → Tag
seen_high view j v = if view.high then v.tag else beside view.offset j v
