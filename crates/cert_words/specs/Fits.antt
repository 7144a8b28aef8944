-- The values, flags, slots and forms that a node of a device may have in the root's frame, and in other frames.
use Rattle.std.specs.Prelude.{◌≡◌, ◌<◌, ◌≤◌, ⊤, Bool, true, false}
use Rattle.avr_model.specs.declared.device.Device.{Device}
use Rattle.avr_model.specs.Devices.{depth_of, has_sph}
use Rattle.bit_domain.specs.declared.bits.Tri.TheVariants.{Any}
use Rattle.bit_domain.specs.declared.bytes.TriByte.{TriByte}
use Rattle.bit_domain.specs.TriByte.{tri_at}
use Rattle.sp_domain.specs.declared.tags.Tag.{Tag}
use Rattle.sp_domain.specs.declared.tags.Tag.TheVariants as tag
use Rattle.sp_domain.specs.declared.tags.CarryTag.{CarryTag}
use Rattle.sp_domain.specs.declared.slots.Slot.{Slot}
use Rattle.sp_domain.specs.declared.slots.Slot.TheVariants.{Free, Guarded}
use Rattle.sp_domain.specs.Tags.{HasByteNumbers}
use Rattle.abs_state.specs.declared.values.AbsByte.{AbsByte}
use Rattle.abs_state.specs.Formed.{CarryNamesRegister, ByteFits, CarryIsUntagged}
use Rattle.abs_state.specs.Banks.{is_tag_of}
use Rattle.node_keys.specs.declared.keys.High.{High}
use Rattle.node_keys.specs.declared.keys.High.TheVariants as high
use Rattle.node_keys.specs.declared.keys.SpForm.{SpForm}
use Rattle.node_keys.specs.declared.keys.SpForm.TheVariants.{Closed, Open}
use Rattle.local_rules.specs.Cover.{TagFits}
use Rattle.certificate.specs.declared.version.Version.{Version}
use Rattle.certificate.specs.Versions.{ValueIsOf, CarryIsOf}

-- the device has it, its number is in range, and in the root's frame it is no tag
pub record IsTag (device : Device) (root : Bool) (t : Tag) : Type 0 where
  pub of : is_tag_of device t ≡ true
  pub fits : TagFits t
  pub none : root ≡ true → t ≡ tag.None

-- the tag fits, the range lies between the least and the greatest byte of the bits, and the version has the value
pub record IsValue (device : Device) (version : Version) (root : Bool) (v : AbsByte) : Type 0 where
  pub fits_tag : IsTag device root v.tag
  pub range : ByteFits v
  pub of_version : ValueIsOf version v

abbrev pub IsSlot : Device → Version → Bool → Slot AbsByte → Type 0
IsSlot device version root Free = ⊤
IsSlot device version root (Guarded v) = IsValue device version root v

-- bit 7 is unknown, and in the root's frame the flags are not those of the entry
pub record AreFlags (root entry : Bool) (bits : TriByte) : Type 0 where
  pub bit_7 : tri_at bits 7 ≡ Any
  pub none : root ≡ true → entry ≡ false

-- its numbers are bytes, it names one of r0 to r31, in the root's frame it does not speak of the base, and the version has it
pub record IsCarry (version : Version) (root : Bool) (c : CarryTag) : Type 0 where
  pub bytes : HasByteNumbers c
  pub names : CarryNamesRegister c
  pub untagged : root ≡ true → CarryIsUntagged c
  pub of_version : CarryIsOf version c

abbrev pub IsHigh : Bool → High → Type 0
IsHigh true (high.Known byte) = byte < 256
IsHigh true (high.Tag k) = ⊥
IsHigh false (high.Known byte) = ⊥
IsHigh false (high.Tag k) = k < 65536

abbrev pub IsSpForm : Device → Bool → SpForm → Type 0
IsSpForm device root (Closed offset) = offset ≤ depth_of device
IsSpForm device root (Open offset h) = (offset ≤ depth_of device) × ((has_sph device ≡ true) × IsHigh root h)
