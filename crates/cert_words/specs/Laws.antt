-- Reading and spelling of words are inverse.
use Rattle.std.specs.Prelude.{ℕ, ◌≡◌, Bool, List, Some}
use Rattle.avr_model.specs.declared.device.Device.{Device}
use Rattle.bit_domain.specs.declared.bytes.TriByte.{TriByte}
use Rattle.sp_domain.specs.declared.tags.CarryTag.{CarryTag}
use Rattle.sp_domain.specs.declared.slots.Slot.{Slot}
use Rattle.abs_state.specs.declared.values.AbsByte.{AbsByte}
use Rattle.node_keys.specs.declared.keys.SpForm.{SpForm}
use Rattle.certificate.specs.declared.version.Version.{Version}
use Rattle.line_reading.specs.Words.{IsWord}
use Rattle.cert_words.specs.Spelling.{value_word, flags_word, carry_word, slot_word, form_word}
use Rattle.cert_words.specs.Reading.{value_in, flags_in, carry_in, slot_in, form_in}
use Rattle.cert_words.specs.Fits.{IsValue, AreFlags, IsCarry, IsSlot, IsSpForm}

-- a word that is read is that of a fitting value
pub record WordsAreSpelled : Type 0 where
  pub value : (device : Device) (version : Version) (root : Bool) (w : List ℕ) (v : AbsByte) → value_in device version root w ≡ Some v → (w ≡ value_word version v) × IsValue device version root v
  pub slot : (device : Device) (version : Version) (root : Bool) (w : List ℕ) (s : Slot AbsByte) → slot_in device version root w ≡ Some s → (w ≡ slot_word version s) × IsSlot device version root s
  pub flags : (root : Bool) (w : List ℕ) (entry : Bool) (bits : TriByte) → flags_in root w ≡ Some (entry, bits) → (w ≡ flags_word entry bits) × AreFlags root entry bits
  pub carry : (version : Version) (root : Bool) (w : List ℕ) (c : CarryTag) → carry_in version root w ≡ Some c → (w ≡ carry_word c) × IsCarry version root c
  pub form : (device : Device) (root : Bool) (w : List ℕ) (f : SpForm) → form_in device root w ≡ Some f → (w ≡ form_word f) × IsSpForm device root f

-- the word of a fitting value is read as the value
pub record ValueWordsAreRead : Type 0 where
  pub value : (device : Device) (version : Version) (root : Bool) (v : AbsByte) → IsValue device version root v → value_in device version root (value_word version v) ≡ Some v
  pub slot : (device : Device) (version : Version) (root : Bool) (s : Slot AbsByte) → IsSlot device version root s → slot_in device version root (slot_word version s) ≡ Some s
  pub flags : (root entry : Bool) (bits : TriByte) → AreFlags root entry bits → flags_in root (flags_word entry bits) ≡ Some (entry, bits)
  pub carry : (version : Version) (root : Bool) (c : CarryTag) → IsCarry version root c → carry_in version root (carry_word c) ≡ Some c
  pub form : (device : Device) (root : Bool) (f : SpForm) → IsSpForm device root f → form_in device root (form_word f) ≡ Some f

-- words have no space and no line feed
pub record WordsAreWords : Type 0 where
  pub value : (device : Device) (version : Version) (root : Bool) (v : AbsByte) → IsValue device version root v → IsWord (value_word version v)
  pub slot : (device : Device) (version : Version) (root : Bool) (s : Slot AbsByte) → IsSlot device version root s → IsWord (slot_word version s)
  pub flags : (entry : Bool) (bits : TriByte) → IsWord (flags_word entry bits)
  pub carry : (version : Version) (root : Bool) (c : CarryTag) → IsCarry version root c → IsWord (carry_word c)
  pub form : (device : Device) (root : Bool) (f : SpForm) → IsSpForm device root f → IsWord (form_word f)

pub record ValueWords : Type 0 where
  pub spelled : WordsAreSpelled
  pub read : ValueWordsAreRead
  pub words : WordsAreWords
