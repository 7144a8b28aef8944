-- The one spelling of a value, of flags, of a carry tag, of a slot and of a form of the stack pointer, each as a word. Source: own.
use Rattle.std.specs.Prelude.{ℕ, Bool, true, false, List, [], ◌++◌, codes}
use Rattle.std.specs.Fmt.{decimal}
use Rattle.text_base.specs.Digits.{hex_digits}
use Rattle.bit_domain.specs.declared.bytes.TriByte.{TriByte}
use Rattle.sp_domain.specs.declared.tags.Tag.{Tag}
use Rattle.sp_domain.specs.declared.tags.Tag.TheVariants as tag
use Rattle.sp_domain.specs.declared.tags.CarryTag.{CarryTag}
use Rattle.sp_domain.specs.declared.tags.CarryTag.TheVariants as carry
use Rattle.sp_domain.specs.declared.slots.Slot.{Slot}
use Rattle.sp_domain.specs.declared.slots.Slot.TheVariants.{Free, Guarded}
use Rattle.abs_state.specs.declared.values.AbsByte.{AbsByte}
use Rattle.node_keys.specs.declared.keys.High.{High}
use Rattle.node_keys.specs.declared.keys.High.TheVariants as high
use Rattle.node_keys.specs.declared.keys.SpForm.{SpForm}
use Rattle.node_keys.specs.declared.keys.SpForm.TheVariants.{Closed, Open}
use Rattle.certificate.specs.declared.version.Version.{Version}
use Rattle.certificate.specs.declared.version.Version.TheVariants.{One, Two, Three}

-- the known bits, and their values
abbrev pub bits_text : TriByte → List ℕ
bits_text t = hex_digits t.known 2 ++ hex_digits t.value 2

abbrev pub tag_text : Tag → List ℕ
tag_text tag.None = codes "-"
tag_text (tag.Entry r) = codes "e" ++ hex_digits r 2
tag_text tag.EntryFlags = codes "f"
tag_text (tag.SpLo j) = codes "l" ++ hex_digits j 2
tag_text (tag.SpHi k) = codes "h" ++ hex_digits k 4

-- the least and the greatest byte of a value; nothing in the first version
abbrev pub range_text : Version → AbsByte → List ℕ
range_text One v = []
range_text Two v = hex_digits v.low 2 ++ hex_digits v.high 2
range_text Three v = hex_digits v.low 2 ++ hex_digits v.high 2

abbrev pub value_word : Version → AbsByte → List ℕ
value_word version v = tag_text v.tag ++ (bits_text v.bits ++ range_text version v)

-- whether the flags are those of the entry
abbrev pub entry_text : Bool → List ℕ
entry_text true = codes "f"
entry_text false = codes "-"

abbrev pub flags_word : Bool → TriByte → List ℕ
flags_word entry bits = entry_text entry ++ bits_text bits

abbrev pub carry_word : CarryTag → List ℕ
carry_word carry.None = codes "-"
carry_word (carry.Borrow j l) = codes "b" ++ hex_digits j 2 ++ hex_digits l 2
carry_word (carry.Sum j l) = codes "s" ++ hex_digits j 2 ++ hex_digits l 2
carry_word (carry.Less r k) = codes "c" ++ hex_digits r 2 ++ hex_digits k 2

abbrev pub slot_word : Version → Slot AbsByte → List ℕ
slot_word version Free = codes "."
slot_word version (Guarded v) = value_word version v

-- the high byte of a half-written stack pointer
abbrev pub high_text : High → List ℕ
high_text (high.Known byte) = codes ",k" ++ hex_digits byte 2
high_text (high.Tag k) = codes ",t" ++ hex_digits k 4

abbrev pub form_word : SpForm → List ℕ
form_word (Closed offset) = codes "c" ++ decimal offset
form_word (Open offset high_byte) = codes "o" ++ decimal offset ++ high_text high_byte
