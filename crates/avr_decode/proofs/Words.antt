-- The word at a word address, by its place in the list.
use Rattle.std.proofs.Common.{◌≡◌, ◌∙◌, sym, ap, ℕ, ◌%◌, ◌<◌, List, length, arith}
use Rattle.std.specs.Prelude.{slice_index}
use Rattle.avr_model.specs.declared.device.Device.{Device}
use Rattle.avr_model.specs.Devices.{image_of, wrapped, IsFlash}
use Rattle.avr_model.specs.Image.{word_at}
use Rattle.avr_model.proofs.AllLaws.{devices_are_alike}

pub word_inside : (d : Device) (words : List ℕ) (a : ℕ) → IsFlash (image_of d words) → a < length words → slice_index words a ≡ word_at (image_of d words) a
word_inside d words a flash lt = ap (slice_index words) (sym (devices_are_alike.same d a (omega (arith, flash, lt))))

pub place_inside : (d : Device) (words : List ℕ) (a i : ℕ) → IsFlash (image_of d words) → i ≡ wrapped d a → i < length words
place_inside d words a i flash is = let lt = devices_are_alike.inside d a in omega (arith, flash, is, lt)

pub word_wrapped : (d : Device) (words : List ℕ) (a i : ℕ) → i ≡ wrapped d (a % 131072) → slice_index words i ≡ word_at (image_of d words) a
word_wrapped d words a i is = ap (slice_index words) (is ∙ devices_are_alike.of_17 d a)
