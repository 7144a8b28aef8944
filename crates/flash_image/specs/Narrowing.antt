-- Narrowing a flash to a device.
use Rattle.std.specs.Prelude.{ℕ, ◌≡◌, ◌==◌, not, List, length, take, drop, Option, Some, None}
use Rattle.std.specs.List.{position_from}
use Rattle.avr_model.specs.declared.device.Device.{Device}
use Rattle.avr_model.specs.Devices.{Image, image_of, words_of, limit_of}
use Rattle.avr_model.specs.Image.{IsNarrowed, IsOutside}

-- the first word behind a device's flash that isn't erased, if there is one
abbrev pub outside_word : Device → List ℕ → Option ℕ
outside_word device all = position_from (λ w. not (w == 0xFFFF)) (words_of device) (drop (words_of device) all)

-- A file's words are narrowed to the first ones exactly if no word is outside. The word outside is unique.
pub record NarrowingIsExact : Type 0 where
  pub words : (device : Device) (all : List ℕ) (image : Image) → length all ≡ limit_of device → IsNarrowed device all image → image ≡ image_of device (take (words_of device) all)
  pub none : (device : Device) (all : List ℕ) (image : Image) → length all ≡ limit_of device → IsNarrowed device all image → outside_word device all ≡ None
  pub some : (device : Device) (all : List ℕ) → length all ≡ limit_of device → outside_word device all ≡ None → IsNarrowed device all (image_of device (take (words_of device) all))
  pub outside : (device : Device) (all : List ℕ) (word : ℕ) → length all ≡ limit_of device → IsOutside device all word → outside_word device all ≡ Some word
