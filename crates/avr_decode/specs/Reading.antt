-- The decoded form of a program's words.
use Rattle.std.specs.Prelude.{ℕ, ◌≡◌, List, Some, slice_get}
use Rattle.avr_model.specs.Sites as sites
use Rattle.avr_model.specs.Devices.{Image}
use Rattle.avr_decode.specs.declared.reading.Reading.{Reading}

abbrev pub reading_at : Image → ℕ → Reading
reading_at image a = record { instruction = sites.instruction_at image a; is_fixed = sites.is_fixed image a; is_scratch = sites.is_scratch image a }

-- each item is the decoded form of the word at its place
abbrev pub AreReadings : Image → List Reading → Type 0
AreReadings image readings = (a : ℕ) (r : Reading) → slice_get readings a ≡ Some r → r ≡ reading_at image a
