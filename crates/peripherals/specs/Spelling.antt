-- Peripherals connected to the machine: interrupt sources, and their one text. Source: own.
use Rattle.std.specs.Prelude.{ℕ, ◌≤◌, ◌<◌, List, [], ◌∷◌, ◌++◌, map, length, codes, ⊤}
use Rattle.std.specs.List.{AllByRecursion, flat_map}
use Rattle.std.specs.Fmt.{decimal}
use Rattle.witness_replay.specs.Spelling.{filling}
use Rattle.text_base.specs.Digits.{hex_digits}
use Rattle.text_base.specs.Lines.{line}
use Rattle.avr_model.specs.declared.device.Device.{Device}
use Rattle.avr_model.specs.Vectors.{last_vector}
use Rattle.peripherals.specs.declared.peripherals.SourceKind.{SourceKind}
use Rattle.peripherals.specs.declared.peripherals.SourceKind.TheVariants.{Timer, Bytes}
use Rattle.peripherals.specs.declared.peripherals.Source.{Source}

-- the initial byte of registers and SRAM, and the interrupt sources
pub record Setup : Type 0 where
  pub fill : ℕ
  pub sources : List Source

abbrev pub most_sources : ℕ
most_sources = 32

abbrev pub most_bytes : ℕ
most_bytes = 64

-- the most steps of a run, and the greatest first step and period
abbrev pub most_steps : ℕ
most_steps = 16777216

-- ---- which sources there may be

-- a receiver has 1 to 64 bytes
abbrev pub IsKind : SourceKind → Type 0
IsKind Timer = ⊤
IsKind (Bytes bytes) = (1 ≤ length bytes) × (length bytes ≤ most_bytes) × AllByRecursion (λ b. b < 256) bytes

-- a source whose vector is one of the device's
pub record IsSource (device : Device) (s : Source) : Type 0 where
  pub vector_from : 2 ≤ s.vector
  pub vector_to : s.vector ≤ last_vector device
  pub first : s.first ≤ most_steps
  pub period_from : 1 ≤ s.period
  pub period_to : s.period ≤ most_steps
  pub kind : IsKind s.kind

pub record IsSetup (device : Device) (setup : Setup) : Type 0 where
  pub fill_is_byte : setup.fill < 256
  pub count : length setup.sources ≤ most_sources
  pub all : AllByRecursion (IsSource device) setup.sources

-- ---- the text

abbrev pub name_of : SourceKind → List ℕ
name_of Timer = codes "timer"
name_of (Bytes bytes) = codes "bytes"

-- each byte as a word of two digits
abbrev pub byte_words : SourceKind → List (List ℕ)
byte_words Timer = []
byte_words (Bytes bytes) = map (λ b. hex_digits b 2) bytes

-- the words of a source's line
abbrev pub source_words : Source → List (List ℕ)
source_words s = name_of s.kind ∷ decimal s.vector ∷ decimal s.first ∷ decimal s.period ∷ byte_words s.kind

abbrev pub header : List (List ℕ)
header = codes "devices" ∷ codes "1" ∷ []

abbrev pub ending : List (List ℕ)
ending = codes "end" ∷ []

-- the lines of a setup, each by its words
abbrev pub setup_lines : Setup → List (List (List ℕ))
setup_lines setup = header ∷ filling setup.fill ∷ (map source_words setup.sources ++ ending ∷ [])

abbrev pub text_of : Setup → List ℕ
text_of setup = flat_map line (setup_lines setup)
