-- Tables of marks: a truth for each number of 16 bits.
use Rattle.std.specs.Prelude.{ℕ, ◌+◌, ◌*◌, ◌≡◌, ◌<◌, ◌↔◌, ◌==◌, Bool, true, false, List, [], ◌∷◌, length, slice_set, slice_index_or, Contains, Option, Some, None, if◌then◌else◌}
use Rattle.std.specs.List.{list_any}
use Rattle.std.specs.List.Sorted.{IsNonDecreasingBy}
use Rattle.avr_model.specs.declared.instruction.ImmediateInstr.{ImmediateInstr}
use Rattle.avr_model.specs.Marks.{joined_below, immediate_at, loaded_byte, marks}
use Rattle.avr_model.specs.Sites.{loads}
use Rattle.avr_model.specs.Devices.{Image}

-- the table with these numbers marked too
abbrev pub marked : List Bool → List ℕ → List Bool
marked table [] = table
marked table (m ∷ ms) = marked (slice_set table m true) ms

-- the table has exactly these numbers
pub record IsTable (ms : List ℕ) (table : List Bool) : Type 0 where
  pub count : length table ≡ 65536
  pub each : (m : ℕ) → m < 65536 → slice_index_or table m false ≡ list_any (λ n. n == m) ms

-- the marked numbers of a table, ascending
pub record AreListed (table : List Bool) (list : List ℕ) : Type 0 where
  pub ascending : IsNonDecreasingBy (λ m. m) list
  pub exact : (m : ℕ) → Contains list m ↔ (slice_index_or table m false ≡ true)

-- the list has these numbers, ascending and without repeats
pub record IsListOfMarks (ms list : List ℕ) : Type 0 where
  pub table : List Bool
  pub tells : IsTable ms table
  pub listed : AreListed table list

-- there is no list yet, or it has the program's marks
abbrev pub AreMarksKept : Image → List ℕ → Type 0
AreMarksKept image list = 0 < length list → IsListOfMarks (marks image) list

-- the table with the byte noted that an instruction loads, at 256 times its register and the byte
abbrev pub noted : List Bool → Option ImmediateInstr → List Bool
noted table None = table
noted table (Some x) = if loads x.op then slice_set table (256 * x.register + x.byte) true else table

-- the bytes that `ldi` loads into register p
abbrev pub loaded_below : Image → ℕ → ℕ → List ℕ
loaded_below image p n = joined_below n (λ a. loaded_byte p (immediate_at image a))

-- the table has the bytes that the first n words load, by register
abbrev pub AreLoadsBelow : ℕ → Image → List Bool → Type 0
AreLoadsBelow n image table = (p b : ℕ) → p < 32 → b < 256 → slice_index_or table (256 * p + b) false ≡ list_any (λ m. m == b) (loaded_below image p n)

-- the table has the bytes that the program loads, by register
abbrev pub AreLoads : Image → List Bool → Type 0
AreLoads image table = AreLoadsBelow (length image.words) image table
