-- Reads a setup forward, line by line. A refusal has the offset of the first line with which no setup continues, or of the end of the
-- text if a line is missing.
use Rattle.std.specs.Prelude.{ℕ, ◌+◌, ◌-◌, ◌&&◌, nat_le, List, [], ◌∷◌, ◌++◌, length, Option, Some, None, Result, Ok, Err, codes, if◌then◌else◌}
use Rattle.std.specs.Option.{option_map}
use Rattle.std.specs.Str.{bytes_eq}
use Rattle.avr_model.specs.declared.device.Device.{Device}
use Rattle.avr_model.specs.Vectors.{last_vector}
use Rattle.witness_replay.specs.Reading.{fill_by}
use Rattle.text_base.specs.Lines.{TextLine, Position, size_of, lines_of, words_of}
use Rattle.line_reading.specs.Reading.{◌>>=◌, hex_at, dec_at, is_over, then_at, first_by, this_by, line_by}
use Rattle.peripherals.specs.declared.reading.Times.{Times}
use Rattle.peripherals.specs.declared.peripherals.SourceKind.{SourceKind}
use Rattle.peripherals.specs.declared.peripherals.SourceKind.TheVariants.{Timer, Bytes}
use Rattle.peripherals.specs.declared.peripherals.Source.{Source}
use Rattle.peripherals.specs.declared.peripherals.PeripheralsFault.{PeripheralsFault}
use Rattle.peripherals.specs.declared.peripherals.PeripheralsFault.TheVariants.{Malformed}
use Rattle.peripherals.specs.Spelling.{Setup, most_sources, most_bytes, most_steps}

-- ---- the words of a line

-- a vector of the device, a first step and a period
unfoldable pub times_at : Device → List (List ℕ) → Option (Times × List (List ℕ))
times_at device ws = do
  v ← dec_at (last_vector device) ws
  f ← dec_at most_steps v.1
  p ← dec_at most_steps f.1
  if nat_le 2 v.0 && nat_le 1 p.0 then Some (record { vector = v.0; first = f.0; period = p.0 }, p.1) else None

-- all words, each a byte of two digits
abbrev pub bytes_in : List (List ℕ) → Option (List ℕ)
bytes_in [] = Some []
bytes_in (w ∷ ws) = hex_at 2 (w ∷ ws) >>= λ b. option_map (λ bs. b.0 ∷ bs) (bytes_in ws)

abbrev pub source_of : Times → SourceKind → Source
source_of t kind = record { vector = t.vector; first = t.first; period = t.period; kind = kind }

-- after `timer`
abbrev pub timer_in : Device → List (List ℕ) → Option Source
timer_in device ws = times_at device ws >>= λ t. if is_over t.1 then Some (source_of t.0 Timer) else None

abbrev pub receiver_by : Times → List ℕ → Option Source
receiver_by t bytes = if nat_le 1 (length bytes) && nat_le (length bytes) most_bytes then Some (source_of t (Bytes bytes)) else None

-- after `bytes`
abbrev pub receiver_in : Device → List (List ℕ) → Option Source
receiver_in device ws = times_at device ws >>= λ t. bytes_in t.1 >>= receiver_by t.0

unfoldable pub source_in : Device → List (List ℕ) → Option Source
source_in device [] = None
source_in device (w ∷ ws) =
    if bytes_eq w (codes "timer") then timer_in device ws
    else (if bytes_eq w (codes "bytes") then receiver_in device ws else None)

-- ---- lines

-- a source, with this many lines left for sources
abbrev pub source_by : Device → ℕ → List ℕ → Option Source
source_by device left text = if nat_le 1 left then source_in device (words_of text) else None

-- a source, or none at `end`
unfoldable pub part_by : Device → ℕ → List ℕ → Option (Option Source)
part_by device left text = if bytes_eq text (codes "end") then Some None else option_map Some (source_by device left text)

abbrev pub with_front : List Source → Result (List Source × Position) Position → Result (List Source × Position) Position
with_front front due = then_at due (λ x. Ok (front ++ x.0, x.1))

-- nothing, the end, or one more source and what follows it
abbrev pub with_part : Option (Option Source) → Position → Position → (Source → Result (List Source × Position) Position) → Result (List Source × Position) Position
with_part None here next following = Err here
with_part (Some None) here next following = Ok ([], next)
with_part (Some (Some s)) here next following = with_front (s ∷ []) (following s)

-- the sources up to `end`, with this many lines left for them
unfoldable pub sources_from : Device → ℕ → ℕ → List TextLine → Result (List Source × Position) Position
sources_from device left at [] = Err (record { at = at; rest = [] })
sources_from device left at (l ∷ ls) =
    with_part (first_by (part_by device left) (l ∷ ls))
    (record { at = at; rest = l ∷ ls })
    (record { at = at + size_of l; rest = ls })
    (λ s. sources_from device (left - 1) (at + size_of l) ls)

-- ---- the whole

-- nothing may follow
abbrev pub if_last : List TextLine → Setup → Position → Result Setup Position
if_last [] setup p = Ok setup
if_last (l ∷ ls) setup p = Err p

unfoldable pub setup_at : Device → Position → Result Setup Position
setup_at device p =
    then_at (line_by (this_by (codes "devices 1")) p) (λ h.
    then_at (line_by fill_by h.1) (λ f.
    then_at (sources_from device most_sources f.1.at f.1.rest) (λ s. if_last s.1.rest (record { fill = f.0; sources = s.0 }) s.1)))

abbrev pub malformed : {A : Type 0} → Result A Position → Result A PeripheralsFault
malformed (Ok x) = Ok x
malformed (Err p) = Err (Malformed p.at)

-- a source at the next line, or none at `end`, with this many lines left for sources; or the refusal
abbrev pub part_read : Device → ℕ → Position → Result (Option Source × Position) PeripheralsFault
part_read device left p = malformed (line_by (part_by device left) p)

-- the sources up to `end`, or the refusal
abbrev pub sources_read : Device → Position → Result (List Source × Position) PeripheralsFault
sources_read device p = malformed (sources_from device most_sources p.at p.rest)

-- the setup of a text, or the refusal
unfoldable pub setup_in : Device → List ℕ → Result Setup PeripheralsFault
setup_in device text = malformed (setup_at device (record { at = 0; rest = lines_of text }))
