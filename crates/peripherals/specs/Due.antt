-- When a source requests, and which request is taken.
use Rattle.std.specs.Prelude.{ℕ, ◌+◌, ◌*◌, ◌&&◌, not, nat_le, nat_lt, zero, suc, Bool, true, false, if◌then◌else◌, List, length, replicate, Option, Some, None, slice_get, slice_index_or, slice_set}
use Rattle.avr_model.specs.declared.choice.Choice.{Choice}
use Rattle.avr_model.specs.declared.choice.Choice.TheVariants.{Go, Take}
use Rattle.peripherals.specs.declared.peripherals.SourceKind.{SourceKind}
use Rattle.peripherals.specs.declared.peripherals.SourceKind.TheVariants.{Timer, Bytes}
use Rattle.peripherals.specs.declared.peripherals.Source.{Source}
use Rattle.peripherals.specs.Spelling.{Setup}

-- a receiver has as many requests as bytes, a timer any number
abbrev pub is_left : SourceKind → ℕ → Bool
is_left Timer taken = true
is_left (Bytes bytes) taken = nat_lt taken (length bytes)

-- A source that was taken this often has a request at this step, or an earlier one: no request is lost.
abbrev pub is_due : Source → ℕ → ℕ → Bool
is_due s taken step = nat_le (s.first + taken * s.period) step && is_left s.kind taken

abbrev pub is_timer : SourceKind → Bool
is_timer Timer = true
is_timer (Bytes bytes) = false

-- it is a timer, or else a receiver
abbrev pub is_of : Bool → SourceKind → Bool
is_of timers Timer = timers
is_of timers (Bytes bytes) = not timers

-- the progress of a run: its steps, the takes of each source, and the input byte
pub record Progress : Type 0 where
  pub step : ℕ
  pub taken : List ℕ
  pub input : ℕ

-- before any step the input is 0
abbrev pub begun : Setup → Progress
begun setup = record { step = 0; taken = replicate (length setup.sources) 0; input = 0 }

-- The input byte after take n of a source, counted from 0: byte n of a receiver, or 0 if it has none.
abbrev pub input_after : SourceKind → ℕ → ℕ → ℕ
input_after Timer n input = input
input_after (Bytes bytes) n input = slice_index_or bytes n 0

-- ---- an answer: the number of a source, whose interrupt is taken, or none, and an instruction is executed

abbrev pub choice_at : Option Source → Progress → Choice
choice_at None p = Go p.input p.input
choice_at (Some s) p = Take s.vector false

abbrev pub answered : Setup → Option ℕ → Option Source
answered setup None = None
answered setup (Some n) = slice_get setup.sources n

abbrev pub choice_on : Setup → Progress → Option ℕ → Choice
choice_on setup p answer = choice_at (answered setup answer) p

abbrev pub taken_of : Progress → ℕ → ℕ
taken_of p n = slice_index_or p.taken n 0

abbrev pub passed_at : Option Source → Progress → ℕ → Progress
passed_at None p n = record p { step = p.step + 1 }
passed_at (Some s) p n =
    record { step = p.step + 1; taken = slice_set p.taken n (taken_of p n + 1); input = input_after s.kind (taken_of p n) p.input }

-- the progress one step later
abbrev pub next_on : Setup → Progress → Option ℕ → Progress
next_on setup p None = record p { step = p.step + 1 }
next_on setup p (Some n) = passed_at (slice_get setup.sources n) p n

-- ---- which source is taken by the definition

-- the first of n numbers from `at` on that passes the test
abbrev pub first_from : (ℕ → Bool) → ℕ → ℕ → Option ℕ
first_from ready at zero = None
first_from ready at (suc n) = if ready at then Some at else first_from ready (at + 1) n

-- the source is of this kind and due, and its interrupt may be taken
abbrev pub is_ready_source : (ℕ → Bool) → Bool → Option Source → ℕ → ℕ → Bool
is_ready_source may timers None taken step = false
is_ready_source may timers (Some s) taken step = is_of timers s.kind && is_due s taken step && may s.vector

abbrev pub is_ready : Setup → (ℕ → Bool) → Bool → List ℕ → ℕ → ℕ → Bool
is_ready setup may timers taken step n = is_ready_source may timers (slice_get setup.sources n) (slice_index_or taken n 0) step

-- the first due timer or receiver, in the order of the text, whose interrupt may be taken
abbrev pub first_ready : Setup → (ℕ → Bool) → Bool → List ℕ → ℕ → Option ℕ
first_ready setup may timers taken step = first_from (is_ready setup may timers taken step) 0 (length setup.sources)

abbrev pub or_else : Option ℕ → Option ℕ → Option ℕ
or_else None other = other
or_else (Some n) other = Some n

-- timers before receivers
abbrev pub pick : Setup → (ℕ → Bool) → Progress → Option ℕ
pick setup may p = or_else (first_ready setup may true p.taken p.step) (first_ready setup may false p.taken p.step)
