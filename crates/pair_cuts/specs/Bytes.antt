-- One pair of a state as it is read, cut and written back. Source: own.
use Rattle.std.specs.Prelude.{ℕ, ◌+◌, ◌*◌, List, Option, Some, None, slice_set}
use Rattle.bit_domain.specs.Ranges.{ByteSet}
use Rattle.pair_domain.specs.declared.intervals.Interval.{Interval}
use Rattle.pair_domain.specs.declared.facts.PairFacts.{PairFacts}
use Rattle.pair_domain.specs.Facts.{interval_at}
use Rattle.abs_state.specs.declared.values.AbsByte.{AbsByte}
use Rattle.abs_state.specs.declared.cuts.PairBytes.{PairBytes}
use Rattle.abs_state.specs.declared.state.AbsState.{AbsState}
use Rattle.abs_state.specs.Values.{value_at}
use Rattle.abs_state.specs.PairBytes.{sets, left_by}
use Rattle.pair_cuts.specs.Places.{known_or_nothing, on_byte}

-- pair 2 n, with the tags of its registers
abbrev pub bytes_at : AbsState → ℕ → PairBytes
bytes_at s n =
    record { low = value_at s.registers (2 * n); high = value_at s.registers (2 * n + 1); interval = interval_at (known_or_nothing s.facts).intervals n }

abbrev pub set_pair : List AbsByte → ℕ → PairBytes → List AbsByte
set_pair registers n p = slice_set (slice_set registers (2 * n) p.low) (2 * n + 1) p.high

abbrev pub with_bytes : AbsState → PairFacts → ℕ → PairBytes → AbsState
with_bytes s f n p = record s { registers = set_pair s.registers n p; facts = Some (record f { intervals = slice_set f.intervals n p.interval }) }

-- writes back the cut pair; if pairs aren't followed the state stays
abbrev pub put_known : AbsState → ℕ → Option PairBytes → Option PairFacts → Option AbsState
put_known s n o None = Some s
put_known s n None (Some f) = None
put_known s n (Some p) (Some f) = Some (with_bytes s f n p)

abbrev pub put : AbsState → ℕ → Option PairBytes → Option AbsState
put s n o = put_known s n o s.facts

-- a cut of the byte of register r
abbrev pub byte_left : ℕ → (ByteSet → Option ByteSet) → PairBytes → Option PairBytes
byte_left r cut p = left_by p (on_byte r cut (sets p))

-- the range of a byte as an interval
abbrev pub ranged : ℕ → ℕ → Interval
ranged low high = record { low = low; high = high }
