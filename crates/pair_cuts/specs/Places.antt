-- Cuts of one register or one pair of a state. A cut is no write: it ends no tag. Source: own.
use Rattle.std.specs.Prelude.{ℕ, ◌/◌, ◌%◌, ◌==◌, if◌then◌else◌, List, Option, Some, None}
use Rattle.bit_domain.specs.Ranges.{ByteSet}
use Rattle.pair_domain.specs.declared.intervals.Interval.{Interval}
use Rattle.pair_domain.specs.declared.facts.PairFacts.{PairFacts}
use Rattle.pair_domain.specs.Intervals.{whole}
use Rattle.pair_domain.specs.Facts.{nothing, interval_at}
use Rattle.pair_domain.specs.Narrow.{narrow}
use Rattle.pair_domain.specs.PairSets.{PairSet, with_low, with_high}
use Rattle.pair_domain.specs.PairSets as pairs
use Rattle.abs_state.specs.declared.values.AbsByte.{AbsByte}
use Rattle.abs_state.specs.declared.state.AbsState.{AbsState}
use Rattle.abs_state.specs.Values.{value_at}
use Rattle.abs_state.specs.Cuts.{cut_state}
use Rattle.pair_cuts.specs.declared.places.CutPlace.{CutPlace}
use Rattle.pair_cuts.specs.declared.places.CutPlace.TheVariants as place

-- ---- cuts of a state; there is none where nothing is left

-- cuts one byte of a pair, the low one for an even register, and the interval to the hull
abbrev pub on_byte : ℕ → (ByteSet → Option ByteSet) → PairSet → Option PairSet
on_byte r cut p = if r % 2 == 0 then with_low p (cut p.low) else with_high p (cut p.high)

-- cuts register r, and the interval of its pair
abbrev pub cut_byte : ℕ → (ByteSet → Option ByteSet) → AbsState → Option AbsState
cut_byte r cut s = cut_state (on_byte r cut) s (r / 2)

-- cuts register r to the bytes of an interval
abbrev pub narrow_byte : ℕ → Interval → AbsState → Option AbsState
narrow_byte r i s = cut_byte r (λ b. narrow b i.low i.high) s

-- cuts pair r to an interval
abbrev pub narrow_pair : ℕ → Interval → AbsState → Option AbsState
narrow_pair r i s = cut_state (λ p. pairs.narrow_pair p i) s (r / 2)

-- cuts the interval of pair r to the hull of its registers
abbrev pub cut_pair : ℕ → AbsState → Option AbsState
cut_pair r s = cut_state pairs.cut_pair s (r / 2)

-- two cuts in sequence
abbrev pub after : Option AbsState → (AbsState → Option AbsState) → Option AbsState
after None cut = None
after (Some s) cut = cut s

-- ---- places

-- the facts on pairs; the top element if pairs aren't followed
abbrev pub known_or_nothing : Option PairFacts → PairFacts
known_or_nothing None = nothing
known_or_nothing (Some f) = f

-- the range of register r
abbrev pub range_of : List AbsByte → ℕ → Interval
range_of registers r = record { low = (value_at registers r).low; high = (value_at registers r).high }

-- the interval of pair r
abbrev pub interval_of : Option PairFacts → ℕ → Interval
interval_of x r = interval_at (known_or_nothing x).intervals (r / 2)

-- the possible numbers at a place
abbrev pub range_at : AbsState → CutPlace → Interval
range_at s place.Neither = whole
range_at s (place.Byte r) = range_of s.registers r
range_at s (place.Pair r) = interval_of s.facts r

-- cuts the place to an interval
abbrev pub narrow_at : CutPlace → Interval → AbsState → Option AbsState
narrow_at place.Neither i s = Some s
narrow_at (place.Byte r) i s = narrow_byte r i s
narrow_at (place.Pair r) i s = narrow_pair r i s

-- cuts the place to an interval, if there is one
abbrev pub narrow_to : CutPlace → Option Interval → AbsState → Option AbsState
narrow_to p None s = None
narrow_to p (Some i) s = narrow_at p i s
