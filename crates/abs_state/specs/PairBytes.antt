-- One register pair of a state, with the tags of its bytes. Source: own.
use Rattle.std.specs.Prelude.{ℕ, ◌+◌, ◌*◌, Bool, true, false, Option, Some, None, slice_set}
use Rattle.pair_domain.specs.declared.facts.PairFacts.{PairFacts}
use Rattle.pair_domain.specs.Facts.{interval_at}
use Rattle.pair_domain.specs.PairSets.{PairSet}
use Rattle.abs_state.specs.declared.cuts.PairBytes.{PairBytes}
use Rattle.abs_state.specs.declared.state.AbsState.{AbsState}
use Rattle.abs_state.specs.Values.{valued, set_of, value_at}

-- the pair without its tags
abbrev pub sets : PairBytes → PairSet
sets p = record { low = set_of p.low; high = set_of p.high; interval = p.interval }

-- a cut pair with the tags as before
abbrev pub left_by : PairBytes → Option PairSet → Option PairBytes
left_by p None = None
left_by p (Some m) = Some (record { low = valued p.low.tag m.low; high = valued p.high.tag m.high; interval = m.interval })

-- ---- in a state

-- pair 2 n, if pairs are followed
abbrev pub pair_in : AbsState → ℕ → Option PairFacts → Option PairBytes
pair_in s n None = None
pair_in s n (Some f) =
    Some (record { low = value_at s.registers (2 * n); high = value_at s.registers (2 * n + 1); interval = interval_at f.intervals n })

abbrev pub pair_at : AbsState → ℕ → Option PairBytes
pair_at s n = pair_in s n s.facts

abbrev pub with_interval : ℕ → PairBytes → Option PairFacts → Option PairFacts
with_interval n p None = None
with_interval n p (Some f) = Some (record f { intervals = slice_set f.intervals n p.interval })

-- the state with this pair as pair 2 n
abbrev pub with_bytes : AbsState → ℕ → PairBytes → AbsState
with_bytes s n p =
    record s { registers = slice_set (slice_set s.registers (2 * n) p.low) (2 * n + 1) p.high; facts = with_interval n p s.facts }

abbrev pub put : AbsState → ℕ → Option PairBytes → Option AbsState
put s n None = None
put s n (Some p) = Some (with_bytes s n p)

-- the state, or none if nothing is left
abbrev pub left_in : Bool → AbsState → Option AbsState
left_in true s = Some s
left_in false s = None
