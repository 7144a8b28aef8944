-- The bytes that a value permits, and the numbers that a register pair does. Source: own.
use Rattle.std.specs.Prelude.{ℕ, ◌+◌, ◌&&◌, Bool, true, nat_le, Option, Some, None}
use Rattle.avr_model.specs.State.{low, high}
use Rattle.bit_domain.specs.TriByte.{has}
use Rattle.pair_domain.specs.declared.facts.PairFacts.{PairFacts}
use Rattle.pair_rules.specs.Told.{interval_of}
use Rattle.abs_state.specs.declared.values.AbsByte.{AbsByte}
use Rattle.abs_state.specs.declared.state.AbsState.{AbsState}
use Rattle.local_rules.specs.Registers.{value}

-- the bits permit the byte, and it lies in the range
abbrev pub may_be : AbsByte → ℕ → Bool
may_be v byte = (has v.bits byte && nat_le v.low byte) && nat_le byte v.high

abbrev pub is_between : ℕ → ℕ → ℕ → Bool
is_between low high p = nat_le low p && nat_le p high

-- if pairs are followed, the number lies in the interval of registers r and r + 1
abbrev pub is_in_interval : Option PairFacts → ℕ → ℕ → Bool
is_in_interval None r p = true
is_in_interval (Some f) r p = is_between (interval_of f r).low (interval_of f r).high p

-- bits and ranges permit that registers r and r + 1 hold this number
abbrev pub permits_bytes : AbsState → ℕ → ℕ → Bool
permits_bytes s r p = may_be (value s r) (low p) && may_be (value s (r + 1)) (high p)

-- bits, ranges and the interval permit the number
abbrev pub permits_number : AbsState → ℕ → ℕ → Bool
permits_number s r p = permits_bytes s r p && is_in_interval s.facts r p
