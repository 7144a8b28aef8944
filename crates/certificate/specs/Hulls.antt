-- The hulls of all register pairs. Source: own.
use Rattle.std.specs.Prelude.{List, map}
use Rattle.std.specs.List.{range_with_len}
use Rattle.pair_domain.specs.declared.intervals.Interval.{Interval}
use Rattle.abs_state.specs.declared.values.AbsByte.{AbsByte}
use Rattle.abs_state.specs.Ended.{hull_at}

-- the hulls of the sixteen pairs, that of registers 0 and 1 first
unfoldable pub hulls_of : List AbsByte → List Interval
hulls_of registers = map (hull_at registers) (range_with_len 0 16)
