use Rattle.std.proofs.Common.{◌≡◌, ◌-◌}
use Rattle.local_rules.specs.Permitted.{may_be}
use Rattle.clear_laws.specs.Aims.{greatest_below}
use Rattle.store_clear.proofs.aims.last_byte.Given as goal

abbrev pub invariant-loop-below : goal.invariant-loop-below
invariant-loop-below l = greatest_below (may_be l.value) 256 ≡ greatest_below (may_be l.value) (256 - l.below)
