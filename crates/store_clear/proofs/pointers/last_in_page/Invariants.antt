use Rattle.std.proofs.Common.{◌+◌, ◌-◌, ◌*◌}
use Rattle.local_rules.specs.Permitted.{permits_number}
use Rattle.store_clear.specs.Pointers.{FailsBetween}
use Rattle.store_clear.proofs.pointers.last_in_page.Given as goal

abbrev pub invariant-loop-below : goal.invariant-loop-below
invariant-loop-below l = FailsBetween (permits_number l.state l.fn.r) (256 * l.fn.page + (256 - l.below)) (256 * l.fn.page + 256)
