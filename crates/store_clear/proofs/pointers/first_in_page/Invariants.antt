use Rattle.std.proofs.Common.{◌+◌, ◌*◌}
use Rattle.local_rules.specs.Permitted.{permits_number}
use Rattle.store_clear.specs.Pointers.{FailsBetween}
use Rattle.store_clear.proofs.pointers.first_in_page.Given as goal

abbrev pub invariant-loop-low : goal.invariant-loop-low
invariant-loop-low l = FailsBetween (permits_number l.state l.fn.r) (256 * l.fn.page) (256 * l.fn.page + l.low)
