use Rattle.std.proofs.Common.{◌*◌}
use Rattle.local_rules.specs.Permitted.{permits_number}
use Rattle.store_clear.specs.Pointers.{FailsBetween}
use Rattle.store_clear.proofs.pointers.first_in.Given as goal

abbrev pub invariant-loop-page : goal.invariant-loop-page
invariant-loop-page l = FailsBetween (permits_number l.state l.fn.r) 0 (256 * l.page)
