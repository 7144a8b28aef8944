use Rattle.std.proofs.Common.{◌≡◌, filter}
use Rattle.local_rules.specs.Registers.{value}
use Rattle.local_rules.specs.Local.{below}
use Rattle.local_rules.specs.Permitted.{may_be}
use Rattle.local_reads.proofs.picks.picks.Given as goal

abbrev pub invariant-loop-byte : goal.invariant-loop-byte
invariant-loop-byte l = l.picks.items ≡ filter (may_be (value l.state 30)) (below l.byte)
