use Rattle.std.proofs.Common.{◌≡◌, take}
use Rattle.cert_check.specs.Reading.{read_seeds}
use Rattle.cert_check.proofs.reading.read.Given as goal

abbrev pub invariant-loop-at : goal.invariant-loop-at
invariant-loop-at l = l.nodes.items ≡ read_seeds l.followed (take l.at l.own)
