use Rattle.std.proofs.Common.{take}
use Rattle.cert_check.specs.Demands.{IsMost}
use Rattle.cert_check.proofs.weighing.most_asked.Given as goal

abbrev pub invariant-loop-at : goal.invariant-loop-at
invariant-loop-at l = IsMost (take l.at l.demands) l.j l.most
