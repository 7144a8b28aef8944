use Rattle.std.proofs.Common.{take}
use Rattle.cert_check.specs.Demands.{IsLeastOffered, MeetsNeed, LowNeed, NumberBelow}
use Rattle.cert_check.proofs.weighing.low_need.Given as goal

abbrev pub invariant-loop-at : goal.invariant-loop-at
invariant-loop-at l = IsLeastOffered (MeetsNeed l.instances) (LowNeed l.instances) NumberBelow (take l.at l.demands) l.least
