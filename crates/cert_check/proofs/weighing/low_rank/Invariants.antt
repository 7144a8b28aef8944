use Rattle.std.proofs.Common.{take}
use Rattle.cert_check.specs.Demands.{IsLeastOffered, MeetsRank, LowRank, PairBelow}
use Rattle.cert_check.proofs.weighing.low_rank.Given as goal

abbrev pub invariant-loop-at : goal.invariant-loop-at
invariant-loop-at l = IsLeastOffered (MeetsRank l.instances) (LowRank l.instances) PairBelow (take l.at l.demands) l.least
