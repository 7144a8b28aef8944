use Rattle.certificate.proofs.PairHulls.{AreFirst}
use Rattle.certificate.proofs.hulls.hulls_of.Given as goal

abbrev pub invariant-loop-n : goal.invariant-loop-n
invariant-loop-n l = AreFirst l.registers l.hulls l.n
