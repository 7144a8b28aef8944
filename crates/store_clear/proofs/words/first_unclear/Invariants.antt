use Rattle.store_clear.specs.Conditions.{AreAllDischarged}
use Rattle.store_clear.proofs.words.first_unclear.Given as goal

abbrev pub invariant-loop-at : goal.invariant-loop-at
invariant-loop-at l = AreAllDischarged l.conditions l.at
