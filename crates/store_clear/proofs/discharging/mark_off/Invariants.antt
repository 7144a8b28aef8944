use Rattle.store_clear.specs.Conditions.{AreMarkedOff}
use Rattle.store_clear.proofs.discharging.mark_off.Given as goal

abbrev pub invariant-loop-at : goal.invariant-loop-at
invariant-loop-at l = AreMarkedOff l.slot l.marks l.at l.fn.conditions l.conditions
