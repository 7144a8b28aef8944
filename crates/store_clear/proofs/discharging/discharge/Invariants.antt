use Rattle.store_clear.specs.Conditions.{AreDischarged}
use Rattle.store_clear.proofs.discharging.discharge.Given as goal

abbrev pub invariant-loop-at : goal.invariant-loop-at
invariant-loop-at l = AreDischarged l.frames.links l.frames.offsets l.frames.seeds l.at l.fn.conditions l.conditions
