use Rattle.std.proofs.Common.{Bool}
use Rattle.std.specs.Vec.Iter.{into_iter_items}
use Rattle.avr_model.specs.declared.device.Device.{Device}
use Rattle.local_laws.specs.Laws.{AreNodesIn}
use Rattle.round_steps.specs.Targets.{all_targets}
use Rattle.round_steps.specs.Gathers.{AreOwnNodes, AreTargetsGathered}
use Rattle.round_steps.proofs.targets.targets.Given as goal

abbrev pub invariant-loop-x : goal.invariant-loop-x
invariant-loop-x l =
    ((device : Device) (followed : Bool) → AreNodesIn device followed (all_targets l.table l.notes l.yielded) → AreTargetsGathered device followed l.table (all_targets l.table l.notes l.yielded) l.next)
    × AreOwnNodes (all_targets l.table l.notes (into_iter_items l.x-iterator))
