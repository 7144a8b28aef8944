use Rattle.std.proofs.Common.{Bool, List, ◌++◌, map}
use Rattle.std.specs.Vec.Iter.{into_iter_items}
use Rattle.avr_model.specs.declared.device.Device.{Device}
use Rattle.local_rules.specs.declared.local.Node.{Node}
use Rattle.local_laws.specs.Laws.{AreNodesIn}
use Rattle.edge_rules.specs.Edges.{target}
use Rattle.round_steps.specs.Gathers.{AreOwnNodes, AreTargetsGathered}
use Rattle.round_steps.proofs.targets.gather.Given as goal

abbrev pub invariant-loop-edge : goal.invariant-loop-edge
invariant-loop-edge l =
    AreOwnNodes (map target (into_iter_items l.edge-iterator))
    × ((device : Device) (followed : Bool) (before : List Node) → AreNodesIn device followed (map target l.yielded) → AreTargetsGathered device followed l.table before l.fn.next → AreTargetsGathered device followed l.table (before ++ map target l.yielded) l.next)
