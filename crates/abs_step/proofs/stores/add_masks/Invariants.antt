use Rattle.std.proofs.Common.{map, take}
use Rattle.local_rules.specs.Raw.{moves_to}
use Rattle.abs_step.specs.Adding.{AreNodesAdded}
use Rattle.abs_step.proofs.stores.add_masks.Given as goal

abbrev pub invariant-loop-at : goal.invariant-loop-at
invariant-loop-at l = AreNodesAdded l.fn.nodes l.nodes (moves_to (map (λ m. record { key = record l.write.key { masks = m }; state = l.write.state.now }) (take l.at l.all)))
