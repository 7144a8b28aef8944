use Rattle.std.proofs.Common.{map, take}
use Rattle.local_rules.specs.Raw.{moves_to, off_table}
use Rattle.abs_step.specs.Adding.{AreNodesAdded}
use Rattle.abs_step.proofs.flow.add_words.Given as goal

abbrev pub invariant-loop-at : goal.invariant-loop-at
invariant-loop-at l = AreNodesAdded l.fn.nodes l.nodes (moves_to (map (λ t. record { key = off_table l.site.key.now t; state = l.site.state.now }) (take l.at l.words)))
