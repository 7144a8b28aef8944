use Rattle.family_graph.specs.Numbers.{AreRecurs}
use Rattle.family_graph.proofs.building.add_recurs.Given as goal

abbrev pub invariant-loop-into : goal.invariant-loop-into
invariant-loop-into l = AreRecurs l.task.assumptions.now l.insts l.behind l.into l.initial.entered.items l.entered.items
