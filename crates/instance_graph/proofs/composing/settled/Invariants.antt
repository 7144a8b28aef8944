use Rattle.instance_graph.specs.Table.{AreFound}
use Rattle.instance_graph.proofs.composing.settled.Given as goal

abbrev pub invariant-loop-i : goal.invariant-loop-i
invariant-loop-i l = AreFound l.table l.i l.ranks.items l.needs.items
