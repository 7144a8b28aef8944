use Rattle.instance_graph.specs.Table.{IsSoundTable, count_missing}
use Rattle.instance_graph.proofs.peel.peel.Given as goal

abbrev pub invariant-loop-grew : goal.invariant-loop-grew
invariant-loop-grew l = IsSoundTable l.back l.graph l.table.items

abbrev pub decreases-loop-grew : goal.decreases-loop-grew
decreases-loop-grew l = count_missing l.table.items
