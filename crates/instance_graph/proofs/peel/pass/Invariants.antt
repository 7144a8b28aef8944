use Rattle.instance_graph.specs.Table.{ArePassed}
use Rattle.instance_graph.proofs.peel.pass.Given as goal

abbrev pub invariant-loop-i : goal.invariant-loop-i
invariant-loop-i l = ArePassed l.back l.graph l.fn.table l.i l.grew l.table
