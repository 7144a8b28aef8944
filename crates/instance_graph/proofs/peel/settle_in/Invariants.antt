use Rattle.instance_graph.specs.Table.{IsSoundTable}
use Rattle.instance_graph.proofs.peel.settle_in.Given as goal

abbrev pub invariant-loop-inst : goal.invariant-loop-inst
invariant-loop-inst l = IsSoundTable l.back l.graph l.table
