use Rattle.instance_graph.specs.Search.{IsNamedBelow}
use Rattle.instance_graph.proofs.cycle.first_named.Given as goal

abbrev pub invariant-loop-i : goal.invariant-loop-i
invariant-loop-i l = IsNamedBelow l.graph l.i l.best
