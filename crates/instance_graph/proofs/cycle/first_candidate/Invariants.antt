use Rattle.std.proofs.Common.{◌<◌, IfSome, length}
use Rattle.instance_graph.proofs.cycle.first_candidate.Given as goal

abbrev pub invariant-loop-i : goal.invariant-loop-i
invariant-loop-i l = IfSome l.best (λ at. at < length l.graph)
