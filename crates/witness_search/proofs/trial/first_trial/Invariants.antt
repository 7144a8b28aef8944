use Rattle.std.proofs.Common.{take}
use Rattle.witness_search.specs.Trials.{fills, NoneSucceeds}
use Rattle.witness_search.proofs.trial.first_trial.Given as goal
use Rattle.family_edges.specs.Tasks.{task_of}

abbrev pub invariant-loop-t : goal.invariant-loop-t
invariant-loop-t l = NoneSucceeds (task_of l.task) l.points l.bound (take l.t fills)
