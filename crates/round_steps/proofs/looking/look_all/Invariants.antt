use Rattle.std.proofs.Common.{take}
use Rattle.round_steps.specs.Looks.{AreSeen}
use Rattle.round_steps.proofs.looking.look_all.Given as goal
use Rattle.family_edges.specs.Tasks.{task_of}

abbrev pub invariant-loop-at : goal.invariant-loop-at
invariant-loop-at l = AreSeen (task_of l.task) l.table (take l.at l.keys) l.seen
