use Rattle.std.proofs.Common.{◌≡◌, length}
use Rattle.witness_search.proofs.Attempts.{Goes, Start, IsMarked}
use Rattle.witness_search.proofs.trial.attempt.Given as goal
use Rattle.family_edges.specs.Tasks.{task_of}

abbrev pub invariant-loop-at : goal.invariant-loop-at
invariant-loop-at l =
    Goes (task_of l.task) l.points l.bound l.fill l.points (Start (task_of l.task) l.points l.bound l.fill) l.choices.items l.rest l.machine
    × IsMarked (task_of l.task) l.points l.bound l.fill l.mark.machine l.mark.left l.rest l.machine
    × (length l.choices.items ≡ l.at)
