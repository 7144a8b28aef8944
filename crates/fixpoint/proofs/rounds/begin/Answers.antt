use Rattle.fixpoint.proofs.Ending.{progress_first}
use Rattle.fixpoint.proofs.rounds.begin.Goals as goal
use Rattle.family_edges.specs.Tasks.{task_of}

pub returns : goal.returns
returns c =
    progress_first (task_of c.args.task.now) c.args.steps c.start.new.table c.start.new.counted c.in_ok-work.work.items _ c.in_ok-work.ensures.first
    c.in_ok-work.ensures.count c.in_ok-work.ensures.kept c.new.ensures
