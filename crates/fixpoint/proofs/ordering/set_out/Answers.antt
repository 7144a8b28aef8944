use Rattle.fixpoint.proofs.Order.{way_first}
use Rattle.fixpoint.proofs.ordering.set_out.Goals as goal
use Rattle.family_edges.specs.Tasks.{task_of}

pub returns : goal.returns
returns c =
    way_first (task_of c.args.task.now) c.start.new.table c.start.new.counted _ c.in_ok-first.ensures.first c.in_ok-first.ensures.count c.new.ensures
