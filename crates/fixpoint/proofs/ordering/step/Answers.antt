use Rattle.fixpoint.proofs.Order.{way_asked, falls_again}
use Rattle.fixpoint.proofs.ordering.step.Goals as goal
use Rattle.family_edges.specs.Tasks.{task_of}

pub returns-clause-way : goal.returns-clause-way
returns-clause-way c =
    way_asked (task_of c.args.task.now) c.look_on.new.table c.look_on.new.counted c.look_on.new.notes c.ask_nesting.new.nesting c.in_ok-changed.ensures.way
    c.in_ok-ask_nesting.ensures

pub returns-clause-falls : goal.returns-clause-falls
returns-clause-falls c =
    falls_again (task_of c.args.task.now) c.args.walk.now.table c.look_on.new.table _ _ _ c.in_ok-changed.ensures.way.made.formed c.in_ok-check_size.ensures.fits
    c.in_ok-changed.ensures.more c.in_ok-await_all.ensures
