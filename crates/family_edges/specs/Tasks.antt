-- A task as the definitions see it.
use Rattle.local_rules.specs.Site.{Task}
use Rattle.family_edges.specs.declared.task.Task.{Task as GivenTask}

abbrev pub task_of : GivenTask → Task
task_of task = record { flash = task.flash.now; assumptions = task.assumptions.now }
