use Rattle.fixpoint.proofs.Formed.{forms_hold}
use Rattle.fixpoint.proofs.forming.forms.Goals as goal
use Rattle.family_edges.specs.Tasks.{task_of}

pub returns-in-Ok : goal.returns-in-Ok
returns-in-Ok c =
    forms_hold c.formed.result (task_of c.args.task.now) c.args.family.nodes c.into_vec.result.items c.in-Ok.leads.items c.as_slice.result.now
    c.in-Ok.ensures c.as_slice.ensures.value c.into_vec.ensures c.formed.ensures
