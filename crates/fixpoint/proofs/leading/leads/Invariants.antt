use Rattle.fixpoint.specs.Leads.{AreLeads}
use Rattle.fixpoint.proofs.leading.leads.Given as goal
use Rattle.family_edges.specs.Tasks.{task_of}

abbrev pub invariant-loop-at : goal.invariant-loop-at
invariant-loop-at l = AreLeads (task_of l.task) l.family.nodes l.at l.leads.items
