use Rattle.std.proofs.Common.{List, length, subst, sym, ◌≤◌}
use Rattle.local_rules.specs.declared.local.Node.{Node}
use Rattle.family_edges.specs.Landings.{AreLandings}
use Rattle.family_tables.proofs.tests.forms.is_formed.Goals as goal
use Rattle.family_edges.specs.Tasks.{task_of}

pub is_written-requires-clause-few : goal.is_written-requires-clause-few
is_written-requires-clause-few c = subst (λ (ns : List Node). length ns ≤ 65536) (sym c.in-Ok.ensures.nodes) c.requires

pub is_written-requires-clause-landings : goal.is_written-requires-clause-landings
is_written-requires-clause-landings c =
    subst (λ (ns : List Node). AreLandings (task_of c.args.task.now) ns c.in-Ok.family.landings) (sym c.in-Ok.ensures.nodes) c.in-Ok.ensures.landings
