use Rattle.std.proofs.Common.{refl, slice_index, subst, length}
use Rattle.instance_graph.specs.Search.{IsNamedBelow}
use Rattle.instance_graph.proofs.Least.{least_at, stuck_at}
use Rattle.instance_graph.proofs.Naming.{named_at, named_all}
use Rattle.instance_graph.proofs.Walk.{no_cycle}
use Rattle.instance_graph.proofs.composing.told.Goals as goal

pub returns-in-Some-clause-ok : goal.returns-in-Some-clause-ok
returns-in-Some-clause-ok c = λ back sound.
    let found = rw c.in-Some.is at c.in_ok-composed.ensures in
    least_at back c.args.instances.now c.args.table.now sound c.args.table.now c.in-Some.composed.ranks c.in-Some.composed.needs refl found

pub returns-in-Some-clause-acyclic : goal.returns-in-Some-clause-acyclic
returns-in-Some-clause-acyclic c = no_cycle c.args.instances.now (slice_index c.in-Some.composed.ranks) (returns-in-Some-clause-ok c c.requires.sound.0 c.requires.sound.1).are_ranks

pub unreachable-requires : goal.unreachable-requires
unreachable-requires c =
    let gs = c.args.instances.now in
    let missing = rw c.in-None.is at c.in_ok-composed.ensures in
    let acyclic = subst (IsNamedBelow gs (length gs)) c.in-None-2.is c.in_ok-at-in-None.ensures in
    stuck_at c.requires.sound.0 gs c.args.table.now c.requires.sound.1 gs c.args.table.now refl refl c.requires.graph c.requires.stuck missing acyclic

pub returns-in-Some-2-clause-err : goal.returns-in-Some-2-clause-err
returns-in-Some-2-clause-err c =
    let gs = c.args.instances.now in
    named_all gs c.in-Some-2.at (named_at gs (length gs) c.in-Some-2.at c.in_ok-at-in-None.field-0 c.in-Some-2.is c.in_ok-at-in-None.ensures)
