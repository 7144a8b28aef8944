use Rattle.std.proofs.Common.{sym, subst, false, Some}
use Rattle.local_rules.specs.Writes.{written_at}
use Rattle.abs_step.specs.Adding.{AreMovesGathered, with_another}
use Rattle.abs_step.proofs.Gathered.{gathered_more, gathered_fault, not_memory}
use Rattle.abs_step.specs.Sites.{write_of}
use Rattle.abs_step.proofs.pointer_stores.stored_too.Goals as goal

pub returns-in-Ok-clause-ok : goal.returns-in-Ok-clause-ok
returns-in-Ok-clause-ok c old r g =
    gathered_more old c.args.nodes.now c.written_at.new.nodes c.args.fault r
    (written_at (write_of c.args.write.now) false c.args.address) g c.in-Ok.ensures

pub returns-else-cause-eq0-clause-ok : goal.returns-else-cause-eq0-clause-ok
returns-else-cause-eq0-clause-ok c old r g =
    let written = written_at (write_of c.args.write.now) false c.args.address in
    subst (λ f. AreMovesGathered old c.written_at.new.nodes (Some f) (with_another r written)) (sym c.first.ensures)
    (gathered_fault old c.args.nodes.now c.written_at.new.nodes c.args.fault c.in-Err.found r written g
    (c.in-Err.ensures (not_memory c.in-Err.found c.cause-cause.result c.cause-cause.ensures c.if-cause-eq0.false)))
