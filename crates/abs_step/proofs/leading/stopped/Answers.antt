use Rattle.std.proofs.Common.{sym, ap, ◌∙◌, subst, Result, Err}
use Rattle.local_rules.specs.declared.local.Local.{Local}
use Rattle.local_rules.specs.declared.local.NodeFault.{NodeFault}
use Rattle.abs_step.specs.Leading.{Settles}
use Rattle.abs_step.proofs.Gathered.{not_memory}
use Rattle.abs_step.proofs.Settled.{stopped_too}
use Rattle.abs_step.proofs.leading.stopped.Goals as goal

pub returns-else-cause-eq0 : goal.returns-else-cause-eq0
returns-else-cause-eq0 c r h n =
    let told : Settles (Err c.in-Err.fault) r = subst (λ (x : Result Local NodeFault). Settles x r) c.in-Err.is h in
    stopped_too r c.args.besides c.in-Err.fault (told (not_memory c.in-Err.fault c.cause-cause.result c.cause-cause.ensures c.if-cause-eq0.false))
    ∙ sym (ap Err c.lesser.ensures)
