use Rattle.std.proofs.Common.{sym, subst}
use Rattle.abs_state.specs.declared.state.AbsState.{AbsState}
use Rattle.local_rules.specs.Local.{row_of}
use Rattle.abs_step.specs.Leading.{LeadsOn}
use Rattle.abs_step.proofs.instruction.row_forgetting.Goals as goal
use Rattle.local_rules.specs.Site.{site_at}
use Rattle.abs_step.specs.Sites.{task_of}

pub returns-then-not-is_ended : goal.returns-then-not-is_ended
returns-then-not-is_ended c =
    let site = c.args.site.now in
    subst (λ (s : AbsState). LeadsOn c.args.nodes.now c.row.new.nodes c.row.result (row_of (task_of site) c.args.scratch (site_at site.device site.key.now s) c.args.instr.now))
    (sym (c.is_ended.ensures c.if-not-is_ended.true)) c.row.ensures
