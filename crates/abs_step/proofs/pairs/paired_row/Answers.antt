use Rattle.std.proofs.Common.{sym, subst}
use Rattle.abs_step.specs.Adding.{plain}
use Rattle.abs_step.specs.Leading.{LeadsOn}
use Rattle.abs_step.proofs.Paired.{binary_refined, others_refined}
use Rattle.abs_step.proofs.pairs.paired_row.Goals as goal
use Rattle.abs_step.specs.Sites.{task_of}

pub returns-in_default : goal.returns-in_default
returns-in_default c =
    let site = c.args.site.now in
    let is = c.in_default in
    subst (LeadsOn (plain c.args.nodes.now) (plain c.row_through-in_default.new.nodes) c.row_through-in_default.result)
    (sym (others_refined site.device (task_of site) c.args.scratch site.key.now site.state.now c.args.instr.now
    is.not-Binary is.not-St is.not-Brbs is.not-Brbc is.not-Sbrc is.not-Sbrs))
    c.row_through-in_default.ensures

pub returns-in_default-op : goal.returns-in_default-op
returns-in_default-op c =
    let site = c.args.site.now in
    subst (LeadsOn (plain c.args.nodes.now) (plain c.row_through.new.nodes) c.row_through.result)
    (sym (binary_refined site.device (task_of site) c.args.scratch site.key.now site.state.now c.args.instr.now
    c.in-Binary.op c.in-Binary.d c.in-Binary.r c.in-Binary.is c.in_default-op.not-Cpse))
    c.row_through.ensures
