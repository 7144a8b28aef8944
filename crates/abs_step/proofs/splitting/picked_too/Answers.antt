use Rattle.std.proofs.Common.{sym, subst, Option, Some, Result, IfOk}
use Rattle.local_rules.specs.declared.local.NodeFault.{NodeFault}
use Rattle.local_rules.specs.Raw.{Raw}
use Rattle.abs_step.specs.Adding.{Moving, plain, AreMovesGathered, with_another}
use Rattle.abs_step.proofs.Gathered.{gathered_fault, not_memory}
use Rattle.abs_step.proofs.Picked.{gathered_led}
use Rattle.abs_step.specs.Sites.{picked}
use Rattle.abs_step.proofs.splitting.picked_too.Goals as goal
use Rattle.abs_step.proofs.splitting.picked_too.Goals.{in-Ok, in-Err+else-cause-eq0}

pub returns-clause-ok : goal.returns-clause-ok
returns-clause-ok c =
    let site = c.args.site.now in
    let row : Raw = picked site c.args.byte in
    let gathers : Result (Option NodeFault) NodeFault → Type 0 = (λ x. IfOk x (λ next. (old : Moving) (r : Raw) → AreMovesGathered old (plain c.args.nodes.now) c.args.fault r
    → AreMovesGathered old (plain c.with_pick.new.nodes) next (with_another r row))) in
    elim c.match-with_pick.branch [
      | in-Ok w ↦
          subst gathers (sym w.result-is) (λ old r g. gathered_led old (plain c.args.nodes.now) (plain c.with_pick.new.nodes) c.args.fault r row _ g w.in-Ok.ensures)
      | in-Err+else-cause-eq0 w ↦
          subst gathers (sym w.result-is) (λ old r g.
          subst (λ f. AreMovesGathered old (plain c.with_pick.new.nodes) (Some f) (with_another r row)) (sym w.first.ensures)
          (gathered_fault old (plain c.args.nodes.now) (plain c.with_pick.new.nodes) c.args.fault w.in-Err.found r row g
          (w.in-Err.ensures (not_memory w.in-Err.found w.cause-cause.result w.cause-cause.ensures w.if-cause-eq0.false))))
    ]
