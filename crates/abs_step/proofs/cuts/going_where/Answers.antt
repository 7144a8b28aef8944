use Rattle.std.proofs.Common.{◌∙◌, ap, subst, Option}
use Rattle.abs_state.specs.declared.state.AbsState.{AbsState}
use Rattle.local_rules.specs.Raw.{one}
use Rattle.local_rules.specs.Flow as flow
use Rattle.abs_step.specs.Adding.{AreNodesAdded, Adds}
use Rattle.abs_step.proofs.Added.{none_added}
use Rattle.abs_step.proofs.Cutting.{state_where, states_where}
use Rattle.abs_step.proofs.cuts.going_where.Goals as goal

pub returns-in-None-clause-added : goal.returns-in-None-clause-added
returns-in-None-clause-added c =
    let s = c.args.site.now.state.now in
    subst (λ (t : Option AbsState). AreNodesAdded c.args.nodes.now c.args.nodes.now (flow.going_where c.args.site.now.key.now t c.args.pc))
    (ap (state_where s) c.in-None.ensures ∙ states_where s.flags.carry s c.args.carry) (none_added c.args.nodes.now)

pub returns-in_ok-after-in-Some-clause-added : goal.returns-in_ok-after-in-Some-clause-added
returns-in_ok-after-in-Some-clause-added c =
    let s = c.args.site.now.state.now in
    let k = c.args.site.now.key.now in
    subst (Adds c.args.nodes.now c.add.new.self c.add.result)
    ((λ i. one (c.off_table.ensures i) (c.in_ok-after-in-Some.ensures.ok i))
    ∙ ap (λ (t : Option AbsState). flow.going_where k t c.args.pc) (ap (state_where s) c.in-Some.ensures ∙ states_where s.flags.carry s c.args.carry))
    c.add.ensures
