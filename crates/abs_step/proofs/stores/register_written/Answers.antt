use Rattle.std.proofs.Common.{◌∙◌, ap, subst, ℕ}
use Rattle.abs_state.specs.declared.state.AbsState.{AbsState}
use Rattle.abs_state.specs.Ended.{written_hull}
use Rattle.local_rules.specs.Raw.{one}
use Rattle.abs_step.specs.Adding.{Adds}
use Rattle.abs_step.proofs.Forgetting.{is_register_written}
use Rattle.abs_step.proofs.stores.register_written.Goals as goal

pub returns : goal.returns
returns c =
    let write = c.args.write.now in
    subst (λ (t : AbsState). Adds c.args.nodes.now c.add.new.self c.add.result (one write.key t))
    (is_register_written write.device write.state.now c.in_ok-after.after c.args.d write.value c.stored_value-value.result c.set_at-registers.result c.forgotten.result c.set_of.result
    c.end_facts.new.facts c.end_hull.new.facts
    c.stored_value-value.ensures c.set_at-registers.ensures c.forgotten.ensures c.in_ok-after.ensures.ok c.set_of.ensures c.set_of.type_inv c.end_facts.ensures
    c.end_hull.ensures)
    c.add.ensures
