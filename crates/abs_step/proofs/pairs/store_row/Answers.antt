use Rattle.std.proofs.Common.{◌∙◌, subst, Option}
use Rattle.avr_model.specs.declared.instruction.Instr.TheVariants as i
use Rattle.abs_state.specs.declared.state.AbsState.{AbsState}
use Rattle.local_rules.specs.Local.{pointer_moved, storing}
use Rattle.abs_step.specs.Adding.{plain, Adds}
use Rattle.abs_step.specs.Sites.{task_of, site_of, refined_moved}
use Rattle.abs_step.proofs.pairs.store_row.Goals as goal

pub returns : goal.returns
returns c =
    let site = c.args.site.now in
    let s = site.state.now in
    let moved = c.pointer_moved-moved.ensures ∙ (λ j. pointer_moved (c.view.ensures j) c.args.pointer s) in
    subst
    (λ (o : Option AbsState). Adds (plain c.args.nodes.now) (plain c.stored-added.new.nodes) c.stored-added.result
    (storing (task_of site) (site_of site) c.args.pointer c.args.r o))
    (c.is_moved_left-left.ensures.left
    ∙ (λ j. refined_moved site (i.St c.args.pointer c.args.r) (record (c.in_ok-moved.ensures.ok j) { registers = moved j })))
    c.stored-added.ensures
