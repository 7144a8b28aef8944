use Rattle.std.proofs.Common.{◌∙◌}
use Rattle.avr_model.specs.Marks.{marks}
use Rattle.abs_step.proofs.Slots.{told_slots}
use Rattle.abs_step.proofs.pairs.is_moved_left.Goals as goal

pub returns-clause-slots : goal.returns-clause-slots
returns-clause-slots c e =
    let words = c.args.site.now.flash.now in
    told_slots c.refine.result (marks words) words c.args.instr.now c.args.site.now.state.now c.settle.new.state c.refine.new.after c.refine.ensures e
    ∙ c.settle.ensures.slots c.if-not-settle.false
