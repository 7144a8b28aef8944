use Rattle.std.proofs.Common.{◌∙◌}
use Rattle.avr_model.specs.Marks.{marks}
use Rattle.abs_step.proofs.Slots.{told_slots}
use Rattle.abs_step.proofs.moves.Moves.is_left.Goals as goal

pub returns-then-self-clause-slots : goal.returns-then-self-clause-slots
returns-then-self-clause-slots c e =
    let words = c.self.inside.flash.now in
    told_slots c.refine.result (marks words) words c.self.inside.instr.now c.self.inside.before.now c.settle.new.state c.refine.new.after c.refine.ensures e
    ∙ c.settle.ensures.slots c.if-not-settle.false
