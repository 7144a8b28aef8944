use Rattle.std.proofs.Common.{arith, ap, ◌∙◌, ◌++◌}
use Rattle.avr_model.proofs.AllLaws.{devices_are_alike}
use Rattle.avr_model.specs.Devices.{Image, device_of}
use Rattle.avr_model.specs.Marks.{usual_marks, device_marks, marks_at}
use Rattle.flash_image.specs.Marked.{marked}
use Rattle.flash_image.proofs.Loads.{all_marked}
use Rattle.flash_image.proofs.Marked.{marked_none, marked_more}
use Rattle.flash_image.proofs.image.Flash.mark_all.Goals as goal

pub loop-a-init : goal.loop-a-init
loop-a-init c = marked_none c.args.table.now c.mark_usual.new.table (usual_marks ++ device_marks (device_of c.args.self.now)) (marks_at c.args.self.now)
    (c.mark_usual.ensures ∙ ap (λ (p : Image). marked c.args.table.now (usual_marks ++ device_marks (device_of p))) c.self.view_is)

pub loop-a-preserved : goal.loop-a-preserved
loop-a-preserved c = marked_more c.args.table.now c.loop-a.table c.mark_at.new.table (usual_marks ++ device_marks (device_of c.args.self.now)) c.loop-a.a (marks_at c.args.self.now) c.loop-a.invariant c.mark_at.ensures

pub mark_at-requires-clause-word : goal.mark_at-requires-clause-word
mark_at-requires-clause-word c =
    omega (arith, c.loop-a-test.true, c.written-a-end.ensures.within, c.written-a-end.ensures.flash, devices_are_alike.most_words (device_of c.args.self.now))

pub returns : goal.returns
returns c =
    all_marked c.args.self.now c.args.table.now c.loop-a.table c.loop-a.a c.written-a-end.ensures.flash (omega (arith, c.loop-a.auto.a-end, c.written-a-end.ensures.within))
    (λ a from. c.written-a-end.ensures.erased a (omega (arith, from, c.loop-a-test.false))) c.loop-a.invariant
