use Rattle.std.proofs.Common.{refl, sym, ◌∙◌, arith}
use Rattle.flash_image.proofs.Loads.{noted_none, noted_more, noted_no_more, none_found, all_loads}
use Rattle.flash_image.proofs.image.Flash.loads.Goals as goal
use Rattle.flash_image.proofs.image.Flash.loads.Goals.{in-Some, in_default}

pub loop-a-init : goal.loop-a-init
loop-a-init c = noted_none c.args.self.now _ refl

pub loop-a-preserved : goal.loop-a-preserved
loop-a-preserved c =
    elim c.match-immediate.branch [
      | in-Some w ↦ noted_more c.args.self.now c.loop-a.a c.loop-a.loads c.match-immediate.loads w.in-Some.load c.loop-a.invariant (omega arith) (sym w.in-Some.is ∙ c.immediate.ensures.value) (w.loads-is ∙ w.note_load.ensures)
      | in_default w ↦ noted_no_more c.args.self.now c.loop-a.a c.loop-a.loads c.match-immediate.loads c.loop-a.invariant (none_found c.immediate.result _ w.in_default.not-Some c.immediate.ensures.value) w.loads-is
    ]

pub returns : goal.returns
returns c = all_loads c.args.self.now c.loop-a.a c.loop-a.loads c.written-a-end.ensures.flash (omega (arith, c.loop-a.auto.a-end, c.written-a-end.ensures.within)) (λ a from. c.written-a-end.ensures.erased a (omega (arith, from, c.loop-a-test.false))) c.loop-a.invariant.tells
