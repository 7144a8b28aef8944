use Rattle.std.proofs.Common.{List, subst, sym, take, get_or}
use Rattle.std.proofs.lemmas.List.{take_more}
use Rattle.std.proofs.lemmas.List.Elements.{Contains-get_or}
use Rattle.round_steps.specs.declared.looking.Look.{Look}
use Rattle.round_steps.specs.Notings.{AreNoted, IsNoted}
use Rattle.round_steps.proofs.Besides.{noted_none, noted_more}
use Rattle.round_steps.proofs.noting.Notes.note_all.Goals as goal

pub loop-at-init : goal.loop-at-init
loop-at-init c = (noted_none c.args.task.now.assumptions.now c.args.self.now, c.requires.once)

pub note-requires : goal.note-requires
note-requires c =
    let x = c.index-looks-at.result in
    let looks = c.args.looks.now in
    c.requires.small x (subst (λ (y : Look). Rattle.std.specs.List.Contains looks y) (sym c.index-looks-at.is) (Contains-get_or looks c.loop-at.at x c.loop-at-test.true))

pub loop-at-preserved : goal.loop-at-preserved
loop-at-preserved c =
    let x = c.index-looks-at.result in
    let looks = c.args.looks.now in (
      subst (λ (l : List Look). AreNoted c.args.task.now.assumptions.now c.args.self.now l c.note.new.self) (sym (take_more looks c.loop-at.at x c.loop-at-test.true))
          (noted_more c.args.task.now.assumptions.now c.args.self.now c.loop-at.self c.note.new.self (take c.loop-at.at looks) (get_or looks c.loop-at.at x) c.loop-at.invariant.0
          (subst (λ (y : Look). IsNoted c.args.task.now.assumptions.now c.loop-at.self y c.note.new.self) c.index-looks-at.is c.in_ok-note.ensures.noted)),
      c.in_ok-note.ensures.once,
    )
