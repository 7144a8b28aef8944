use Rattle.std.proofs.Common.{List, subst, sym, take}
use Rattle.std.proofs.lemmas.List.{take_all}
use Rattle.family_edges.specs.declared.ways.Way.{Way}
use Rattle.round_steps.specs.Notings.{HasCrossing, CallsBy, EnterBy, HasCallers, HasEntrances}
use Rattle.round_steps.proofs.Besides.{besides_none, callers_more, entrances_none, entrances_more, pushed}
use Rattle.round_steps.proofs.noting.note_ways.Goals as goal

pub loop-at-init : goal.loop-at-init
loop-at-init c = (besides_none (HasCrossing c.args.callers.now) (CallsBy c.args.key.now), entrances_none c.args.task.now.assumptions.now c.args.nesting.now c.args.key.now, c.requires.once)

pub loop-at-preserved : goal.loop-at-preserved
loop-at-preserved c =
    let w = c.index-ways-at.result in
    let more = sym (pushed c.args.ways.now c.loop-at.at w c.loop-at-test.true c.index-ways-at.is) in (
      subst (λ (l : List Way). HasCallers c.args.callers.now c.args.key.now l c.add.new.self) more
          (callers_more c.args.callers.now c.loop-at.callers c.add.new.self c.args.key.now (take c.loop-at.at c.args.ways.now) w c.loop-at.invariant.0 c.in_ok-add.ensures),
      subst (λ (l : List Way). HasEntrances c.args.nesting.now (EnterBy c.args.task.now.assumptions.now c.args.key.now l) c.note_entry.new.nesting) more
          (entrances_more c.args.task.now.assumptions.now c.args.nesting.now c.loop-at.nesting c.note_entry.new.nesting c.args.key.now (take c.loop-at.at c.args.ways.now) w c.loop-at.invariant.1
          c.in_ok-note_entry.ensures.entrances),
      c.in_ok-note_entry.ensures.once,
    )

pub returns-clause-callers : goal.returns-clause-callers
returns-clause-callers c =
    subst (λ (l : List Way). HasCallers c.args.callers.now c.args.key.now l c.loop-at.callers) (take_all c.loop-at.at c.args.ways.now c.loop-at-test.false) c.loop-at.invariant.0

pub returns-clause-entrances : goal.returns-clause-entrances
returns-clause-entrances c =
    subst (λ (l : List Way). HasEntrances c.args.nesting.now (EnterBy c.args.task.now.assumptions.now c.args.key.now l) c.loop-at.nesting) (take_all c.loop-at.at c.args.ways.now c.loop-at-test.false) c.loop-at.invariant.1
