use Rattle.std.proofs.Common.{◌∙◌, ℕ, sym, subst}
use Rattle.round_nesting.specs.Nestings.{HasEntrance}
use Rattle.round_steps.proofs.Besides.{enters_none, enters_one}
use Rattle.round_steps.proofs.noting.note_entry.Goals as goal

pub returns-then-is_some-clause-entrances : goal.returns-then-is_some-clause-entrances
returns-then-is_some-clause-entrances c =
    enters_none c.args.assumptions.now c.args.nesting.now c.args.key.now c.args.into.now c.cut.result (sym c.cut.ensures) (sym c.is_some.ensures ∙ c.if-is_some.true)

pub returns-clause-entrances : goal.returns-clause-entrances
returns-clause-entrances c =
    enters_one c.args.assumptions.now c.args.nesting.now c.note_entrance.new.self c.args.key.now c.args.into.now c.cut.result (sym c.cut.ensures) (sym c.is_some.ensures ∙ c.if-is_some.false)
    (subst (λ (o : ℕ). HasEntrance c.args.nesting.now (record { from = c.args.key.now.inst; into = c.args.into.now; offset = o }) c.note_entrance.new.self) c.offset.ensures c.in_ok-note_entrance.ensures.entrance)
