use Rattle.std.proofs.Common.{sym, ap, ◌∙◌, subst}
use Rattle.round_table.specs.Crossings.{Groups, crossings_at, AreCrossingsOnce}
use Rattle.round_table.proofs.Groups.{kept, kept_at, are_once}
use Rattle.round_table.proofs.crossings.Crossings.at.Goals as goal

pub returns-in-Some-clause-some : goal.returns-in-Some-clause-some
returns-in-Some-clause-some c =
    c.as_slice.ensures.keys ∙ ap kept c.in-Some.ensures.value ∙ sym (kept_at c.self.inside.map.entries c.args.inst.now)
    ∙ ap (λ (gs : Groups). crossings_at gs c.args.inst.now) c.self.view_is

pub returns-in-Some-clause-once : goal.returns-in-Some-clause-once
returns-in-Some-clause-once c = subst AreCrossingsOnce (sym c.as_slice.ensures.keys) (are_once c.in-Some.set.now.keys c.as_slice.ensures.unique)

pub returns-in-None-clause-none : goal.returns-in-None-clause-none
returns-in-None-clause-none c =
    sym (ap (λ (gs : Groups). crossings_at gs c.args.inst.now) c.self.view_is) ∙ kept_at c.self.inside.map.entries c.args.inst.now ∙ sym (ap kept c.in-None.ensures.value)
