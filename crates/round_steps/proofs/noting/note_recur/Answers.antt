use Rattle.std.proofs.Common.{◌∙◌, sym, subst}
use Rattle.node_keys.specs.declared.keys.InstKey.{InstKey}
use Rattle.edge_laws.proofs.AllLaws.{cut_depths_are_small}
use Rattle.round_nesting.specs.Nestings.{HasEntrance}
use Rattle.round_steps.proofs.Besides.{recurs_none, recurs_one}
use Rattle.round_steps.proofs.noting.note_recur.Goals as goal

pub returns-in_default-clause-entrances : goal.returns-in_default-clause-entrances
returns-in_default-clause-entrances c = recurs_none c.args.assumptions.now c.args.nesting.now c.args.inst.now (sym c.cut.ensures ∙ c.in_default.is)

pub note_entrance-requires : goal.note_entrance-requires
note_entrance-requires c =
    cut_depths_are_small c.args.assumptions.now c.args.inst.now c.in-Some.depth c.entries-entries.ensures.kept (sym c.cut.ensures ∙ c.in-Some.is)

pub returns-clause-entrances : goal.returns-clause-entrances
returns-clause-entrances c =
    recurs_one c.args.assumptions.now c.args.nesting.now c.note_entrance.new.self c.args.inst.now c.in-Some.depth (sym c.cut.ensures ∙ c.in-Some.is)
    (subst (λ (k : InstKey). HasEntrance c.args.nesting.now (record { from = k; into = c.args.inst.now; offset = c.in-Some.depth }) c.note_entrance.new.self) c.root.ensures c.in_ok-note_entrance.ensures.entrance)
