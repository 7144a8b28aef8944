use Rattle.std.proofs.Common.{sym, ◌∙◌}
use Rattle.guided_trials.specs.Guides.{guide_of}
use Rattle.guided_trials.proofs.Completed.{copied_as, none_as, found_fits, with_found, attained_where, valid_with}
use Rattle.guided_trials.proofs.attaining.with_schedule.Goals as goal

pub with_witness-requires : goal.with_witness-requires
with_witness-requires c =
    found_fits c.args.flash.now c.args.assumptions.now (guide_of c.args.flash.now c.args.assumptions.now c.args.certificate) c.args.trials c.args.certificate.device c.in_ok-schedule.schedule c.requires c.in_ok-schedule.ensures.first

pub returns-clause-attained : goal.returns-clause-attained
returns-clause-attained c =
    let none = none_as c.args.certificate.witness (sym (copied_as c.witness.result c.args.certificate.witness c.witness.ensures) ∙ sym c.is_some.ensures ∙ c.if-is_some.false) in
    attained_where c.args.flash.now c.args.assumptions.now c.args.trials c.args.certificate c.with_witness.result
    (with_found c.args.flash.now c.args.assumptions.now c.args.trials c.args.certificate c.with_witness.result c.in_ok-schedule.schedule none c.in_ok-schedule.ensures.first c.with_witness.ensures)

pub returns-clause-valid : goal.returns-clause-valid
returns-clause-valid c =
    valid_with c.args.flash.now c.args.assumptions.now c.args.trials c.args.certificate c.with_witness.result c.in_ok-schedule.schedule c.in_ok-schedule.ensures.attained c.with_witness.ensures
