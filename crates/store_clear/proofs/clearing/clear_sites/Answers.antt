use Rattle.std.proofs.Common.{◌∙◌, List, subst, sym}
use Rattle.avr_model.specs.declared.assumption.Entry.{Entry}
use Rattle.certificate.specs.Valid.{IsSound}
use Rattle.store_clear.proofs.clearing.clear_sites.Goals as goal
use Rattle.local_rules.specs.Site.{task_with}

pub worked_of-requires : goal.worked_of-requires
worked_of-requires c =
    subst (λ (A : List Entry). IsSound (task_with c.args.flash.now A) c.args.certificate.now) (sym (c.assumptions.ensures ∙ c.requires.meets.assumptions)) c.requires
