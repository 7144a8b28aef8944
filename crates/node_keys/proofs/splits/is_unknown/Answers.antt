use Rattle.std.proofs.Common.{◌∙◌, sym, ap, Option}
use Rattle.std.specs.Int.{from_bool}
use Rattle.avr_model.specs.declared.rows.EnablePlace.{EnablePlace}
use Rattle.node_keys.specs.Splits.{is_any, enable_in}
use Rattle.node_keys.proofs.Steps.{stuck_known, free_any}
use Rattle.node_keys.proofs.splits.is_unknown.Goals as goal

pub returns-then-stays : goal.returns-then-stays
returns-then-stays c =
    sym (ap (λ (o : Option EnablePlace). is_any (enable_in o c.args.value.now (from_bool c.args.old))) c.in-Some.is
    ∙ stuck_known c.in-Some.place c.args.value.now (from_bool c.args.old) (sym c.stays.ensures ∙ c.if-stays.true))

pub returns-else-stays : goal.returns-else-stays
returns-else-stays c =
    c.is_common_unknown.ensures
    ∙ sym (ap (λ (o : Option EnablePlace). is_any (enable_in o c.args.value.now (from_bool c.args.old))) c.in-Some.is
    ∙ free_any c.in-Some.place c.args.value.now (from_bool c.args.old) (sym c.stays.ensures ∙ c.if-stays.false))
