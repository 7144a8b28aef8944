use Rattle.std.proofs.Common.{◌∙◌, sym, ap}
use Rattle.local_rules.specs.Reads.{value_of}
use Rattle.local_reads.proofs.NoSlot.{no_slot}
use Rattle.local_reads.proofs.reads.slot_value.Goals as goal

pub returns-in-None : goal.returns-in-None
returns-in-None c =
    c.unknown-in-None.ensures ∙ ap value_of (sym (no_slot c.args.state.now.slots c.args.d (sym c.at.ensures ∙ c.in-None.is)))
