use Rattle.std.proofs.Common.{◌∙◌, ap, sym, arith}
use Rattle.avr_model.specs.State.{RAMPZ, bank_most}
use Rattle.avr_model.proofs.AllLaws.{devices_are_alike}
use Rattle.bit_domain.specs.TriByte.{byte_known}
use Rattle.local_rules.specs.Banks.{next_bank}
use Rattle.local_reads.proofs.Banked.{next_kept}
use Rattle.local_reads.proofs.banks.next_bank.Goals as goal

pub returns-in-Some : goal.returns-in-Some
returns-in-Some c =
    let device = c.args.device in
    c.of.ensures.bits ∙ ap byte_known (c.kept_of.ensures ∙ next_kept c.in-Some.bank (bank_most device RAMPZ) (omega arith) (devices_are_alike.most_rampz device))
    ∙ ap (next_bank device) (sym c.in-Some.is)
