use Rattle.std.proofs.Common.{ap, ap₂, ◌∙◌, ◌+◌, arith}
use Rattle.avr_model.proofs.AllLaws.{devices_are_alike}
use Rattle.std.specs.Prelude.{nat_le}
use Rattle.reports.specs.Report.{sram_end}
use Rattle.reports.proofs.room.fits.Goals as goal

pub overflow_add-ramend : goal.overflow_add-ramend
overflow_add-ramend c = omega (arith, devices_are_alike.most_bytes c.args.device, devices_are_alike.most_io c.args.device, c.ramend.ensures)

pub returns : goal.returns
returns c =
    ap (nat_le (c.from.result + c.from-2.result)) (c.from-3.ensures ∙ ap (λ n. n + 1) c.ramend.ensures) ∙ ap₂ (λ a b. nat_le (a + b) (sram_end c.args.device)) c.from.ensures c.from-2.ensures
