use Rattle.std.proofs.Common.{◌+◌, ◌-◌, ap, ◌∙◌, arith}
use Rattle.avr_model.proofs.AllLaws.{devices_are_alike}
use Rattle.reports.proofs.room.room.Goals as goal

pub overflow_add-ramend : goal.overflow_add-ramend
overflow_add-ramend c = omega (arith, devices_are_alike.most_bytes c.args.device, devices_are_alike.most_io c.args.device, c.ramend.ensures)

pub returns : goal.returns
returns c = c.saturating_sub.ensures ∙ ap (λ n. (n + 1) - c.args.static_end) c.ramend.ensures
