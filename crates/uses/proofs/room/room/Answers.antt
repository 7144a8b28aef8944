use Rattle.std.proofs.Common.{arith}
use Rattle.avr_model.proofs.AllLaws.{devices_are_alike}
use Rattle.uses.proofs.room.room.Goals as goal

pub overflow_add-io_end : goal.overflow_add-io_end
overflow_add-io_end c = omega (arith, devices_are_alike.most_io c.args.device, c.io_end.ensures)

pub overflow_add-ramend : goal.overflow_add-ramend
overflow_add-ramend c = omega (arith, devices_are_alike.most_bytes c.args.device, devices_are_alike.most_io c.args.device, c.ramend.ensures)
