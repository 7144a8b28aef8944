use Rattle.avr_model.proofs.Facts.{row_some, row_none}
use Rattle.avr_model.proofs.device.Device.row.Goals as goal

pub returns-in-None : goal.returns-in-None
returns-in-None c = row_none c.args.self c.from.result c.get.result c.from.ensures c.get.ensures.lookup c.in-None.is

pub returns-in-Some : goal.returns-in-Some
returns-in-Some c = row_some c.args.self c.from.result c.get.result c.in-Some.row c.from.ensures c.get.ensures.lookup c.in-Some.is
