use Rattle.peripherals.proofs.Exact.{due, answers_spelled}
use Rattle.peripherals.proofs.peripherals.Peripherals.read.Goals as goal

pub returns-clause-told : goal.returns-clause-told
returns-clause-told c = due c.reading_is_exact.ensures.read c.reading_is_exact.ensures.refused c.args.device c.args.text.now c.read_setup.result c.read_setup.ensures

pub returns-clause-spelled : goal.returns-clause-spelled
returns-clause-spelled c = λ setup h. answers_spelled c.reading_is_exact.ensures.spelled c.args.device c.args.text.now c.read_setup.result setup c.read_setup.ensures h
