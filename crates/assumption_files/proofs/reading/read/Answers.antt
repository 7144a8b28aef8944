use Rattle.assumption_files.proofs.Exact.{told, due}
use Rattle.assumption_files.proofs.reading.read.Goals as goal

pub returns-clause-told : goal.returns-clause-told
returns-clause-told c = told c.reading_is_exact.ensures.read c.args.device c.args.text.now c.read_lines.result c.read_lines.ensures

pub returns-clause-due : goal.returns-clause-due
returns-clause-due c = λ d h. due c.reading_is_exact.ensures.due c.args.device c.args.text.now c.read_lines.result d c.read_lines.ensures h
