use Rattle.assumption_files.proofs.Loop.{lines_more, line_refused, lines_end, passed_on}
use Rattle.assumption_files.specs.declared.fault.AssumeText.TheVariants.{Memory}
use Rattle.assumption_files.proofs.reading.read_lines.Goals as goal

pub loop-line-preserved : goal.loop-line-preserved
loop-line-preserved c =
    lines_more c.args.device c.loop-line.list c.read_line.new.list c.loop-line.reader.rest _ c.next.new.self.rest _ c.in-Some.ensures.rest c.in_ok-read_line.ensures c.loop-line.invariant

pub returns-in_err-read_line : goal.returns-in_err-read_line
returns-in_err-read_line c =
    passed_on (λ a. a) Memory c.in_err-read_line.field-0.0 c.from_residual.result _ c.from_residual.ensures.1 c.from_residual.ensures.0
    (λ other. line_refused c.args.device c.loop-line.list c.loop-line.reader.rest _ c.next.new.self.rest _ c.in_err-read_line.field-0.0 c.in-Some.ensures.rest (c.in_err-read_line.ensures other) c.loop-line.invariant)

pub returns : goal.returns
returns c = lines_end c.args.device c.loop-line.list c.loop-line.reader.rest _ (c.next.ensures.none c.in_default.is).0 c.loop-line.invariant
