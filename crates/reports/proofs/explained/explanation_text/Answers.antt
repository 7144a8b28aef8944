use Rattle.std.specs.List.{flat_map}
use Rattle.reports.specs.Explained.{explain_line, part_text}
use Rattle.reports.proofs.Lines.{line_and_text}
use Rattle.reports.proofs.explained.explanation_text.Goals as goal

pub returns : goal.returns
returns c =
    line_and_text c.appending_laws.ensures c.new-out.result c.write_sum.new.out c.write_parts.new.out (explain_line c.args.bound c.args.explanation.now)
    (flat_map (part_text c.args.device c.args.names.now) c.args.explanation.now.parts) c.finish.result.items c.new-out.ensures c.in_ok-write_sum.ensures c.in_ok-write_parts.ensures c.finish.ensures
