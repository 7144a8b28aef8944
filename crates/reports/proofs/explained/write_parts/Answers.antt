use Rattle.reports.specs.Explained.{part_text}
use Rattle.reports.proofs.Lines.{text_after}
use Rattle.reports.proofs.explained.write_parts.Goals as goal

pub loop-at-preserved : goal.loop-at-preserved
loop-at-preserved c =
    text_after (part_text c.args.device c.args.names.now) c.args.out.now c.loop-at.out c.write_part.new.out c.args.explanation.now.parts c.loop-at.at c.part.result.now c.part.ensures c.loop-at.invariant c.in_ok-write_part.ensures
