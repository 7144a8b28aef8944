use Rattle.std.proofs.Common.{ap, ◌∙◌}
use Rattle.text_base.specs.Writing.{with_end}
use Rattle.replies.specs.Places.{never_line}
use Rattle.reports.proofs.AllLaws.{numbers_next}
use Rattle.replies.proofs.places.write_nevers.Goals as goal

pub loop-word-preserved : goal.loop-word-preserved
loop-word-preserved c =
    numbers_next (never_line c.args.device) c.appending_laws.ensures c.args.out.now c.loop-word.out c.end_line.new.self c.args.nevers.now c.loop-word.word-index c.loop-word-test.true c.requires c.loop-word.invariant
    (c.in_ok-end_line.ensures.written ∙ ap with_end c.in_ok-put_address.ensures)
