use Rattle.std.proofs.Common.{ap, ◌∙◌}
use Rattle.text_base.specs.Writing.{with_end}
use Rattle.basics.specs.Results.{on_err}
use Rattle.assumption_files.proofs.Parts.{no_lines, lines_next, lines_part, all_words}
use Rattle.assumption_files.proofs.writing.write.Goals as goal

pub loop-entry-init : goal.loop-entry-init
loop-entry-init c = no_lines c.args.out.now c.requires

pub loop-entry-preserved : goal.loop-entry-preserved
loop-entry-preserved c =
    lines_next c.args.device c.appending_laws.ensures c.args.out.now c.loop-entry.out c.end_line.new.self c.entries-entries.result.now c.loop-entry.entry-index c.entry-item.result c.loop-entry-test.true c.entry-item.is c.loop-entry.invariant
    (c.in_ok-end_line.ensures.written ∙ ap with_end c.in_ok-write_entry.ensures.written)

pub returns-in_err-write_entry-clause-refused : goal.returns-in_err-write_entry-clause-refused
returns-in_err-write_entry-clause-refused c =
    rw c.entries-entries.ensures.value at (on_err c.from_residual.result _
    (lines_part c.args.device c.appending_laws.ensures c.args.out.now c.loop-entry.out c.write_entry.new.out c.entries-entries.result.now c.loop-entry.entry-index c.entry-item.result
    c.loop-entry-test.true c.entry-item.is c.loop-entry.invariant c.in_err-write_entry.ensures.refused))

pub returns-in_err-end_line-clause-refused : goal.returns-in_err-end_line-clause-refused
returns-in_err-end_line-clause-refused c =
    rw c.entries-entries.ensures.value at (on_err c.from_residual-in_err-end_line.result _
    (lines_part c.args.device c.appending_laws.ensures c.args.out.now c.loop-entry.out c.end_line.new.self c.entries-entries.result.now c.loop-entry.entry-index c.entry-item.result
    c.loop-entry-test.true c.entry-item.is c.loop-entry.invariant (all_words _ _ _ _ c.in_ok-write_entry.ensures.written c.in_err-end_line.ensures.refused)))
