use Rattle.std.proofs.Common.{◌≡◌, take}
use Rattle.line_reading.specs.Appending.{with_text}
use Rattle.assumption_files.specs.Spelling.{text_of}
use Rattle.assumption_files.proofs.writing.write.Given as goal

abbrev pub invariant-loop-entry : goal.invariant-loop-entry
invariant-loop-entry l = l.out ≡ with_text l.initial.out (text_of l.device (take l.entry-index l.entries))
