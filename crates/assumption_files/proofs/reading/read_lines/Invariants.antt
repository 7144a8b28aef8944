use Rattle.std.proofs.Common.{◌≡◌, length}
use Rattle.assumption_files.specs.Reading.{entries_from, entries_in}
use Rattle.assumption_files.proofs.reading.read_lines.Given as goal

abbrev pub invariant-loop-line : goal.invariant-loop-line
invariant-loop-line l = entries_from l.fn.device l.list l.reader.rest ≡ entries_in l.fn.device l.fn.text

abbrev pub decreases-loop-line : goal.decreases-loop-line
decreases-loop-line l = length l.reader.rest
