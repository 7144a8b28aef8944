use Rattle.std.proofs.Common.{take}
use Rattle.std.specs.List.{All}
use Rattle.row_tests.proofs.wrong_row.Given as goal

-- all rows before hold
abbrev pub invariant-loop-at : goal.invariant-loop-at
invariant-loop-at g l = All g.R.WorkedRow.IsRight (take l.at l.rows)
