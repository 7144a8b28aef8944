use Rattle.std.proofs.Common.{◌≡◌, ◌≢◌, None}
use Rattle.row_tests.specs.Told.{IsTold}
use Rattle.row_tests.proofs.tell.Given as goal

-- the first wrong row of the tables so far, unless one was told before, which stays
abbrev pub invariant-loop-name : goal.invariant-loop-name
invariant-loop-name g l =
    (l.fn.told.wrong ≡ None → IsTold g.R.WorkedRow.IsRight (λ rows. rows.now) l.tables l.name-index l.told.wrong)
    × (l.fn.told.wrong ≢ None → l.told.wrong ≡ l.fn.told.wrong)
