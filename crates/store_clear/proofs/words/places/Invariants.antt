use Rattle.std.proofs.Common.{◌≡◌, ◌++◌, drop}
use Rattle.store_clear.specs.Conditions.{places_from}
use Rattle.store_clear.proofs.words.places.Given as goal

abbrev pub invariant-loop-at : goal.invariant-loop-at
invariant-loop-at l = places_from 0 l.marks ≡ l.places ++ places_from l.at (drop l.at l.marks)
