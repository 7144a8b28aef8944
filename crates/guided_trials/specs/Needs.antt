-- The needs of interrupts.
use Rattle.std.specs.Prelude.{ℕ, max, List, [], ◌∷◌}
use Rattle.guided_trials.specs.declared.guide.Candidate.{Candidate}

-- the greatest need, 0 if there is no interrupt
abbrev pub greatest : List Candidate → ℕ
greatest [] = 0
greatest (k ∷ ks) = max k.need (greatest ks)
