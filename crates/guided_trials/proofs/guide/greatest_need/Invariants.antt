use Rattle.std.proofs.Common.{◌≡◌, drop, max}
use Rattle.guided_trials.specs.Needs.{greatest}
use Rattle.guided_trials.proofs.guide.greatest_need.Given as goal

abbrev pub invariant-loop-candidate : goal.invariant-loop-candidate
invariant-loop-candidate l = max l.need (greatest (drop l.candidate-index l.takes)) ≡ greatest l.takes
