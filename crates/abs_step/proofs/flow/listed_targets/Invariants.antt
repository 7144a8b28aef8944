use Rattle.std.proofs.Common.{◌≡◌, filter, take}
use Rattle.avr_model.specs.Assumptions.{lists}
use Rattle.local_rules.specs.Flow.{words_on, z_with}
use Rattle.abs_step.proofs.flow.listed_targets.Given as goal

abbrev pub invariant-loop-at : goal.invariant-loop-at
invariant-loop-at l = l.words.items ≡ filter (lists (words_on l.device (z_with l.state l.bank))) (take l.at l.listed)
