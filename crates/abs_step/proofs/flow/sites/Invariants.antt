use Rattle.std.proofs.Common.{◌≡◌, map, take}
use Rattle.local_rules.specs.Flow.{site}
use Rattle.abs_step.proofs.flow.sites.Given as goal

abbrev pub invariant-loop-at : goal.invariant-loop-at
invariant-loop-at l = l.sites ≡ map (λ t. site t l.back) (take l.at l.entries)
