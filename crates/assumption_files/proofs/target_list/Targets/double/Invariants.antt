use Rattle.std.proofs.Common.{◌≡◌, ◌+◌, ◌++◌, map, take}
use Rattle.assumption_files.proofs.target_list.Targets.double.Given as goal

abbrev pub invariant-loop-at : goal.invariant-loop-at
invariant-loop-at l = l.self ≡ l.initial.self ++ map (λ n. l.weight + n) (take l.at l.initial.self)
