use Rattle.std.proofs.Common.{◌≡◌, ◌++◌, map, take, true}
use Rattle.avr_model.specs.Vectors.{with_enable}
use Rattle.node_keys.proofs.splits.double.Given as goal

-- those below `at` are appended again
abbrev pub invariant-loop-at : goal.invariant-loop-at
invariant-loop-at l = l.splits.items ≡ l.fn.splits.items ++ map (λ n. with_enable l.device n l.v true) (take l.at l.fn.splits.items)
