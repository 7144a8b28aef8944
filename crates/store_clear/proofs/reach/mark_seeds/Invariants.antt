use Rattle.std.proofs.Common.{take}
use Rattle.std.specs.List.{Contains}
use Rattle.store_clear.specs.Spreading.{IsReachSpread}
use Rattle.store_clear.proofs.reach.mark_seeds.Given as goal

abbrev pub invariant-loop-at : goal.invariant-loop-at
invariant-loop-at l = IsReachSpread (λ j. Contains (take l.at l.seeds) (record { node = j; slot = l.slot })) l.fn.seen l.fn.stack.items l.seen l.stack.items
