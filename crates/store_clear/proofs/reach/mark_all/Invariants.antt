use Rattle.std.proofs.Common.{take, ◌<◌}
use Rattle.std.specs.List.{Contains}
use Rattle.clear_laws.specs.Reach.{offset_at}
use Rattle.store_clear.specs.Spreading.{IsReachSpread}
use Rattle.store_clear.proofs.reach.mark_all.Given as goal

abbrev pub invariant-loop-at : goal.invariant-loop-at
invariant-loop-at l = IsReachSpread (λ j. Contains (take l.at l.links) j × (l.slot < offset_at l.offsets j)) l.fn.seen l.fn.stack.items l.seen l.stack.items
