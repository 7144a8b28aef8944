use Rattle.std.proofs.Common.{length, ◌-◌}
use Rattle.store_clear.specs.ByWord.{IsOnChain}
use Rattle.store_clear.specs.Pointers.{IsSpanOf, HoldsBelow}
use Rattle.store_clear.proofs.pointers.span_at.Given as goal

abbrev pub invariant-loop-at : goal.invariant-loop-at
invariant-loop-at l =
    IsSpanOf (HoldsBelow l.told.nodes.now l.told.conditions.now l.fn.pc l.fn.r l.at) l.span
    × IsOnChain l.told.nodes.now l.told.conditions.now l.fn.pc l.at

abbrev pub decreases-loop-at : goal.decreases-loop-at
decreases-loop-at l = length l.told.conditions.now - l.at
