use Rattle.std.proofs.Common.{length, ◌-◌}
use Rattle.store_clear.specs.ByWord.{IsOnChain}
use Rattle.store_clear.specs.Causing.{HappensAt}
use Rattle.store_clear.proofs.causes.happens_at.Given as goal
use Rattle.family_edges.specs.Tasks.{task_of}

abbrev pub invariant-loop-at : goal.invariant-loop-at
invariant-loop-at l =
    (HappensAt (task_of l.task) l.bound l.other l.told.nodes.now l.told.conditions.now l.site.pc l.site.instr.now l.at → ⊥)
    × IsOnChain l.told.nodes.now l.told.conditions.now l.site.pc l.at

abbrev pub decreases-loop-at : goal.decreases-loop-at
decreases-loop-at l = length l.told.conditions.now - l.at
