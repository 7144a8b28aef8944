use Rattle.std.proofs.Common.{length, ◌-◌}
use Rattle.store_clear.specs.ByWord.{IsOnChain}
use Rattle.store_clear.specs.Takes.{AreMarkedBeside}
use Rattle.store_clear.specs.Causing.{IsProtectedAt}
use Rattle.store_clear.proofs.causes.mark_nodes.Given as goal
use Rattle.family_edges.specs.Tasks.{task_of}

abbrev pub invariant-loop-at : goal.invariant-loop-at
invariant-loop-at l =
    AreMarkedBeside (IsProtectedAt (task_of l.task) l.told.nodes.now l.told.conditions.now l.site.pc l.site.instr.now l.at) l.fn.marks l.marks
    × IsOnChain l.told.nodes.now l.told.conditions.now l.site.pc l.at

abbrev pub decreases-loop-at : goal.decreases-loop-at
decreases-loop-at l = length l.told.conditions.now - l.at
