use Rattle.std.proofs.Common.{take}
use Rattle.round_nesting.specs.Nestings.{AreOnce}
use Rattle.fixpoint.specs.Confirm.{AreKnownAt}
use Rattle.fixpoint.proofs.confirming.note_each.Given as goal
use Rattle.family_edges.specs.Tasks.{task_of}

abbrev pub invariant-loop-at : goal.invariant-loop-at
invariant-loop-at l = AreKnownAt (task_of l.task) l.table (take l.at l.keys) l.notes × AreOnce l.notes.nesting.insts
