use Rattle.std.proofs.Common.{take}
use Rattle.round_nesting.specs.Nestings.{AreOnce}
use Rattle.round_steps.specs.Notings.{AreNoted}
use Rattle.round_steps.proofs.noting.Notes.note_all.Given as goal

abbrev pub invariant-loop-at : goal.invariant-loop-at
invariant-loop-at l = AreNoted l.task.assumptions.now l.fn.self (take l.at l.looks) l.self × AreOnce l.self.nesting.insts
