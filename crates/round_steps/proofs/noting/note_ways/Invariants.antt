use Rattle.std.proofs.Common.{take}
use Rattle.round_nesting.specs.Nestings.{AreOnce}
use Rattle.round_steps.specs.Notings.{HasCallers, HasEntrances, EnterBy}
use Rattle.round_steps.proofs.noting.note_ways.Given as goal

abbrev pub invariant-loop-at : goal.invariant-loop-at
invariant-loop-at l = HasCallers l.fn.callers l.key (take l.at l.ways) l.callers × HasEntrances l.fn.nesting (EnterBy l.task.assumptions.now l.key (take l.at l.ways)) l.nesting × AreOnce l.nesting.insts
