use Rattle.std.proofs.Common.{take}
use Rattle.instance_graph.specs.Reach.{IsSpread}
use Rattle.instance_graph.proofs.reach.spread.Given as goal

abbrev pub invariant-loop-entered : goal.invariant-loop-entered
invariant-loop-entered l = IsSpread (take l.entered-index l.inst.entered) l.fn.seen l.fn.stack.items l.seen l.stack.items
