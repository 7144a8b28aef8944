use Rattle.std.proofs.Common.{take}
use Rattle.instance_graph.specs.Table.{IsOver}
use Rattle.instance_graph.proofs.peel.settle.Given as goal

abbrev pub invariant-loop-entered : goal.invariant-loop-entered
invariant-loop-entered l = IsOver l.back (take l.entered-index l.inst.entered) l.inst.offsets l.table l.found
