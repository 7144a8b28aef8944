use Rattle.std.proofs.Common.{◌≡◌, ◌++◌, take}
use Rattle.std.specs.List.{flat_map}
use Rattle.family_graph.specs.Numbers.{entries_for}
use Rattle.family_graph.proofs.building.add_entries.Given as goal

abbrev pub invariant-loop-way : goal.invariant-loop-way
invariant-loop-way l = l.entered.items ≡ l.initial.entered.items ++ flat_map (entries_for l.family.task.now.assumptions.now l.family.numbering.now.insts.items l.closed) (take l.way-index l.ways)
