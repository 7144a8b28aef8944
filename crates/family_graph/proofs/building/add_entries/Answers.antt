use Rattle.std.proofs.Common.{sym}
use Rattle.family_graph.specs.Numbers.{entries_for}
use Rattle.family_graph.proofs.Lists.{joined_more}
use Rattle.family_graph.proofs.building.add_entries.Goals as goal

pub add_entry-requires-clause-has : goal.add_entry-requires-clause-has
add_entry-requires-clause-has c = c.requires.has c.way-item.result (c.loop-way.way-index, c.loop-way-test.true, sym c.way-item.is)

pub loop-way-preserved : goal.loop-way-preserved
loop-way-preserved c =
    joined_more (entries_for c.args.family.now.task.now.assumptions.now c.args.family.now.numbering.now.insts.items c.args.closed) c.args.ways.now c.loop-way.way-index c.way-item.result
    c.args.entered.now.items c.loop-way.entered.items c.add_entry.new.entered.items c.loop-way-test.true c.way-item.is c.loop-way.invariant c.in_ok-add_entry.ensures
