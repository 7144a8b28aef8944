use Rattle.std.proofs.Common.{arith}
use Rattle.round_steps.proofs.Joins.{one_cell_more, as_many_cells}
use Rattle.round_steps.proofs.joining.join_one.Goals as goal

pub returns-else-before-len-clause-count : goal.returns-else-before-len-clause-count
returns-else-before-len-clause-count c =
    as_many_cells c.args.table.now c.raise.new.self c.args.node c.args.counted.now c.len-before.result c.len.result c.requires.count c.in_ok-raise.ensures.ok c.len-before.ensures c.len.ensures
    c.if-before-len.false

pub returns-in-Some-clause-count : goal.returns-in-Some-clause-count
returns-in-Some-clause-count c =
    one_cell_more c.args.table.now c.raise.new.self c.args.node c.args.counted.now c.offset-offset.result c.len-before.result c.len.result c.in-Some.more c.requires.count
    c.offset-offset.ensures c.in_ok-raise.ensures.ok c.len-before.ensures c.len.ensures c.if-before-len.true (grind (arith, c.from.ensures, c.checked_add.ensures, c.in-Some.is))

pub raise-requires : goal.raise-requires
raise-requires c = c.requires.node.1.formed.count_slots
