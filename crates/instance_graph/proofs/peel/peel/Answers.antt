use Rattle.std.proofs.Common.{◌∙◌, arith}
use Rattle.instance_graph.proofs.Table.{none_sound}
use Rattle.instance_graph.proofs.peel.peel.Goals as goal

pub settle_in-requires-clause-sound : goal.settle_in-requires-clause-sound
settle_in-requires-clause-sound c = none_sound c.args.back c.args.graph.now _ (c.as_mut_slice.ensures.value ∙ c.in_ok-table.ensures.items_if_clones_equal (λ y e. grind arith))
