use Rattle.std.proofs.Common.{◌∙◌}
use Rattle.std.specs.Ordering.{nat_cmp}
use Rattle.instance_graph.proofs.Order.{edge_chained}
use Rattle.instance_graph.proofs.chaining.is_before.Goals as goal

pub returns : goal.returns
returns c =
    let chained = edge_chained c.args.instances.now c.args.a.now c.args.b.now c.cmp.result c.way_cmp.result c.cmp-2.result c.cmp-3.result c.cmp.ensures c.way_cmp.ensures
    (c.cmp-2.ensures ∙ (λ j. nat_cmp (c.entry-entry_a.ensures j) (c.entry-entry_b.ensures j))) c.cmp-3.ensures in
    cc
