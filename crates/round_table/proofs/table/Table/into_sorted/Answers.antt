use Rattle.std.proofs.Common.{ap, ◌∙◌, map}
use Rattle.round_table.specs.Families.{node_of}
use Rattle.round_table.proofs.Shared.{times_reordered, sorted_stated}
use Rattle.round_table.proofs.table.Table.into_sorted.Goals as goal

pub nodes_in-requires : goal.nodes_in-requires
nodes_in-requires c =
    times_reordered c.self.inside.pool c.self.inside.map.entries c.sort_keys.new.self.entries c.sort_keys.ensures.reordered.0 c.self.invariant.counted

pub returns : goal.returns
returns c =
    c.in_ok-all.ensures
    ∙ ap (map node_of)
    (sorted_stated c.self.inside.pool c.self.inside.map.entries c.sort_keys.new.self.entries c.args.self c.self.view_is c.sort_keys.ensures.reordered.2
    c.in_ok-sort_keys.ensures.sorted c.sort_keys.ensures.unique)
