use Rattle.std.proofs.Common.{ap, ◌∙◌, map}
use Rattle.round_table.specs.Families.{node_of}
use Rattle.round_table.proofs.Entries.{table_same, sorted_entries}
use Rattle.round_table.proofs.gathered.GatheredStates.into_sorted.Goals as goal

pub returns : goal.returns
returns c =
    c.in_ok-all.ensures
    ∙ ap (map node_of)
    (sorted_entries c.sort_keys.new.self.entries c.args.self
    (table_same c.self.inside.map.entries c.sort_keys.new.self.entries c.sort_keys.ensures.reordered.2 ∙ c.self.view_is)
    c.in_ok-sort_keys.ensures.sorted c.sort_keys.ensures.unique)
