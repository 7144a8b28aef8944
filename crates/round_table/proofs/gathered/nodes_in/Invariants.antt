use Rattle.std.proofs.Common.{◌≡◌, ◌++◌, map}
use Rattle.round_table.specs.Families.{node_of}
use Rattle.round_table.proofs.gathered.nodes_in.Given as goal

abbrev pub invariant-loop-key : goal.invariant-loop-key
invariant-loop-key l = l.all.items ++ map node_of l.key-iterator ≡ map node_of l.fn.map.entries
