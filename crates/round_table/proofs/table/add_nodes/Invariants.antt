use Rattle.std.proofs.Common.{◌≡◌, ◌++◌, map}
use Rattle.round_table.specs.Families.{node_of}
use Rattle.round_table.specs.Shared.{stated, AreCounted}
use Rattle.round_table.proofs.table.add_nodes.Given as goal

abbrev pub invariant-loop-key : goal.invariant-loop-key
invariant-loop-key l =
    AreCounted l.pool l.key-iterator × (l.all.items ++ map node_of (stated l.pool l.key-iterator) ≡ l.fn.all.items ++ map node_of (stated l.fn.pool l.fn.map.entries))
