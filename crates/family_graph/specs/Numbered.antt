-- A numbering of nodes as clauses see it.
use Rattle.std.specs.Prelude.{List, length}
use Rattle.local_rules.specs.declared.local.Node.{Node}
use Rattle.family_graph.specs.declared.numbering.Numbering.{Numbering}
use Rattle.family_graph.specs.Numbers.{AreInstNumbers}

-- the numbering has the instance of each of these nodes
abbrev pub NumbersAll : List Node → Numbering → Type 0
NumbersAll nodes numbering = AreInstNumbers nodes (length nodes) numbering.insts.items numbering.numbers.items
