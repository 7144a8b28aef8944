use Rattle.family_graph.specs.Numbers.{AreInstNumbers}
use Rattle.family_graph.proofs.numbering.numbered.Given as goal

abbrev pub invariant-loop-at : goal.invariant-loop-at
invariant-loop-at l = AreInstNumbers l.nodes l.at l.insts.items l.numbers.items
