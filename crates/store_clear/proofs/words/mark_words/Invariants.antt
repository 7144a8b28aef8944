use Rattle.store_clear.specs.Conditions.{AreWordsMarked}
use Rattle.store_clear.proofs.words.mark_words.Given as goal

abbrev pub invariant-loop-at : goal.invariant-loop-at
invariant-loop-at l = AreWordsMarked l.told.nodes.now l.told.conditions.now l.at l.fn.marks l.marks
