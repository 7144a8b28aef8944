use Rattle.store_clear.specs.ByWord.{AreLinked}
use Rattle.store_clear.proofs.by_word.link_all.Given as goal

abbrev pub invariant-loop-at : goal.invariant-loop-at
invariant-loop-at l = AreLinked l.told.nodes.now l.told.conditions.now l.at l.first l.later

abbrev pub decreases-loop-at : goal.decreases-loop-at
decreases-loop-at l = l.at
