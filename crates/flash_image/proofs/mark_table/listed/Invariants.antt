use Rattle.flash_image.proofs.Listed.{AreListedBelow}
use Rattle.flash_image.proofs.mark_table.listed.Given as goal

abbrev pub invariant-loop-at : goal.invariant-loop-at
invariant-loop-at l = AreListedBelow l.at l.table l.list.items
