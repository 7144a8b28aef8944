use Rattle.flash_image.proofs.Loads.{AreLoadsNoted}
use Rattle.flash_image.proofs.image.Flash.loads.Given as goal

-- what the words so far load is noted
abbrev pub invariant-loop-a : goal.invariant-loop-a
invariant-loop-a l = AreLoadsNoted l.self l.a l.loads
