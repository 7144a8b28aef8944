use Rattle.std.proofs.Common.{◌≡◌, take}
use Rattle.clear_laws.specs.Links.{offsets_of}
use Rattle.store_clear.proofs.spreading.offsets_of.Given as goal

abbrev pub invariant-loop-at : goal.invariant-loop-at
invariant-loop-at l = l.offsets ≡ offsets_of (take l.at l.nodes)
