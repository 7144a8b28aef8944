use Rattle.std.proofs.Common.{◌≡◌, map, take}
use Rattle.store_clear.specs.Conditions.{links_by}
use Rattle.store_clear.proofs.spreading.all_links.Given as goal

abbrev pub invariant-loop-at : goal.invariant-loop-at
invariant-loop-at l = l.links ≡ map links_by (take l.at l.landings)
