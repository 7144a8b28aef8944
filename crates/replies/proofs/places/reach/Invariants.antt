use Rattle.std.proofs.Common.{◌≡◌, ◌≤◌}
use Rattle.replies.specs.Places.{name_up_to}
use Rattle.replies.proofs.places.reach.Given as goal

abbrev pub invariant-loop-at : goal.invariant-loop-at
invariant-loop-at l = (l.from.pc ≤ l.at) × (name_up_to l.names l.at ≡ name_up_to l.names l.pc)

abbrev pub decreases-loop-at : goal.decreases-loop-at
decreases-loop-at l = l.at
