use Rattle.std.proofs.Common.{◌≡◌, drop, length, ◌-◌}
use Rattle.state_pool.specs.Digest.{mix_slots}
use Rattle.state_pool.proofs.shared.digest_slots.Given as goal

abbrev pub invariant-loop-at : goal.invariant-loop-at
invariant-loop-at l = mix_slots l.digest l.at (drop l.at l.slots) ≡ mix_slots l.fn.start 0 l.slots

abbrev pub decreases-loop-at : goal.decreases-loop-at
decreases-loop-at l = length l.slots - l.at
