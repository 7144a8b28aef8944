use Rattle.std.proofs.Common.{◌≡◌, ℕ, ◌<◌}
use Rattle.sp_domain.specs.Slots.{slot_at}
use Rattle.state_pool.proofs.shared.are_same_slots.Given as goal

abbrev pub invariant-loop-d : goal.invariant-loop-d
invariant-loop-d l = (d : ℕ) → d < l.d → slot_at l.slots d ≡ slot_at l.others d
