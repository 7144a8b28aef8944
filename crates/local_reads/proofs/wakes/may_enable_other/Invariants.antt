use Rattle.std.proofs.Common.{◌≡◌, false, take}
use Rattle.std.specs.List.{list_any}
use Rattle.avr_model.specs.State.{minus16}
use Rattle.local_rules.specs.Permitted.{permits_number}
use Rattle.local_reads.proofs.Waking.{may_wake_other}
use Rattle.local_reads.proofs.wakes.may_enable_other.Given as goal

-- the byte enables no vector that isn't barred at the places so far
abbrev pub invariant-loop-place : goal.invariant-loop-place
invariant-loop-place l =
    list_any (may_wake_other l.byte.device l.byte.assumptions.now (λ a. permits_number l.byte.state.now l.byte.r (minus16 a l.byte.up)) l.byte.bits) (take l.place-index l.place-items)
    ≡ false
