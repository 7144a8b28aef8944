use Rattle.std.proofs.Common.{◌≡◌, drop, length}
use Rattle.std.specs.Prelude.{if◌then◌else◌}
use Rattle.avr_model.specs.Step.{with_live, written}
use Rattle.avr_machine.proofs.memory.Memory.push.Given as goal

abbrev pub invariant-loop-write : goal.invariant-loop-write
invariant-loop-write l =
    (l.self.below ≡ l.initial.self.below)
    × (written l.initial.self.below l.initial.self.bytes l.writes ≡ written l.initial.self.below l.self.bytes (drop l.write-index l.writes))
    × ((if l.guarded then with_live l.initial.self.below l.initial.self.live l.writes else l.initial.self.live) ≡ (if l.guarded then with_live l.initial.self.below l.self.live (drop l.write-index l.writes) else l.self.live))
    × (length l.self.bytes ≡ length l.initial.self.bytes)
