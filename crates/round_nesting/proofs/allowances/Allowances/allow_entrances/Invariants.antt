use Rattle.std.proofs.Common.{take}
use Rattle.std.specs.List.{Contains}
use Rattle.round_nesting.specs.Nestings.{Entrance}
use Rattle.round_nesting.specs.Covers.{AllowsEntrance}
use Rattle.round_nesting.proofs.allowances.Allowances.allow_entrances.Given as goal

abbrev pub invariant-loop-entrance : goal.invariant-loop-entrance
invariant-loop-entrance l = (x : Entrance) → Contains (take l.entrance-index l.entrances) x → AllowsEntrance l.self.back l.self.map.entries x
