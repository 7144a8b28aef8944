use Rattle.std.proofs.Common.{take}
use Rattle.std.specs.List.{Contains}
use Rattle.round_nesting.specs.Nestings.{Spot}
use Rattle.round_nesting.specs.Covers.{AllowsSpot}
use Rattle.round_nesting.proofs.allowances.Allowances.allow_spots.Given as goal

abbrev pub invariant-loop-spot : goal.invariant-loop-spot
invariant-loop-spot l = (x : Spot) → Contains (take l.spot-index l.spots) x → AllowsSpot l.self.map.entries x
