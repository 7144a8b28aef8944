use Rattle.std.proofs.Common.{◌≡◌, List, drop}
use Rattle.round_nesting.specs.Nestings.{Spot, Entrance}
use Rattle.round_nesting.specs.Exits.{AreListed}
use Rattle.round_nesting.specs.Lowering.{CoversBut}
use Rattle.round_nesting.proofs.allowances.Allowances.settle.Given as goal

abbrev pub invariant-loop-at : goal.invariant-loop-at
invariant-loop-at l = record {
  covers : (spots : List Spot) (entrances : List Entrance) → AreListed l.exits.map.entries entrances
      → CoversBut l.fn.self.back l.fn.self.map.entries l.fn.lowered.items spots entrances → CoversBut l.fn.self.back l.self.map.entries (drop l.at l.lowered.items) spots entrances;
  back : l.self.back ≡ l.fn.self.back;
}
