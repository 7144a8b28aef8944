use Rattle.std.proofs.Common.{◌≡◌, take}
use Rattle.round_nesting.specs.Lowering.{Lowers}
use Rattle.round_nesting.proofs.allowances.Allowances.lower_all.Given as goal

abbrev pub invariant-loop-entrance : goal.invariant-loop-entrance
invariant-loop-entrance l = record {
  lowers : Lowers l.fn.self.back l.fn.self.map.entries l.fn.lowered.items (take l.entrance-index l.entrances) l.self.map.entries l.lowered.items;
  back : l.self.back ≡ l.fn.self.back;
}
