use Rattle.std.proofs.Common.{◌≡◌, ◌∷◌, take}
use Rattle.node_keys.specs.Keys.{root_inst}
use Rattle.round_nesting.proofs.Steps.{bare, bares}
use Rattle.round_nesting.proofs.drawing.instances.Given as goal

abbrev pub invariant-loop-other : goal.invariant-loop-other
invariant-loop-other l = l.instances.items ≡ bare root_inst ∷ bares (take l.other-index l.other-items)
