use Rattle.std.proofs.Common.{◌∷◌, [], List, take}
use Rattle.node_keys.specs.Keys.{root_inst}
use Rattle.round_nesting.specs.Nestings.{Spot}
use Rattle.round_nesting.specs.Drawn.{IsDrawn}
use Rattle.round_nesting.proofs.drawing.draw_entrances.Given as goal

abbrev pub invariant-loop-entrance : goal.invariant-loop-entrance
invariant-loop-entrance l =
    (spots : List Spot) → IsDrawn (root_inst ∷ l.others.keys) spots [] l.fn.instances → IsDrawn (root_inst ∷ l.others.keys) spots (take l.entrance-index l.entrances) l.instances
