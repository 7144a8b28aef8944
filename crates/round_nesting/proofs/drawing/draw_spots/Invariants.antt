use Rattle.std.proofs.Common.{◌∷◌, [], take}
use Rattle.node_keys.specs.Keys.{root_inst}
use Rattle.round_nesting.specs.Drawn.{IsDrawn}
use Rattle.round_nesting.proofs.drawing.draw_spots.Given as goal

abbrev pub invariant-loop-spot : goal.invariant-loop-spot
invariant-loop-spot l = IsDrawn (root_inst ∷ l.others.keys) (take l.spot-index l.spots) [] l.instances
