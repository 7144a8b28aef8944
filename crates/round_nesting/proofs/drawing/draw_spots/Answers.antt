use Rattle.std.proofs.Common.{◌<◌, ◌∙◌, refl, sym, ap, ◌∷◌, [], List, take, length, slice_index_or, arith}
use Rattle.std.proofs.lemmas.Option.{slice_get-get_or}
use Rattle.node_keys.specs.declared.keys.InstKey.{InstKey}
use Rattle.node_keys.specs.Keys.{root_inst}
use Rattle.instance_graph.specs.declared.graph.GraphInst.{GraphInst}
use Rattle.instance_graph.specs.declared.graph.ClosedNode.{ClosedNode}
use Rattle.round_nesting.specs.Drawn.{number_of}
use Rattle.round_nesting.proofs.Changes.{node_added}
use Rattle.round_nesting.proofs.Numbers.{number_within}
use Rattle.round_nesting.proofs.Steps.{spot_more, spots_take}
use Rattle.round_nesting.proofs.drawing.draw_spots.Goals as goal

pub loop-spot-preserved : goal.loop-spot-preserved
loop-spot-preserved c =
    let keys : List InstKey = root_inst ∷ c.args.others.now.keys in
    let gs : List GraphInst = c.loop-spot.instances in
    let node : ClosedNode = record { node = 0; offset = c.offset.result } in
    let g : GraphInst = slice_index_or gs c.number-at.result c.index-instances-at.result in
    let h : GraphInst = record { key = g.key; offsets = c.push.new.self; entered = g.entered } in
    let lt : c.number-at.result < length gs = omega (arith, c.number-at.ensures.is, number_within c.inst.result.now keys, c.loop-spot.invariant.count) in
    spots_take keys c.args.spots.now c.loop-spot.spot-index c.spot-item.result _ c.loop-spot-test.true c.spot-item.is
    (spot_more keys (take c.loop-spot.spot-index c.args.spots.now) [] gs _ c.loop-spot.invariant c.spot-item.result c.number-at.result node
    (sym (c.number-at.ensures.is ∙ ap (number_of keys) c.inst.ensures)) (sym c.offset.ensures.is) c.offset.ensures.low
    (node_added gs c.number-at.result g h (slice_get-get_or gs c.number-at.result c.index-instances-at.result lt) node refl c.in_ok-push.ensures.ok refl))
