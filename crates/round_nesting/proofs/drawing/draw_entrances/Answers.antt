use Rattle.std.proofs.Common.{◌<◌, ◌∙◌, refl, sym, ap, ◌∷◌, List, take, length, slice_index_or, arith}
use Rattle.std.proofs.lemmas.Option.{slice_get-get_or}
use Rattle.node_keys.specs.declared.keys.InstKey.{InstKey}
use Rattle.node_keys.specs.declared.keys.EdgeKind.TheVariants.{Call}
use Rattle.node_keys.specs.Keys.{root_inst}
use Rattle.instance_graph.specs.declared.graph.GraphWay.TheVariants.{Enters}
use Rattle.instance_graph.specs.declared.graph.Entered.{Entered}
use Rattle.instance_graph.specs.declared.graph.GraphInst.{GraphInst}
use Rattle.round_nesting.specs.Drawn.{number_of}
use Rattle.round_nesting.proofs.Changes.{edged}
use Rattle.round_nesting.proofs.Numbers.{number_within}
use Rattle.round_nesting.proofs.Steps.{entrance_more, entrances_take, entrances_all}
use Rattle.round_nesting.proofs.drawing.draw_entrances.Goals as goal

pub loop-entrance-preserved : goal.loop-entrance-preserved
loop-entrance-preserved c spots drawn =
    let keys : List InstKey = root_inst ∷ c.args.others.now.keys in
    let gs : List GraphInst = c.loop-entrance.instances in
    let before = c.loop-entrance.invariant spots drawn in
    let edge : Entered = record { node = 0; offset = c.offset.result; way = Enters Call; into = c.number-into.result } in
    let g : GraphInst = slice_index_or gs c.number-from.result c.index-instances-from.result in
    let h : GraphInst = record { key = g.key; offsets = g.offsets; entered = c.push.new.self } in
    let lt : c.number-from.result < length gs = omega (arith, c.number-from.ensures.is, number_within c.from.result.now keys, before.count) in
    entrances_take keys spots c.args.entrances.now c.loop-entrance.entrance-index c.entrance-item.result _ c.loop-entrance-test.true c.entrance-item.is
    (entrance_more keys spots (take c.loop-entrance.entrance-index c.args.entrances.now) gs _ before c.entrance-item.result c.number-from.result edge
    (sym (c.number-from.ensures.is ∙ ap (number_of keys) c.from.ensures)) (sym (c.number-into.ensures.is ∙ ap (number_of keys) c.into.ensures)) (sym c.offset.ensures.is)
    c.offset.ensures.low (edged gs c.number-from.result g h (slice_get-get_or gs c.number-from.result c.index-instances-from.result lt) edge refl refl c.in_ok-push.ensures.ok))

pub returns : goal.returns
returns c spots drawn =
    entrances_all (root_inst ∷ c.args.others.now.keys) spots c.args.entrances.now c.loop-entrance.entrance-index c.loop-entrance.instances c.loop-entrance-test.false
    (c.loop-entrance.invariant spots drawn)
