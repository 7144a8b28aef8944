use Rattle.std.proofs.Common.{refl, length}
use Rattle.std.proofs.lemmas.Option.{slice_get_read}
use Rattle.instance_graph.proofs.Deep.{some_is_deep, no_deep_node, no_deep_edge, least_node, first_edge}
use Rattle.instance_graph.proofs.chaining.goes_on.Goals as goal

pub unreachable-requires : goal.unreachable-requires
unreachable-requires c =
    let is = slice_get_read c.args.instances.now (length c.args.instances.now) c.args.inst c.index-instances-inst.result refl c.requires.within c.index-instances-inst.is in
    some_is_deep c.args.back c.args.instances.now c.args.needs.now c.requires.least c.args.inst c.requires.within
    (no_deep_node c.args.back c.args.instances.now c.args.needs.now c.args.inst c.index-instances-inst.result is c.as_slice.result.now c.best_node.result c.as_slice.ensures c.in-None.is c.best_node.ensures)
    (no_deep_edge c.args.back c.args.instances.now c.args.needs.now c.args.inst c.index-instances-inst.result is c.as_slice-in-None.result.now c.best_edge.result c.as_slice-in-None.ensures c.in-None-best_edge.is c.best_edge.ensures)
    c.requires.closed

pub returns-in-Some : goal.returns-in-Some
returns-in-Some c =
    let is = slice_get_read c.args.instances.now (length c.args.instances.now) c.args.inst c.index-instances-inst.result refl c.requires.within c.index-instances-inst.is in
    least_node c.args.back c.args.instances.now c.args.needs.now c.args.inst c.index-instances-inst.result is c.as_slice.result.now c.best_node.result c.in-Some.closed c.as_slice.ensures c.in-Some.is c.best_node.ensures

pub returns-in-Some-best_edge : goal.returns-in-Some-best_edge
returns-in-Some-best_edge c =
    let is = slice_get_read c.args.instances.now (length c.args.instances.now) c.args.inst c.index-instances-inst.result refl c.requires.within c.index-instances-inst.is in (
      no_deep_node c.args.back c.args.instances.now c.args.needs.now c.args.inst c.index-instances-inst.result is c.as_slice.result.now c.best_node.result c.as_slice.ensures c.in-None.is c.best_node.ensures,
      first_edge c.args.back c.args.instances.now c.args.needs.now c.args.inst c.index-instances-inst.result is c.as_slice-in-None.result.now c.best_edge.result c.in-Some-best_edge.entered c.as_slice-in-None.ensures c.in-Some-best_edge.is c.best_edge.ensures,
    )
