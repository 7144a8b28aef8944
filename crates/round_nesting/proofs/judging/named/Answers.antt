use Rattle.std.proofs.Common.{◌≡◌, ap, ⊎_elim, slice_index_or}
use Rattle.instance_graph.specs.declared.graph.GraphInst.{GraphInst}
use Rattle.instance_graph.specs.Cycle.{group_of}
use Rattle.round_nesting.proofs.Telling.{re_entry, recursion, named_is}
use Rattle.round_nesting.proofs.judging.named.Goals as goal

pub returns-in-Vector : goal.returns-in-Vector
returns-in-Vector c =
    let g : GraphInst = slice_index_or c.args.graph.now c.args.at c.index-graph-at.result in
    re_entry c.graphs_tell.ensures c.args.graph.now c.args.at g (named_is c.args.graph.now c.args.at c.index-graph-at.result c.requires) c.requires c.in-Vector.vector c.in-Vector.is

pub returns-in-Root : goal.returns-in-Root
returns-in-Root c =
    let g : GraphInst = slice_index_or c.args.graph.now c.args.at c.index-graph-at.result in
    let one : group_of g.key.kind ≡ 1 = ⊎_elim (λ e. ap group_of e) (λ e. ap group_of e) c.in-Root.is in
    recursion c.graphs_tell.ensures c.args.graph.now c.args.at g (named_is c.args.graph.now c.args.at c.index-graph-at.result c.requires) c.requires one
