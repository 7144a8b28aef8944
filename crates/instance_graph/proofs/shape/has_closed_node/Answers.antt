use Rattle.std.proofs.Common.{refl, length}
use Rattle.std.proofs.lemmas.Option.{slice_get_read}
use Rattle.instance_graph.proofs.Tested.{some_node, no_some_node, not_empty, is_empty}
use Rattle.instance_graph.proofs.shape.has_closed_node.Goals as goal

pub returns-clause-yes : goal.returns-clause-yes
returns-clause-yes c = λ e.
    let gs = c.args.instances.now in
    let is = slice_get_read gs (length gs) c.args.inst c.index-instances-inst.result refl c.if-inst-instances.false c.index-instances-inst.is in
    some_node gs c.args.inst c.index-instances-inst.result c.as_slice.result.now is c.as_slice.ensures (not_empty (length c.as_slice.result.now) c.is_empty.result c.is_empty.ensures e)

pub returns-clause-no : goal.returns-clause-no
returns-clause-no c = λ e.
    let gs = c.args.instances.now in
    let is = slice_get_read gs (length gs) c.args.inst c.index-instances-inst.result refl c.if-inst-instances.false c.index-instances-inst.is in
    no_some_node gs c.args.inst c.index-instances-inst.result c.as_slice.result.now is c.as_slice.ensures (is_empty (length c.as_slice.result.now) c.is_empty.result c.is_empty.ensures e)
