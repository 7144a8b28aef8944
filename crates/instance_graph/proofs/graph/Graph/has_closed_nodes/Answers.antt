use Rattle.std.proofs.Common.{refl, sym, subst, length}
use Rattle.std.proofs.lemmas.Option.{slice_get_read}
use Rattle.instance_graph.specs.Chain.{HaveClosedNodes}
use Rattle.instance_graph.proofs.Tested.{leads_more, leads_upto, not_to_nodes}
use Rattle.instance_graph.proofs.graph.Graph.has_closed_nodes.Goals as goal

pub returns-then-not-lead_to_closed_nodes-clause-no : goal.returns-then-not-lead_to_closed_nodes-clause-no
returns-then-not-lead_to_closed_nodes-clause-no c = λ _ nodes.
    let gs = c.as_slice-instances.result.now in
    let is = slice_get_read gs (length gs) c.loop-i.i c.index-instances-i.result refl c.loop-i-test.true c.index-instances-i.is in
    let out = c.lead_to_closed_nodes.ensures.no c.if-not-lead_to_closed_nodes.true in
    not_to_nodes gs c.loop-i.i c.index-instances-i.result is c.as_slice.result.now c.as_slice.ensures out.0 out.1 out.2 (subst HaveClosedNodes (sym c.as_slice-instances.ensures) nodes)

pub loop-i-preserved : goal.loop-i-preserved
loop-i-preserved c =
    let gs = c.as_slice-instances.result.now in
    let is = slice_get_read gs (length gs) c.loop-i.i c.index-instances-i.result refl c.loop-i-test.true c.index-instances-i.is in
    leads_more gs c.loop-i.i c.index-instances-i.result is c.as_slice.result.now c.as_slice.ensures (c.lead_to_closed_nodes.ensures.yes c.if-not-lead_to_closed_nodes.false) c.loop-i.invariant

pub returns-clause-yes : goal.returns-clause-yes
returns-clause-yes c = λ _.
    subst HaveClosedNodes c.as_slice-instances.ensures (leads_upto c.as_slice-instances.result.now c.loop-i.i (c.has_closed_node.ensures.yes c.if-not-has_closed_node.false) c.loop-i-test.false c.loop-i.invariant)
