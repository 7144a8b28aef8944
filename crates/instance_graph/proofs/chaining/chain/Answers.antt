use Rattle.std.proofs.Common.{◌+◌, sym, subst}
use Rattle.instance_graph.specs.Chain.{IsChain}
use Rattle.instance_graph.specs.Turn.{IsOnWay}
use Rattle.instance_graph.proofs.Onward.{ends_here, goes_here, turned_end, turned_way}
use Rattle.instance_graph.proofs.chaining.chain.Goals as goal

pub returns-in-Ends : goal.returns-in-Ends
returns-in-Ends c =
    subst (IsChain c.args.back c.args.graph.now.instances c.args.composed.now.needs) (sym c.in_ok-push-in-Ends.ensures.items)
    (ends_here c.args.back c.args.graph.now.instances c.args.composed.now.needs c.links.inst c.links.above c.links.links.items c.links.invariant c.in-Ends.closed
    (turned_end c.args.back c.args.graph.now.instances c.as_slice-instances.result.now c.args.composed.now.needs c.as_slice-needs.result.now c.links.inst c.goes_on.result c.in-Ends.closed c.as_slice-instances.ensures c.as_slice-needs.ensures c.in-Ends.is c.goes_on.ensures))

pub links-preserved : goal.links-preserved
links-preserved c =
    let turned = turned_way c.args.back c.args.graph.now.instances c.as_slice-instances.result.now c.args.composed.now.needs c.as_slice-needs.result.now c.links.inst c.goes_on.result c.in-Enters.entered c.as_slice-instances.ensures c.as_slice-needs.ensures c.in-Enters.is c.goes_on.ensures in
    subst (λ back. IsOnWay c.args.back c.args.graph.now.instances c.args.composed.now.needs c.in-Enters.entered.into (c.links.above + (c.in-Enters.entered.offset + back)) c.push-in-Enters.new.self.items) (sym c.from.ensures)
    (subst (IsOnWay c.args.back c.args.graph.now.instances c.args.composed.now.needs c.in-Enters.entered.into (c.links.above + (c.in-Enters.entered.offset + c.args.back))) (sym c.in_ok-push-in-Enters.ensures.items)
    (goes_here c.args.back c.args.graph.now.instances c.args.composed.now.needs c.links.inst c.links.above c.links.links.items c.links.invariant c.in-Enters.entered turned.0 turned.1 c.requires.graph c.requires.closed))
