use Rattle.instance_graph.proofs.Least.{found_more}
use Rattle.instance_graph.proofs.composing.settled.Goals as goal

pub loop-i-preserved : goal.loop-i-preserved
loop-i-preserved c =
    found_more c.args.table.now c.loop-i.i c.in-Some.found c.loop-i.ranks.items c.loop-i.needs.items c.push.new.self.items c.push-in-Some.new.self.items c.loop-i-test.true c.in-Some.is c.in_ok-push-in-Some.ensures.items c.in_ok-push-in-Some-2.ensures.items c.loop-i.invariant
