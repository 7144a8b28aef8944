use Rattle.std.proofs.Common.{take, subst}
use Rattle.shortest_walk.specs.Nearest.{IsNearestOf}
use Rattle.shortest_walk.proofs.Best.{best_more, best_all}
use Rattle.shortest_walk.proofs.nearest.nearest.Goals as goal

pub loop-node-preserved : goal.loop-node-preserved
loop-node-preserved c =
    best_more c.args.distances.now c.args.nodes.now c.loop-node.node-index c.nearer-best.result c.loop-node-test.true
    (c.nearer-best.ensures (take c.loop-node.node-index c.args.nodes.now) c.loop-node.invariant)

pub returns-in-None : goal.returns-in-None
returns-in-None c =
    subst (IsNearestOf c.args.distances.now c.args.nodes.now) c.in-None.is
    (best_all c.args.distances.now c.args.nodes.now c.loop-node.node-index c.loop-node.best c.loop-node-test.false c.loop-node.invariant)
