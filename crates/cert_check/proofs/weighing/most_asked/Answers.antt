use Rattle.std.proofs.Common.{sym, subst, take, ◌+◌}
use Rattle.cert_check.specs.Demands.{IsMost}
use Rattle.cert_check.proofs.Asking.{most_more, no_demand}
use Rattle.cert_check.proofs.weighing.most_asked.Goals as goal

pub loop-at-preserved : goal.loop-at-preserved
loop-at-preserved c =
    subst (IsMost (take (c.loop-at.at + 1) c.args.demands.now) c.args.j) (sym c.more_asked-most.ensures)
    (most_more c.args.demands.now c.loop-at.at no_demand c.args.j c.loop-at.most c.loop-at-test.true c.loop-at.invariant)
