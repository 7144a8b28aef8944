use Rattle.std.proofs.Common.{sym, subst, true, set}
use Rattle.store_clear.specs.Spreading.{IsOne, IsReachSpread}
use Rattle.store_clear.proofs.Marks.{spread_new, spread_old}
use Rattle.store_clear.proofs.reach.mark.Goals as goal

pub returns-in_ok-push : goal.returns-in_ok-push
returns-in_ok-push c =
    subst (IsReachSpread (IsOne c.args.node) c.args.seen.now c.args.stack.now.items (set c.args.seen.now c.args.node true)) (sym c.in_ok-push.ensures.items)
    (spread_new c.args.node c.args.seen.now c.args.stack.now.items c.requires c.if-not-seen-node.true)

pub returns-else-not-seen-node : goal.returns-else-not-seen-node
returns-else-not-seen-node c = spread_old c.args.node c.args.seen.now c.args.stack.now.items c.if-not-seen-node.false
