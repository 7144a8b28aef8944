use Rattle.std.proofs.Common.{arith}
use Rattle.abs_step.specs.Adding.{plain}
use Rattle.abs_step.proofs.Picked.{none_gathered, next_gathered}
use Rattle.abs_step.specs.Sites.{picked}
use Rattle.abs_step.proofs.splitting.all_picked.Goals as goal

pub loop-at-init : goal.loop-at-init
loop-at-init c = none_gathered (plain c.args.nodes.now)

pub loop-at-preserved : goal.loop-at-preserved
loop-at-preserved c =
    next_gathered
    (λ byte. picked c.args.site.now byte)
    c.args.picks.now c.loop-at.at 0 (plain c.args.nodes.now) (plain c.picked_too.new.nodes) c.in_ok-fault.fault (omega arith)
    (c.in_ok-fault.ensures.ok (plain c.args.nodes.now) _ c.loop-at.invariant)
