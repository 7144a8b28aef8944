use Rattle.std.proofs.Common.{ap, arith}
use Rattle.abs_step.proofs.Added.{none_added, more_added}
use Rattle.abs_step.proofs.stores.add_masks.Goals as goal

pub loop-at-init : goal.loop-at-init
loop-at-init c = none_added c.args.nodes.now

pub loop-at-preserved : goal.loop-at-preserved
loop-at-preserved c =
    more_added (λ m. record { key = record c.args.write.now.key { masks = m }; state = c.args.write.now.state.now }) c.args.all.now c.loop-at.at c.index-all-at.result
    c.args.nodes.now c.loop-at.nodes c.add_copy.new.nodes (record c.args.write.now.key { masks = c.index-all-at.result }) c.args.write.now.state.now (omega arith)
    (ap (λ m. record { key = record c.args.write.now.key { masks = m }; state = c.args.write.now.state.now }) c.index-all-at.is) c.loop-at.invariant c.in_ok-add_copy.ensures
