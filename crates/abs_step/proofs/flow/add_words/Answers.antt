use Rattle.std.proofs.Common.{ap, arith}
use Rattle.local_rules.specs.Raw.{off_table}
use Rattle.abs_step.proofs.Added.{none_added, more_added}
use Rattle.abs_step.proofs.flow.add_words.Goals as goal

pub loop-at-init : goal.loop-at-init
loop-at-init c = none_added c.args.nodes.now

pub loop-at-preserved : goal.loop-at-preserved
loop-at-preserved c =
    more_added (λ t. record { key = off_table c.args.site.now.key.now t; state = c.args.site.now.state.now }) c.args.words.now c.loop-at.at 0
    c.args.nodes.now c.loop-at.nodes c.add_copy.new.nodes c.off_table.result c.args.site.now.state.now (omega arith)
    (ap (λ k. record { key = k; state = c.args.site.now.state.now }) c.off_table.ensures) c.loop-at.invariant c.in_ok-add_copy.ensures
