use Rattle.std.proofs.Common.{◌≤◌}
use Rattle.basics.specs.Items.{all_up_to, all_taken}
use Rattle.instance_graph.proofs.Table.{no_node}
use Rattle.instance_graph.proofs.shape.are_low.Goals as goal

pub loop-closed-preserved : goal.loop-closed-preserved
loop-closed-preserved c = all_up_to (λ p. p.offset ≤ 32768) c.args.nodes.now c.loop-closed.closed-index no_node c.loop-closed-test.true c.loop-closed.invariant c.if-closed-gt-GREATEST_OFFSET.false

pub returns-clause-yes : goal.returns-clause-yes
returns-clause-yes c = λ _. all_taken (λ p. p.offset ≤ 32768) c.args.nodes.now c.loop-closed.closed-index c.loop-closed-test.false c.loop-closed.invariant
