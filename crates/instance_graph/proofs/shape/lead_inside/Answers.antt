use Rattle.std.proofs.Common.{◌≤◌, ◌<◌}
use Rattle.basics.specs.Items.{all_up_to, all_taken}
use Rattle.instance_graph.proofs.Table.{no_entry}
use Rattle.instance_graph.proofs.shape.lead_inside.Goals as goal

pub loop-entered-preserved : goal.loop-entered-preserved
loop-entered-preserved c = all_up_to (λ e. (e.offset ≤ 32768) × (e.into < c.args.count)) c.args.edges.now c.loop-entered.entered-index no_entry c.loop-entered-test.true c.loop-entered.invariant (c.if-entered-gt-GREATEST_OFFSET.false, c.if-entered-count.false)

pub returns-clause-yes : goal.returns-clause-yes
returns-clause-yes c = λ _. all_taken (λ e. (e.offset ≤ 32768) × (e.into < c.args.count)) c.args.edges.now c.loop-entered.entered-index c.loop-entered-test.false c.loop-entered.invariant
