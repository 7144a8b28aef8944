use Rattle.std.proofs.Common.{◌∙◌, ap, max, subst, sym}
use Rattle.std.specs.List.{Contains}
use Rattle.std.proofs.lemmas.List.{take_all}
use Rattle.instance_graph.proofs.Table.{no_node, greatest_more}
use Rattle.instance_graph.proofs.peel.greatest.Goals as goal

pub loop-closed-preserved : goal.loop-closed-preserved
loop-closed-preserved c = greatest_more c.args.nodes.now c.loop-closed.closed-index no_node c.loop-closed.most c.max-most.result c.loop-closed-test.true (c.max-most.ensures ∙ ap (max c.loop-closed.most) c.from.ensures) c.loop-closed.invariant.above c.loop-closed.invariant.least

pub returns-clause-above : goal.returns-clause-above
returns-clause-above c = λ o h. c.loop-closed.invariant.above o (subst (λ xs. Contains xs o) (sym (take_all c.loop-closed.closed-index c.args.nodes.now c.loop-closed-test.false)) h)

pub returns-clause-least : goal.returns-clause-least
returns-clause-least c = λ m all. c.loop-closed.invariant.least m (λ o h. all o (subst (λ xs. Contains xs o) (take_all c.loop-closed.closed-index c.args.nodes.now c.loop-closed-test.false) h))
