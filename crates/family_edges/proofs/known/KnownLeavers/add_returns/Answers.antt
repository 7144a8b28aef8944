use Rattle.std.proofs.Common.{◌∙◌, ap, ◌++◌}
use Rattle.family_edges.specs.Callers.{caller_node}
use Rattle.family_edges.specs.Next.{returns_by}
use Rattle.family_edges.specs.Tasks.{task_of}
use Rattle.family_edges.proofs.Shown.{returned_none, returned_more, leavers_all}
use Rattle.family_edges.proofs.known.KnownLeavers.add_returns.Goals as goal

pub loop-at-init : goal.loop-at-init
loop-at-init c =
    let self = c.args.self.now in
    returned_none (task_of self.task.now) self.nodes.now c.args.caller.now.way.inst c.span-low.result.0 c.span-low.result.1 c.span-low.ensures
    (caller_node c.args.caller.now) c.args.caller.now.way c.args.edges.now

pub loop-at-preserved : goal.loop-at-preserved
loop-at-preserved c =
    let self = c.args.self.now in
    returned_more (task_of self.task.now) self.nodes.now c.args.caller.now.way.inst c.span-low.result.0 c.span-low.result.1 c.span-low.ensures
    (caller_node c.args.caller.now) c.args.caller.now.way c.loop-at.at c.args.edges.now c.loop-at.edges c.add_leaver.new.edges
    c.loop-at.auto.at c.loop-at-test.true c.loop-at.invariant c.in_ok-add_leaver.ensures

pub returns : goal.returns
returns c =
    let self = c.args.self.now in
    c.loop-at.invariant
    ∙ ap (λ leavers. c.args.edges.now ++ returns_by (caller_node c.args.caller.now) c.args.caller.now.way leavers)
    (leavers_all (task_of self.task.now) self.nodes.now c.args.caller.now.way.inst c.span-low.result.0 c.span-low.result.1 c.span-low.ensures
    c.loop-at.at c.loop-at-test.false (c.loop-at.auto.at-end c.span-low.ensures.order))
