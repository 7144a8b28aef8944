use Rattle.std.proofs.Common.{rules, ◌≡◌, sym, subst, ◌<◌, length, arith}
use Rattle.basics.specs.Lists.{get_inside}
use Rattle.family_edges.specs.Exits.{AreExits}
use Rattle.family_edges.proofs.Returning.{one_more, first_fault, whole}
use Rattle.family_edges.proofs.leaving.exits.Goals as goal
use Rattle.family_edges.specs.Tasks.{task_of}

pub loop-at-preserved : goal.loop-at-preserved
loop-at-preserved c =
    let nodes = c.args.nodes.now in
    let inside : c.loop-at.at < length nodes = omega (arith, c.loop-at-test.true, c.count-at-end.ensures.count) in
    let n = get_inside nodes c.loop-at.at inside in
    one_more (task_of c.args.task.now) nodes c.loop-at.at c.loop-at.items.items c.loop-at.invariant n.0 n.1 c.in-Ok.exit c.push.new.self.items
    (c.in-Ok.ensures n.0 n.1) c.in_ok-push-in-Ok.ensures.items

pub returns-in-Err : goal.returns-in-Err
returns-in-Err c =
    let nodes = c.args.nodes.now in
    let inside : c.loop-at.at < length nodes = omega (arith, c.loop-at-test.true, c.count-at-end.ensures.count) in
    let n = get_inside nodes c.loop-at.at inside in
    first_fault (task_of c.args.task.now) nodes c.loop-at.at c.loop-at.items.items c.loop-at.invariant n.0 n.1 c.in-Err.fault
    (c.in-Err.ensures n.0 n.1 (search rules))

pub returns : goal.returns
returns c =
    let nodes = c.args.nodes.now in
    let full : c.loop-at.at ≡ length nodes = omega (arith, c.loop-at-test.false, c.loop-at.auto.at-end, c.count-at-end.ensures.count) in
    subst (AreExits (task_of c.args.task.now) nodes) (sym c.new.ensures)
    (whole (task_of c.args.task.now) nodes c.loop-at.at c.loop-at.items.items full c.loop-at.invariant)
