use Rattle.std.proofs.Common.{sym, subst, List}
use Rattle.std.specs.Vec.Iter.{into_iter_items}
use Rattle.basics.specs.Items.{first_in}
use Rattle.local_rules.specs.declared.local.Node.{Node}
use Rattle.local_laws.specs.Laws.{AreNodesIn}
use Rattle.round_laws.specs.Steps.{HaveOwnKeys}
use Rattle.round_steps.specs.Joins.{AreNew, FitTogether, AreJoinedSoFar}
use Rattle.round_steps.proofs.Gathers.{own_node}
use Rattle.round_steps.proofs.Joins.{none_yet, one_more}
use Rattle.round_steps.proofs.joining.join_all.Goals as goal

pub loop-node-init : goal.loop-node-init
loop-node-init c =
    let items = into_iter_items c.into_iter-node-iterator.result in
    let same = sym c.into_iter-node-iterator.ensures.into_iter_gives.0 in
    subst (AreJoinedSoFar c.args.table.now items c.args.table.now c.args.counted.now items) (sym c.new-changed.ensures.items)
    (none_yet c.args.table.now c.args.counted.now items c.requires.count (subst (FitTogether c.args.table.now) same c.requires.fit)
    (subst (AreNew c.args.table.now) same c.requires.fresh) (subst HaveOwnKeys same c.requires.apart))

pub join_one-requires-clause-node : goal.join_one-requires-clause-node
join_one-requires-clause-node c =
    let all = into_iter_items c.into_iter-node-iterator.result in
    let left = into_iter_items c.next.new.self in
    let so = subst (λ (l : List Node). AreJoinedSoFar c.args.table.now all c.loop-node.table c.loop-node.counted l c.loop-node.changed.items) c.in-Some.ensures.steps.0 c.loop-node.invariant in
    let fit = so.fit in
    own_node c.in-Some.node.key c.in-Some.node.state (fit.nodes c.in-Some.node (first_in c.in-Some.node left))

pub loop-node-preserved : goal.loop-node-preserved
loop-node-preserved c =
    let all = into_iter_items c.into_iter-node-iterator.result in
    let left = into_iter_items c.next.new.self in
    one_more c.args.table.now all c.loop-node.table c.in-Some.node left c.loop-node.changed.items c.loop-node.counted
    (subst (λ (l : List Node). AreJoinedSoFar c.args.table.now all c.loop-node.table c.loop-node.counted l c.loop-node.changed.items) c.in-Some.ensures.steps.0 c.loop-node.invariant)
    c.join_one.new.table c.join_one.new.changed.items c.join_one.new.counted
    c.in_ok-join_one.ensures.joined c.in_ok-join_one.ensures.count c.in_ok-join_one.ensures.key

pub returns-clause-formed : goal.returns-clause-formed
returns-clause-formed c = λ device followed formed nodes.
    (c.loop-node.invariant.formed device followed formed (subst (AreNodesIn device followed) (sym c.into_iter-node-iterator.ensures.into_iter_gives.0) nodes)).0
