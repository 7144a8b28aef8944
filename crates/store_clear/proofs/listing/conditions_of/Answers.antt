use Rattle.std.proofs.Common.{◌≡◌, ◌+◌, ◌<◌, sym, subst, arith, length, List}
use Rattle.basics.specs.Lists.{get_inside}
use Rattle.clear_laws.specs.declared.slots.Condition.{Condition}
use Rattle.store_clear.specs.Conditions.{AreConditionsTo}
use Rattle.store_clear.proofs.Conditions.{key_is, state_is, asking_is, asked_none, asked_more}
use Rattle.store_clear.proofs.listing.conditions_of.Goals as goal
use Rattle.family_edges.specs.Tasks.{task_of}

pub loop-at-init : goal.loop-at-init
loop-at-init c =
    subst (λ (xs : List Condition). AreConditionsTo (task_of c.args.task.now) c.args.bound c.args.nodes.now 0 xs) (sym c.new-conditions.ensures.items)
    (asked_none (task_of c.args.task.now) c.args.bound c.args.nodes.now)

pub loop-at-preserved : goal.loop-at-preserved
loop-at-preserved c =
    let nodes = c.args.nodes.now in
    let at = c.loop-at.at in
    let lt : at < length nodes = omega (arith, c.loop-at-test.true, c.count-at-end.ensures.count) in
    let n = get_inside nodes at lt in
    let conditions =
    asking_is (task_of c.args.task.now) c.args.bound nodes n.0 c.key-key.result.now c.state-state.result.now c.condition_by.result
    (key_is nodes at n.0 n.1 c.key-key.result.now c.key-key.ensures) (state_is nodes at n.0 n.1 c.state-state.result.now c.state-state.ensures) c.condition_by.ensures in
    subst (λ (xs : List Condition). AreConditionsTo (task_of c.args.task.now) c.args.bound nodes (at + 1) xs) (sym {A = List Condition} c.in_ok-push.ensures.items)
    (asked_more (task_of c.args.task.now) c.args.bound nodes at c.loop-at.conditions.items n.0 c.condition_by.result c.loop-at.invariant n.1 conditions)

pub returns : goal.returns
returns c =
    let full : c.loop-at.at ≡ length c.args.nodes.now = omega (arith, c.loop-at-test.false, c.loop-at.auto.at-end, c.count-at-end.ensures.count) in
    subst (λ k. AreConditionsTo (task_of c.args.task.now) c.args.bound c.args.nodes.now k c.loop-at.conditions.items) full c.loop-at.invariant
