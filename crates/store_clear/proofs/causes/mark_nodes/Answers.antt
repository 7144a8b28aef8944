use Rattle.std.proofs.Common.{◌≡◌, ◌<◌, ◌+◌, arith, get_or, length, refl, subst}
use Rattle.basics.specs.Lists.{get_inside}
use Rattle.store_clear.specs.Takes.{AreMarkedBeside}
use Rattle.store_clear.specs.Causing.{IsProtectedAt}
use Rattle.store_clear.proofs.Conditions.{state_is}
use Rattle.store_clear.proofs.Linked.{on_chain}
use Rattle.store_clear.proofs.Causing.{nodes_none, nodes_marked, nodes_skipped}
use Rattle.store_clear.proofs.causes.mark_nodes.Goals as goal
use Rattle.family_edges.specs.Tasks.{task_of}

pub loop-at-init : goal.loop-at-init
loop-at-init c =
    let task = task_of c.args.task.now in
    let nodes = c.args.told.now.nodes.now in
    let conditions = c.args.told.now.conditions.now in
    let site = c.args.site.now in (
      nodes_skipped task nodes conditions site.pc site.instr.now 0 site.first c.args.marks.now c.args.marks.now c.requires.chain.first_is
          (nodes_none task nodes conditions site.pc site.instr.now c.args.marks.now),
      on_chain nodes conditions site.pc 0 site.first c.requires.chain.first_is,
    )

pub loop-at-preserved : goal.loop-at-preserved
loop-at-preserved c =
    let task = task_of c.args.task.now in
    let nodes = c.args.told.now.nodes.now in
    let conditions = c.args.told.now.conditions.now in
    let site = c.args.site.now in
    let at = c.loop-at.at in
    let lt : at < length nodes = omega (arith, c.requires.same, c.loop-at-test.true) in
    let n = get_inside nodes at lt in
    let unclear = c.loop-at.invariant.1.is n.0 n.1 in
    let state = state_is nodes at n.0 n.1 c.state-state.result.now c.state-state.ensures in
    let next = c.requires.chain.later_is at n.0 n.1 unclear in (
      nodes_skipped task nodes conditions site.pc site.instr.now (at + 1) (get_or site.later.now at 0) c.args.marks.now c.mark_addresses.new.marks next
          (nodes_marked task nodes conditions site.pc site.instr.now at n.0 n.0.key c.state-state.result.now _ c.args.marks.now c.loop-at.marks n.1 refl state refl c.loop-at.invariant.0
          c.mark_addresses.new.marks unclear c.mark_addresses.ensures),
      on_chain nodes conditions site.pc (at + 1) (get_or site.later.now at 0) next,
    )

pub loop-at-smaller : goal.loop-at-smaller
loop-at-smaller c =
    let nodes = c.args.told.now.nodes.now in
    let at = c.loop-at.at in
    let lt : at < length nodes = omega (arith, c.requires.same, c.loop-at-test.true) in
    let n = get_inside nodes at lt in
    let next = c.requires.chain.later_is at n.0 n.1 (c.loop-at.invariant.1.is n.0 n.1) in
    omega (arith, next.beyond, next.within, c.loop-at-test.true)

pub returns : goal.returns
returns c =
    let conditions = c.args.told.now.conditions.now in
    let site = c.args.site.now in
    let same : c.loop-at.at ≡ length conditions = omega (arith, c.loop-at-test.false, c.loop-at.invariant.1.within) in
    subst (λ count. AreMarkedBeside (IsProtectedAt (task_of c.args.task.now) c.args.told.now.nodes.now conditions site.pc site.instr.now count) c.args.marks.now c.loop-at.marks) same
    c.loop-at.invariant.0
