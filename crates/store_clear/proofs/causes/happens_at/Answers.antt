use Rattle.std.proofs.Common.{◌≡◌, ◌<◌, ◌+◌, arith, get_or, length, refl, sym, ◌∙◌}
use Rattle.basics.specs.Lists.{get_inside}
use Rattle.store_clear.proofs.Conditions.{key_is, state_is}
use Rattle.store_clear.proofs.Linked.{on_chain}
use Rattle.store_clear.proofs.Causing.{happens_none, happens_found, happens_not, happens_nowhere, happens_skipped}
use Rattle.store_clear.proofs.causes.happens_at.Goals as goal
use Rattle.family_edges.specs.Tasks.{task_of}

pub loop-at-init : goal.loop-at-init
loop-at-init c =
    let task = task_of c.args.task.now in
    let nodes = c.args.told.now.nodes.now in
    let conditions = c.args.told.now.conditions.now in
    let site = c.args.site.now in (
      happens_skipped task c.args.bound c.args.other nodes conditions site.pc site.instr.now 0 site.first c.requires.chain.first_is (happens_none task c.args.bound c.args.other nodes conditions site.pc site.instr.now),
      on_chain nodes conditions site.pc 0 site.first c.requires.chain.first_is,
    )

pub returns-then-may_happen : goal.returns-then-may_happen
returns-then-may_happen c =
    let nodes = c.args.told.now.nodes.now in
    let site = c.args.site.now in
    let at = c.loop-at.at in
    let lt : at < length nodes = omega (arith, c.requires.same, c.loop-at-test.true) in
    let n = get_inside nodes at lt in (
      λ e. happens_found (task_of c.args.task.now) c.args.bound c.args.other nodes c.args.told.now.conditions.now site.pc site.instr.now at n.0 c.key-key.result.now
          c.state-state.result.now n.1 (key_is nodes at n.0 n.1 c.key-key.result.now c.key-key.ensures)
          (state_is nodes at n.0 n.1 c.state-state.result.now c.state-state.ensures) _ c.loop-at-test.true (c.loop-at.invariant.1.is n.0 n.1)
          (sym c.may_happen.ensures ∙ c.if-may_happen.true),
      λ t. refl,
    )

pub loop-at-preserved : goal.loop-at-preserved
loop-at-preserved c =
    let task = task_of c.args.task.now in
    let nodes = c.args.told.now.nodes.now in
    let conditions = c.args.told.now.conditions.now in
    let site = c.args.site.now in
    let at = c.loop-at.at in
    let lt : at < length nodes = omega (arith, c.requires.same, c.loop-at-test.true) in
    let n = get_inside nodes at lt in
    let next = c.requires.chain.later_is at n.0 n.1 (c.loop-at.invariant.1.is n.0 n.1) in (
      happens_skipped task c.args.bound c.args.other nodes conditions site.pc site.instr.now (at + 1) (get_or site.later.now at 0) next
          (happens_not task c.args.bound c.args.other nodes conditions site.pc site.instr.now at n.0 c.key-key.result.now c.state-state.result.now n.1
          (key_is nodes at n.0 n.1 c.key-key.result.now c.key-key.ensures) (state_is nodes at n.0 n.1 c.state-state.result.now c.state-state.ensures)
          c.loop-at.invariant.0 (sym c.may_happen.ensures ∙ c.if-may_happen.false)),
      on_chain nodes conditions site.pc (at + 1) (get_or site.later.now at 0) next,
    )

pub loop-at-smaller : goal.loop-at-smaller
loop-at-smaller c =
    let nodes = c.args.told.now.nodes.now in
    let at = c.loop-at.at in
    let lt : at < length nodes = omega (arith, c.requires.same, c.loop-at-test.true) in
    let n = get_inside nodes at lt in
    let next = c.requires.chain.later_is at n.0 n.1 (c.loop-at.invariant.1.is n.0 n.1) in
    omega (arith, next.beyond, next.within, c.loop-at-test.true)

pub returns : goal.returns
returns c =
    let conditions = c.args.told.now.conditions.now in
    let site = c.args.site.now in
    let same : c.loop-at.at ≡ length conditions = omega (arith, c.loop-at-test.false, c.loop-at.invariant.1.within) in
    happens_nowhere (task_of c.args.task.now) c.args.bound c.args.other c.args.told.now.nodes.now conditions site.pc site.instr.now c.loop-at.at (length conditions) same c.loop-at.invariant.0
