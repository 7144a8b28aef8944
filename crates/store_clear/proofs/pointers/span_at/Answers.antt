use Rattle.std.proofs.Common.{◌<◌, ◌+◌, arith, get_or, length, sym, subst, Option, None}
use Rattle.basics.specs.Lists.{get_inside}
use Rattle.clear_laws.specs.declared.stores.Span.{Span}
use Rattle.store_clear.specs.Pointers.{IsSpanOf, HoldsBelow}
use Rattle.store_clear.proofs.Conditions.{state_is}
use Rattle.store_clear.proofs.Linked.{on_chain}
use Rattle.store_clear.proofs.Spans.{holds_none, holds_more, holds_skipped, holds_all}
use Rattle.store_clear.proofs.pointers.span_at.Goals as goal

pub loop-at-init : goal.loop-at-init
loop-at-init c =
    let nodes = c.args.told.now.nodes.now in
    let conditions = c.args.told.now.conditions.now in (
      holds_skipped nodes conditions c.args.pc c.args.r 0 c.args.first None c.requires.chain.first_is (holds_none nodes conditions c.args.pc c.args.r),
      on_chain nodes conditions c.args.pc 0 c.args.first c.requires.chain.first_is,
    )

pub loop-at-preserved : goal.loop-at-preserved
loop-at-preserved c =
    let nodes = c.args.told.now.nodes.now in
    let conditions = c.args.told.now.conditions.now in
    let at = c.loop-at.at in
    let lt : at < length nodes = omega (arith, c.requires.same, c.loop-at-test.true) in
    let n = get_inside nodes at lt in
    let unclear = c.loop-at.invariant.1.is n.0 n.1 in
    let state = state_is nodes at n.0 n.1 c.state.result.now c.state.ensures in
    let next = c.requires.chain.later_is at n.0 n.1 unclear in (
      subst (λ (o : Option Span). IsSpanOf (HoldsBelow nodes conditions c.args.pc c.args.r (get_or c.args.later.now at 0)) o) (sym c.around-span.ensures)
          (holds_skipped nodes conditions c.args.pc c.args.r (at + 1) (get_or c.args.later.now at 0) _ next
          (holds_more nodes conditions c.args.pc c.args.r at n.0 c.state.result.now n.1 state unclear c.loop-at.span c.span_in.result c.loop-at.invariant.0 c.span_in.ensures)),
      on_chain nodes conditions c.args.pc (at + 1) (get_or c.args.later.now at 0) next,
    )

pub loop-at-smaller : goal.loop-at-smaller
loop-at-smaller c =
    let nodes = c.args.told.now.nodes.now in
    let at = c.loop-at.at in
    let lt : at < length nodes = omega (arith, c.requires.same, c.loop-at-test.true) in
    let n = get_inside nodes at lt in
    let next = c.requires.chain.later_is at n.0 n.1 (c.loop-at.invariant.1.is n.0 n.1) in
    omega (arith, next.beyond, next.within, c.loop-at-test.true)

pub returns : goal.returns
returns c =
    holds_all c.args.told.now.nodes.now c.args.told.now.conditions.now c.args.pc c.args.r c.loop-at.at c.loop-at.span
    (omega (arith, c.loop-at-test.false, c.loop-at.invariant.1.within)) c.loop-at.invariant.0
