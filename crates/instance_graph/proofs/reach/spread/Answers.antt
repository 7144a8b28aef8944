use Rattle.std.proofs.Common.{length, ◌<◌, ◌∷◌, [], ◌∙◌, ap, set, true, sym, subst, get_or}
use Rattle.std.specs.List.{Contains}
use Rattle.std.proofs.lemmas.List.Elements.{Contains-get_or}
use Rattle.instance_graph.specs.declared.graph.Entered.{Entered}
use Rattle.instance_graph.specs.Reach.{IsSpread}
use Rattle.instance_graph.proofs.Table.{no_entry}
use Rattle.instance_graph.proofs.Marks.{spread_more, spread_new, spread_old}
use Rattle.instance_graph.proofs.reach.spread.Goals as goal
use Rattle.instance_graph.proofs.reach.spread.Goals.{then-not-seen-into+in_ok-push, else-not-seen-into}

pub bounds-seen-into : goal.bounds-seen-into
bounds-seen-into c =
    let e : Entered = get_or c.as_slice-entered-items.result.now c.loop-entered.entered-index no_entry in
    subst (λ n. e.into < n) (sym c.loop-entered.invariant.same) (c.requires e (subst (λ xs. Contains xs e) c.as_slice-entered-items.ensures (Contains-get_or c.as_slice-entered-items.result.now c.loop-entered.entered-index no_entry c.loop-entered-test.true)))

pub bounds-seen-into-then-not-seen-into : goal.bounds-seen-into-then-not-seen-into
bounds-seen-into-then-not-seen-into c =
    let e : Entered = get_or c.as_slice-entered-items.result.now c.loop-entered.entered-index no_entry in
    subst (λ n. e.into < n) (sym c.loop-entered.invariant.same) (c.requires e (subst (λ xs. Contains xs e) c.as_slice-entered-items.ensures (Contains-get_or c.as_slice-entered-items.result.now c.loop-entered.entered-index no_entry c.loop-entered-test.true)))

pub loop-entered-preserved : goal.loop-entered-preserved
loop-entered-preserved c =
    let e : Entered = get_or c.as_slice-entered-items.result.now c.loop-entered.entered-index no_entry in
    let lt : e.into < length c.loop-entered.seen = subst (λ n. e.into < n) (sym c.loop-entered.invariant.same) (c.requires e (subst (λ xs. Contains xs e) c.as_slice-entered-items.ensures (Contains-get_or c.as_slice-entered-items.result.now c.loop-entered.entered-index no_entry c.loop-entered-test.true))) in
    let one : IsSpread (e ∷ []) c.loop-entered.seen c.loop-entered.stack.items c.if-not-seen-into.seen c.if-not-seen-into.stack.items = elim c.if-not-seen-into.branch [
      | then-not-seen-into+in_ok-push w ↦ subst (λ seen. IsSpread (e ∷ []) c.loop-entered.seen c.loop-entered.stack.items seen c.if-not-seen-into.stack.items) (sym w.seen-is)
          (subst (IsSpread (e ∷ []) c.loop-entered.seen c.loop-entered.stack.items (set c.loop-entered.seen e.into true)) (sym (ap (λ s. s.items) w.stack-is ∙ w.in_ok-push.ensures.items))
          (spread_new e c.loop-entered.seen c.loop-entered.stack.items lt w.if-not-seen-into.true))
      | else-not-seen-into w ↦ subst (λ seen. IsSpread (e ∷ []) c.loop-entered.seen c.loop-entered.stack.items seen c.if-not-seen-into.stack.items) (sym w.seen-is)
          (subst (λ s. IsSpread (e ∷ []) c.loop-entered.seen c.loop-entered.stack.items c.loop-entered.seen s.items) (sym w.stack-is) (spread_old e c.loop-entered.seen c.loop-entered.stack.items w.if-not-seen-into.false))
    ] in
    spread_more c.args.inst.now.entered c.as_slice-entered-items.result.now c.loop-entered.entered-index no_entry c.args.seen.now c.loop-entered.seen c.if-not-seen-into.seen c.args.stack.now.items c.loop-entered.stack.items c.if-not-seen-into.stack.items c.as_slice-entered-items.ensures c.loop-entered-test.true c.loop-entered.invariant one
