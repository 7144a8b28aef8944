use Rattle.std.proofs.Common.{◌≡◌, ◌+◌, ◌++◌, ◌∷◌, [], ◌∙◌, take, get_or, sym, subst, arith, slice_index}
use Rattle.instance_graph.specs.Chain.{IsEdgeUpTo, edge_cmp}
use Rattle.instance_graph.specs.Turn.{IsBestEdge}
use Rattle.instance_graph.proofs.Best.{best_take, best_all, best_skip, best_first, best_less, best_keep}
use Rattle.instance_graph.proofs.Order.{edge_same, edge_over, less_of, not_less_of}
use Rattle.instance_graph.proofs.Table.{no_entry}
use Rattle.instance_graph.proofs.chaining.best_edge.Goals as goal
use Rattle.instance_graph.proofs.chaining.best_edge.Goals.{in-None, in-Some, then-first+then-from, else-first, else-first-via-then-first+else-from, else-first-via-else-first}

pub loop-entered-preserved : goal.loop-entered-preserved
loop-entered-preserved c =
    let gs = c.args.instances.now in
    let es = take c.loop-entered.entered-index c.args.edges.now in
    let e = get_or c.args.edges.now c.loop-entered.entered-index no_entry in
    let kept : c.match-best.best ≡ c.loop-entered.best = elim c.match-best.branch [ in-None v ↦ v.best-is | in-Some v ↦ v.best-is ∙ sym v.in-Some.is ] in
    let more : IsBestEdge c.args.back gs c.args.needs.now c.args.need (es ++ e ∷ []) c.if-first.best = elim c.if-first.branch [
      | then-first+then-from w ↦ let deep : e.offset + c.args.back + slice_index c.args.needs.now e.into ≡ c.args.need = omega (arith, w.from.ensures, w.from-then-first.ensures, w.from-then-first-2.ensures, c.read-below.ensures, w.if-from.true) in
          subst (IsBestEdge c.args.back gs c.args.needs.now c.args.need (es ++ e ∷ [])) (sym w.best-is) (elim c.match-best.branch [
            | in-None v ↦ best_first (λ d. d.offset + c.args.back + slice_index c.args.needs.now d.into ≡ c.args.need) (IsEdgeUpTo gs) es e c.loop-entered.best v.in-None.is deep (edge_same gs e) c.loop-entered.invariant
            | in-Some v ↦ best_less (λ d. d.offset + c.args.back + slice_index c.args.needs.now d.into ≡ c.args.need) (IsEdgeUpTo gs) es e v.in-Some.old c.loop-entered.best v.in-Some.is deep (edge_same gs e)
                (edge_over gs e v.in-Some.old (less_of (edge_cmp gs e v.in-Some.old) v.is_before-first.result v.is_before-first.ensures (sym v.first-is ∙ w.if-first.true))) c.loop-entered.invariant
          ])
      | else-first w ↦ elim w.else-first.branch [
        | else-first-via-then-first+else-from u ↦ subst (IsBestEdge c.args.back gs c.args.needs.now c.args.need (es ++ e ∷ [])) (sym (w.best-is ∙ kept)) (best_skip (λ d. d.offset + c.args.back + slice_index c.args.needs.now d.into ≡ c.args.need) (IsEdgeUpTo gs) es e c.loop-entered.best
            (λ is. absurd (omega (arith, u.from.ensures, u.from-then-first.ensures, u.from-then-first-2.ensures, c.read-below.ensures, u.if-from.false, is))) c.loop-entered.invariant)
        | else-first-via-else-first u ↦ elim c.match-best.branch [
          | in-None v ↦ absurd (let no = sym v.first-is ∙ u.if-first.false in cc)
          | in-Some v ↦ subst (IsBestEdge c.args.back gs c.args.needs.now c.args.need (es ++ e ∷ [])) (sym (w.best-is ∙ kept ∙ v.in-Some.is)) (best_keep (λ d. d.offset + c.args.back + slice_index c.args.needs.now d.into ≡ c.args.need) (IsEdgeUpTo gs) es e v.in-Some.old c.loop-entered.best v.in-Some.is
              (not_less_of (edge_cmp gs e v.in-Some.old) v.is_before-first.result v.is_before-first.ensures (sym v.first-is ∙ u.if-first.false)) c.loop-entered.invariant)
        ]
      ]
    ] in
    best_take (λ d. d.offset + c.args.back + slice_index c.args.needs.now d.into ≡ c.args.need) (IsEdgeUpTo gs) c.args.edges.now c.loop-entered.entered-index no_entry c.if-first.best c.loop-entered-test.true more

pub returns : goal.returns
returns c = best_all (λ d. d.offset + c.args.back + slice_index c.args.needs.now d.into ≡ c.args.need) (IsEdgeUpTo c.args.instances.now) c.args.edges.now c.loop-entered.entered-index c.loop-entered.best c.loop-entered-test.false c.loop-entered.invariant
