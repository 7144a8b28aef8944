use Rattle.std.proofs.Common.{◌≡◌, ◌++◌, ◌∷◌, [], ◌∙◌, take, get_or, sym, subst, arith}
use Rattle.std.proofs.lemmas.Bool.Decides.{nat_tests}
use Rattle.instance_graph.specs.Chain.{IsNodeUpTo}
use Rattle.instance_graph.specs.Turn.{IsBestNode}
use Rattle.instance_graph.proofs.Best.{best_take, best_all, best_skip, best_first, best_less, best_keep}
use Rattle.instance_graph.proofs.Table.{no_node}
use Rattle.instance_graph.proofs.chaining.best_node.Goals as goal
use Rattle.instance_graph.proofs.chaining.best_node.Goals.{in-None, in-Some, then-first+then-from-need, else-first, else-first-via-then-first+else-from-need, else-first-via-else-first}

pub loop-closed-preserved : goal.loop-closed-preserved
loop-closed-preserved c =
    let ps = take c.loop-closed.closed-index c.args.nodes.now in
    let p = get_or c.args.nodes.now c.loop-closed.closed-index no_node in
    let kept : c.match-best.best ≡ c.loop-closed.best = elim c.match-best.branch [ in-None v ↦ v.best-is | in-Some v ↦ v.best-is ∙ sym v.in-Some.is ] in
    let more : IsBestNode c.args.need (ps ++ p ∷ []) c.if-first.best = elim c.if-first.branch [
      | then-first+then-from-need w ↦ subst (IsBestNode c.args.need (ps ++ p ∷ [])) (sym w.best-is) (elim c.match-best.branch [
        | in-None v ↦ best_first (λ q. q.offset ≡ c.args.need) IsNodeUpTo ps p c.loop-closed.best v.in-None.is (sym w.from.ensures ∙ w.if-from-need.true) (omega arith) c.loop-closed.invariant
        | in-Some v ↦ best_less (λ q. q.offset ≡ c.args.need) IsNodeUpTo ps p v.in-Some.old c.loop-closed.best v.in-Some.is (sym w.from.ensures ∙ w.if-from-need.true) (omega arith)
            (λ z up. let less = sym v.first-is ∙ w.if-first.true in grind (arith, nat_tests)) c.loop-closed.invariant
      ])
      | else-first w ↦ elim w.else-first.branch [
        | else-first-via-then-first+else-from-need u ↦ subst (IsBestNode c.args.need (ps ++ p ∷ [])) (sym (w.best-is ∙ kept)) (best_skip (λ q. q.offset ≡ c.args.need) IsNodeUpTo ps p c.loop-closed.best (λ is. absurd (omega (arith, u.if-from-need.false, u.from.ensures, is))) c.loop-closed.invariant)
        | else-first-via-else-first u ↦ elim c.match-best.branch [
          | in-None v ↦ absurd (let no = sym v.first-is ∙ u.if-first.false in cc)
          | in-Some v ↦ subst (IsBestNode c.args.need (ps ++ p ∷ [])) (sym (w.best-is ∙ kept ∙ v.in-Some.is)) (best_keep (λ q. q.offset ≡ c.args.need) IsNodeUpTo ps p v.in-Some.old c.loop-closed.best v.in-Some.is (let no = sym v.first-is ∙ u.if-first.false in grind (arith, nat_tests)) c.loop-closed.invariant)
        ]
      ]
    ] in
    best_take (λ q. q.offset ≡ c.args.need) IsNodeUpTo c.args.nodes.now c.loop-closed.closed-index no_node c.if-first.best c.loop-closed-test.true more

pub returns : goal.returns
returns c = best_all (λ p. p.offset ≡ c.args.need) IsNodeUpTo c.args.nodes.now c.loop-closed.closed-index c.loop-closed.best c.loop-closed-test.false c.loop-closed.invariant
