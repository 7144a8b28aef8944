use Rattle.std.proofs.Common.{◌≡◌, ◌∙◌, ◌+◌, ℕ, sym, ap, refl, subst, arith, length, List, Some, slice_get}
use Rattle.std.proofs.lemmas.Option.{slice_get_read}
use Rattle.instance_graph.specs.declared.graph.Entered.{Entered}
use Rattle.family_graph.specs.Numbers.{AreRecurs}
use Rattle.family_graph.proofs.Adding.{recurs_none, recurs_past, recurs_more}
use Rattle.family_graph.proofs.building.add_recurs.Goals as goal
use Rattle.family_graph.proofs.building.add_recurs.Goals.{in-Some+in_ok-push, in_default}

pub loop-into-init : goal.loop-into-init
loop-into-init c = recurs_none c.args.task.now.assumptions.now c.args.insts.now c.args.behind c.args.entered.now.items

pub loop-into-preserved : goal.loop-into-preserved
loop-into-preserved c =
    let A = c.args.task.now.assumptions.now in
    let insts = c.args.insts.now in
    let inst = c.index-insts-into.result in
    let here : slice_get insts c.loop-into.into ≡ Some inst = slice_get_read insts (length insts) c.loop-into.into inst refl c.loop-into-test.true c.index-insts-into.is in
    elim c.match-cut.branch [
      | in-Some+in_ok-push w ↦
          subst (AreRecurs A insts c.args.behind (c.loop-into.into + 1) c.args.entered.now.items) (sym (ap (λ v. v.items) w.entered-is ∙ w.in_ok-push.ensures.items))
          (recurs_more A insts c.args.behind c.loop-into.into w.in-Some.depth inst here (sym c.cut.ensures ∙ w.in-Some.is) c.args.entered.now.items c.loop-into.entered.items c.loop-into.invariant)
      | in_default w ↦
          subst (AreRecurs A insts c.args.behind (c.loop-into.into + 1) c.args.entered.now.items) (sym (ap (λ v. v.items) w.entered-is))
          (recurs_past A insts c.args.behind c.loop-into.into inst here (sym c.cut.ensures ∙ w.in_default.is) c.args.entered.now.items c.loop-into.entered.items c.loop-into.invariant)
    ]

pub returns : goal.returns
returns c =
    let end : c.loop-into.into ≡ length c.args.insts.now = omega (arith, c.loop-into-test.false, c.loop-into.auto.into-end) in
    subst (λ (n : ℕ). AreRecurs c.args.task.now.assumptions.now c.args.insts.now c.args.behind n c.args.entered.now.items c.loop-into.entered.items) end c.loop-into.invariant
