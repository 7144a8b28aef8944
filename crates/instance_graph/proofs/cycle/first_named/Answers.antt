use Rattle.std.proofs.Common.{◌+◌, refl, sym, subst}
use Rattle.instance_graph.specs.Search.{AreLayers, IsNamedBelow}
use Rattle.instance_graph.proofs.Naming.{named_skip}
use Rattle.instance_graph.proofs.cycle.first_named.Goals as goal
use Rattle.instance_graph.proofs.cycle.first_named.Goals.{then-is_candidate+then-not-is_behind+in_ok-reaches+then-reaches, then-is_candidate+then-not-is_behind+in_ok-reaches+else-reaches, else-is_candidate, else-is_candidate-via-then-is_candidate+else-not-is_behind, else-is_candidate-via-else-is_candidate}

pub guess-requires-clause-layers : goal.guess-requires-clause-layers
guess-requires-clause-layers c = subst (AreLayers c.args.graph.now) (sym c.as_slice-numbers.ensures.value) c.in_ok-layers.ensures

pub is_candidate-requires-clause-layers : goal.is_candidate-requires-clause-layers
is_candidate-requires-clause-layers c = subst (AreLayers c.args.graph.now) (sym c.as_slice-numbers.ensures.value) c.in_ok-layers.ensures

pub loop-i-preserved : goal.loop-i-preserved
loop-i-preserved c =
    let gs = c.args.graph.now in
    elim c.if-is_candidate.branch [
      | then-is_candidate+then-not-is_behind+in_ok-reaches+then-reaches w ↦ subst (IsNamedBelow gs (c.loop-i.i + 1)) (sym w.best-is) (w.if-not-is_behind.ensures.no refl (w.in_ok-reaches.ensures.yes w.if-reaches.true))
      | then-is_candidate+then-not-is_behind+in_ok-reaches+else-reaches w ↦ subst (IsNamedBelow gs (c.loop-i.i + 1)) (sym w.best-is) (named_skip gs c.loop-i.i c.loop-i.best (w.in_ok-reaches.ensures.no w.if-reaches.false) c.loop-i.invariant)
      | else-is_candidate w ↦ subst (IsNamedBelow gs (c.loop-i.i + 1)) (sym w.best-is) (elim w.else-is_candidate.branch [
        | else-is_candidate-via-then-is_candidate+else-not-is_behind u ↦ u.if-not-is_behind.ensures.yes refl
        | else-is_candidate-via-else-is_candidate u ↦ named_skip gs c.loop-i.i c.loop-i.best (c.is_candidate.ensures u.if-is_candidate.false) c.loop-i.invariant
      ])
    ]
