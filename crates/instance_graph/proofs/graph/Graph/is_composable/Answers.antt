use Rattle.std.proofs.Common.{refl, sym, subst, length, arith}
use Rattle.std.proofs.lemmas.Option.{slice_get_read}
use Rattle.instance_graph.specs.Graph.{IsGraph}
use Rattle.instance_graph.proofs.Tested.{composable_more, composable_upto, not_low, not_inside}
use Rattle.instance_graph.proofs.graph.Graph.is_composable.Goals as goal

pub returns-then-not-are_low-clause-no : goal.returns-then-not-are_low-clause-no
returns-then-not-are_low-clause-no c = λ _ graph.
    let gs = c.as_slice-instances.result.now in
    let is = slice_get_read gs (length gs) c.loop-i.i c.index-instances-i.result refl c.loop-i-test.true c.index-instances-i.is in
    let high = c.are_low.ensures.no c.if-not-are_low.true in
    not_low gs c.loop-i.i c.index-instances-i.result is c.as_slice.result.now c.as_slice.ensures high.0 high.1 high.2 (subst IsGraph (sym c.as_slice-instances.ensures) graph)

pub returns-then-not-lead_inside-clause-no : goal.returns-then-not-lead_inside-clause-no
returns-then-not-lead_inside-clause-no c = λ _ graph.
    let gs = c.as_slice-instances.result.now in
    let is = slice_get_read gs (length gs) c.loop-i.i c.index-instances-i.result refl c.loop-i-test.true c.index-instances-i.is in
    let out = c.lead_inside.ensures.no c.if-not-lead_inside.true in
    not_inside gs c.loop-i.i c.index-instances-i.result is c.as_slice-in-loop-i.result.now c.as_slice-in-loop-i.ensures out.0 out.1 out.2 (subst IsGraph (sym c.as_slice-instances.ensures) graph)

pub loop-i-preserved : goal.loop-i-preserved
loop-i-preserved c =
    let gs = c.as_slice-instances.result.now in
    let is = slice_get_read gs (length gs) c.loop-i.i c.index-instances-i.result refl c.loop-i-test.true c.index-instances-i.is in
    composable_more gs c.loop-i.i c.index-instances-i.result is c.as_slice.result.now c.as_slice-in-loop-i.result.now c.as_slice.ensures c.as_slice-in-loop-i.ensures
    (c.are_low.ensures.yes c.if-not-are_low.false) (c.lead_inside.ensures.yes c.if-not-lead_inside.false) c.loop-i.invariant

pub returns-clause-yes : goal.returns-clause-yes
returns-clause-yes c = λ _.
    let gs = c.as_slice-instances.result.now in
    subst IsGraph c.as_slice-instances.ensures (composable_upto gs c.loop-i.i (omega (arith, c.if-count-eq0.false)) (omega (arith, c.if-count-gt-MOST_INSTANCES.false)) c.loop-i-test.false c.loop-i.invariant)
