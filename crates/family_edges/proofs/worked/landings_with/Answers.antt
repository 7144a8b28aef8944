use Rattle.std.proofs.Common.{◌≡◌, ◌+◌, ◌<◌, ◌∙◌, ap, sym, subst, arith, length, List}
use Rattle.basics.specs.Lists.{get_inside}
use Rattle.family_edges.specs.declared.landing.Landing.{Landing}
use Rattle.family_edges.specs.Landings.{landings_by, AreLandingsTo}
use Rattle.family_edges.proofs.Landed.{landed_none, landed_more, landed_all}
use Rattle.family_edges.proofs.worked.landings_with.Goals as goal
use Rattle.family_edges.specs.Tasks.{task_of}

pub loop-at-init : goal.loop-at-init
loop-at-init c =
    subst (AreLandingsTo (task_of c.args.task.now) c.args.nodes.now 0) (sym c.empty-all.ensures)
    (landed_none (task_of c.args.task.now) c.args.nodes.now)

pub loop-at-preserved : goal.loop-at-preserved
loop-at-preserved c =
    let nodes = c.args.nodes.now in
    let lt : c.loop-at.at < length nodes = omega (arith, c.loop-at-test.true, c.count-at-end.ensures.count) in
    let n = get_inside nodes c.loop-at.at lt in
    let edges = c.in_ok-edges.edges in
    subst (λ (xs : List (List Landing)). AreLandingsTo (task_of c.args.task.now) nodes (c.loop-at.at + 1) xs) (sym c.in_ok-push.ensures.ok)
    (landed_more (task_of c.args.task.now) nodes c.loop-at.at c.loop-at.all n.0 edges c.in_ok-landings.landings c.loop-at.invariant n.1
    (c.in_ok-edges.ensures n.0 n.1) (c.in_ok-landings.ensures ∙ ap (landings_by nodes) c.as_slice.ensures))

pub returns : goal.returns
returns c =
    let nodes = c.args.nodes.now in
    let full : c.loop-at.at ≡ length nodes = omega (arith, c.loop-at-test.false, c.loop-at.auto.at-end, c.count-at-end.ensures.count) in
    landed_all (task_of c.args.task.now) nodes c.loop-at.at c.loop-at.all c.requires.taken.faultless c.loop-at.invariant full
