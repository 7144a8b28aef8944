use Rattle.std.proofs.Common.{◌≡◌, ◌+◌, ◌<◌, ◌∙◌, ap, sym, subst, arith, length, get_or, List, ℕ}
use Rattle.basics.specs.Lists.{get_inside}
use Rattle.family_edges.specs.declared.landing.Landing.{Landing}
use Rattle.family_graph.specs.Graphs.{AreWaysTo}
use Rattle.family_graph.proofs.Ways.{ways_none, ways_more, ways_of_at, landing_inside}
use Rattle.family_graph.proofs.entering.entered_by.Goals as goal
use Rattle.family_edges.specs.Tasks.{task_of}

pub loop-at-init : goal.loop-at-init
loop-at-init c =
    subst (AreWaysTo (task_of c.args.task.now) c.args.family.now.nodes 0) (sym c.empty-all.ensures)
    (ways_none (task_of c.args.task.now) c.args.family.now.nodes)

pub ways_of-requires : goal.ways_of-requires
ways_of-requires c =
    let task = task_of c.args.task.now in
    let nodes = c.args.family.now.nodes in
    let all = c.args.family.now.landings in
    let same = c.as_slice-landings.ensures in
    let lt : c.loop-at.at < length all = subst (λ (xs : List (List Landing)). c.loop-at.at < length xs) same c.loop-at-test.true in
    let n = get_inside nodes c.loop-at.at (omega (arith, lt, c.requires.landings.are.count_is)) in
    landing_inside task nodes n.0 c.as_slice.result.now
    (ways_of_at task nodes all c.requires.landings c.loop-at.at n.0 n.1 c.index-landings-at.result c.as_slice.result.now
    (c.index-landings-at.is ∙ ap (λ (xs : List (List Landing)). get_or xs c.loop-at.at c.index-landings-at.result) same) c.as_slice.ensures)

pub loop-at-preserved : goal.loop-at-preserved
loop-at-preserved c =
    let task = task_of c.args.task.now in
    let nodes = c.args.family.now.nodes in
    let all = c.args.family.now.landings in
    let same = c.as_slice-landings.ensures in
    let lt : c.loop-at.at < length all = subst (λ (xs : List (List Landing)). c.loop-at.at < length xs) same c.loop-at-test.true in
    let n = get_inside nodes c.loop-at.at (omega (arith, lt, c.requires.landings.are.count_is)) in
    subst (AreWaysTo task nodes (c.loop-at.at + 1)) (sym c.in_ok-push.ensures.ok)
    (ways_more task nodes c.requires.peopled c.loop-at.at c.loop-at.all n.0 c.as_slice.result.now c.in_ok-ways.ways c.loop-at.invariant n.1
    (ways_of_at task nodes all c.requires.landings c.loop-at.at n.0 n.1 c.index-landings-at.result c.as_slice.result.now
    (c.index-landings-at.is ∙ ap (λ (xs : List (List Landing)). get_or xs c.loop-at.at c.index-landings-at.result) same) c.as_slice.ensures) c.in_ok-ways.ensures)

pub returns : goal.returns
returns c =
    let task = task_of c.args.task.now in
    let nodes = c.args.family.now.nodes in
    let same : length c.as_slice-landings.result.now ≡ length c.args.family.now.landings = ap length c.as_slice-landings.ensures in
    let full : c.loop-at.at ≡ length nodes = omega (arith, c.loop-at-test.false, c.loop-at.auto.at-end, same, c.requires.landings.are.count_is) in
    subst (λ (k : ℕ). AreWaysTo task nodes k c.loop-at.all) full c.loop-at.invariant
