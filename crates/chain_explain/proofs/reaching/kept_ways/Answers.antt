use Rattle.std.proofs.Common.{◌<◌, ◌++◌, ◌∷◌, [], ◌∙◌, ap, sym, subst, arith, length, true, false, append-nil, List}
use Rattle.std.proofs.lemmas.Option.{get_or_from_slice_get}
use Rattle.basics.specs.Lists.{get_inside}
use Rattle.family_graph.specs.declared.entering.Entering.{Entering}
use Rattle.family_graph.specs.Graphs.{AreWays}
use Rattle.chain_explain.specs.Moves.{kept_by}
use Rattle.chain_explain.proofs.Marks.{kept_next, kept_whole, ways_kept}
use Rattle.chain_explain.proofs.Stepped.{read_at}
use Rattle.chain_explain.proofs.reaching.kept_ways.Goals as goal
use Rattle.chain_explain.proofs.reaching.kept_ways.Goals.{then-marks-at+in_ok-to_vec+in_ok-push, else-marks-at}
use Rattle.family_edges.specs.Tasks.{task_of}

pub loop-at-preserved : goal.loop-at-preserved
loop-at-preserved c =
    let marks = c.args.marks.now in
    let ways = c.as_slice-ways.result.now in
    let at = c.loop-at.at in
    let lt : at < length ways = c.loop-at-test.true in
    let same = ap length c.as_slice-ways.ensures in
    let lt_marks : at < length marks = omega (arith, lt, same, c.in_ok-all.ensures.count_is, c.requires.count) in
    let n = get_inside ways at lt in
    elim c.if-marks-at.branch [
      | then-marks-at+in_ok-to_vec+in_ok-push w ↦
          let new = w.new.ensures ∙ (w.in_ok-to_vec.ensures.items_if_clones_equal (λ x y e. e) ∙ (w.as_slice.ensures ∙ (w.index-ways-at.is ∙ get_or_from_slice_get ways at n.0 w.index-ways-at.result n.1))) in
          kept_next marks ways c.loop-at.kept c.if-marks-at.kept at true n.0 (read_at marks at true _ lt_marks w.if-marks-at.true) n.1 c.loop-at.invariant
          (w.kept-is ∙ (w.in_ok-push.ensures.ok ∙ ap (λ (xs : List Entering). c.loop-at.kept ++ xs ∷ []) new))
      | else-marks-at w ↦
          kept_next marks ways c.loop-at.kept c.if-marks-at.kept at false n.0 (read_at marks at false _ lt_marks w.if-marks-at.false) n.1 c.loop-at.invariant
          (w.kept-is ∙ sym (append-nil c.loop-at.kept))
    ]

pub returns : goal.returns
returns c =
    let task = task_of c.args.task.now in
    let nodes = c.args.family.now.nodes in
    let marks = c.args.marks.now in
    let same = c.as_slice-ways.ensures in
    let whole = kept_whole marks c.as_slice-ways.result.now c.loop-at.kept c.loop-at.at (omega (arith, c.loop-at-test.false)) c.loop-at.invariant in
    subst (AreWays task (kept_by marks nodes)) (sym (whole ∙ ap (λ (xs : List (List Entering)). kept_by marks xs) same)) (ways_kept task marks nodes c.in_ok-all.all c.in_ok-all.ensures)
