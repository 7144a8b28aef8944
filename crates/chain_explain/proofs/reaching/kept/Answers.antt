use Rattle.std.proofs.Common.{◌<◌, ◌++◌, ◌∷◌, [], ◌∙◌, ap, sym, arith, length, true, false, append-nil, Vec, Global}
use Rattle.basics.specs.Lists.{get_inside}
use Rattle.local_rules.specs.declared.local.Node.{Node}
use Rattle.chain_explain.proofs.Marks.{kept_next, kept_whole, kept_shown}
use Rattle.chain_explain.proofs.Stepped.{node_is, read_at}
use Rattle.chain_explain.proofs.reaching.kept.Goals as goal
use Rattle.chain_explain.proofs.reaching.kept.Goals.{then-marks-at+in_ok-copy+in_ok-push, else-marks-at}

pub loop-at-preserved : goal.loop-at-preserved
loop-at-preserved c =
    let nodes = c.args.nodes.now in
    let at = c.loop-at.at in
    let lt : at < length nodes = omega (arith, c.loop-at-test.true, c.count-at-end.ensures.count) in
    let lt_marks : at < length c.args.marks.now = omega (arith, lt, c.requires) in
    let n = get_inside nodes at lt in
    elim c.if-marks-at.branch [
      | then-marks-at+in_ok-copy+in_ok-push w ↦
          kept_next c.args.marks.now nodes c.loop-at.kept.items c.if-marks-at.kept.items at true n.0 (read_at c.args.marks.now at true _ lt_marks w.if-marks-at.true) n.1 c.loop-at.invariant
          (ap (λ (v : Vec Node Global). v.items) w.kept-is
          ∙ (w.in_ok-push.ensures.items
          ∙ ap (λ (x : Node). c.loop-at.kept.items ++ x ∷ []) (node_is nodes at n.0 n.1 w.key.result.now w.state.result.now _ w.key.ensures w.state.ensures w.in_ok-copy.ensures)))
      | else-marks-at w ↦
          kept_next c.args.marks.now nodes c.loop-at.kept.items c.if-marks-at.kept.items at false n.0 (read_at c.args.marks.now at false _ lt_marks w.if-marks-at.false) n.1 c.loop-at.invariant
          (ap (λ (v : Vec Node Global). v.items) w.kept-is ∙ sym (append-nil c.loop-at.kept.items))
    ]

pub new-requires : goal.new-requires
new-requires c =
    let whole = kept_whole c.args.marks.now c.args.nodes.now c.loop-at.kept.items c.loop-at.at (omega (arith, c.loop-at-test.false, c.count-at-end.ensures.count)) c.loop-at.invariant in
    let shown = c.count-at-end.ensures.shown in
    (shown.0, kept_shown c.args.marks.now c.args.nodes.now c.loop-at.kept.items whole shown.1)
