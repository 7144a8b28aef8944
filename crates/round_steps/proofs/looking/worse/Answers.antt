use Rattle.std.proofs.Common.{◌∙◌, sym, arith}
use Rattle.round_steps.proofs.Seeing.{worst_lesser}
use Rattle.round_steps.proofs.looking.worse.Goals as goal
use Rattle.round_steps.proofs.looking.worse.Goals.{then-cause+else-word+else-word-2, else-cause}

pub returns : goal.returns
returns c =
    worst_lesser c.args.worst c.in-Some.other c.args.fault c.lesser.result c.in-Some.is c.lesser.ensures
    (elim c.if-cause.branch [
      | then-cause+else-word+else-word-2 w ↦ λ same. omega (arith, w.word.ensures, w.word-then-cause.ensures, w.word-then-cause-2.ensures, w.word-then-cause-3.ensures, w.if-word.false, w.if-word-2.false)
      | else-cause w ↦ λ same. absurd (w.if-cause.false (c.cause.ensures ∙ same ∙ sym c.cause-2.ensures))
    ])
