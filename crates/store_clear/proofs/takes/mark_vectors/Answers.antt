use Rattle.std.proofs.Common.{◌∙◌, ◌+◌, ℕ, List, Bool, true, set, ap, subst, sym, arith}
use Rattle.avr_model.proofs.AllLaws.{devices_are_alike}
use Rattle.avr_model.specs.Vectors.{last_vector, vector_word}
use Rattle.store_clear.specs.Takes.{AreMarkedBeside, IsTakenBelow}
use Rattle.store_clear.proofs.Taken.{vectors_none, vectors_more, vectors_same}
use Rattle.store_clear.proofs.takes.mark_vectors.Goals.{then-is_take, else-is_take}
use Rattle.store_clear.proofs.takes.mark_vectors.Goals as goal
use Rattle.family_edges.specs.Tasks.{task_of}

-- a vector's word is one of flash
pub bounds-marks-vector_word : goal.bounds-marks-vector_word
bounds-marks-vector_word c =
    let inside = devices_are_alike.vectors c.device-device.result (c.loop-n.n + 2) (omega (arith, c.loop-n-test.true)) in
    let most = devices_are_alike.most_words c.device-device.result in
    omega (arith, inside, most, c.vector_word.ensures, c.loop-n.invariant.same, c.requires)

pub loop-n-init : goal.loop-n-init
loop-n-init c = vectors_none (task_of c.args.task.now) c.args.key.now c.args.marks.now

pub loop-n-preserved : goal.loop-n-preserved
loop-n-preserved c =
    let task = task_of c.args.task.now in
    elim c.if-is_take.branch [
      | then-is_take w ↦
          subst (λ (xs : List Bool). AreMarkedBeside (IsTakenBelow task c.args.key.now (c.loop-n.n + 1)) c.args.marks.now xs)
          (sym (w.marks-is ∙ ap (λ (i : ℕ). set c.loop-n.marks i true) (w.vector_word.ensures ∙ ap (λ d. vector_word d (c.loop-n.n + 2)) c.device-device.ensures)))
          (vectors_more task c.args.key.now c.loop-n.n c.args.marks.now c.loop-n.marks (omega (arith, c.loop-n-test.true, ap last_vector c.device-device.ensures)) c.loop-n.invariant
          (omega (arith, c.loop-n.invariant.same, c.requires)) (sym c.is_take.ensures ∙ w.if-is_take.true))
      | else-is_take w ↦
          subst (λ (xs : List Bool). AreMarkedBeside (IsTakenBelow task c.args.key.now (c.loop-n.n + 1)) c.args.marks.now xs) (sym w.marks-is)
          (vectors_same task c.args.key.now c.loop-n.n c.args.marks.now c.loop-n.marks (omega (arith, c.loop-n-test.true, ap last_vector c.device-device.ensures)) c.loop-n.invariant (sym c.is_take.ensures ∙ w.if-is_take.false))
    ]
