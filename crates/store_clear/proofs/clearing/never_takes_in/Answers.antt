use Rattle.std.proofs.Common.{◌∙◌, ap, length, arith}
use Rattle.std.proofs.lemmas.Result.{IfOk-weaker}
use Rattle.avr_model.specs.Image.{WORDS}
use Rattle.store_clear.proofs.Lists.{written_back}
use Rattle.store_clear.proofs.Taken.{nevers_given}
use Rattle.store_clear.proofs.clearing.never_takes_in.Goals as goal
use Rattle.family_edges.specs.Tasks.{task_of}

pub returns : goal.returns
returns c =
    let back =
    c.deref.ensures.value
    ∙ written_back c.in_ok-marks.marks.len c.mark_takes.new.marks c.in_ok-marks.marks.items
    (let same = c.mark_takes.ensures.same in let value = ap length c.as_mut_slice.ensures.value in let size = c.in_ok-marks.marks.ok.0 in omega (arith, same, value, size)) in
    record {
      exact = IfOk-weaker c.places.result _ _
          (λ nevers are claim filled.
          nevers_given (task_of c.args.task.now) claim c.args.nodes.now filled c.in_ok-marks.marks.items c.as_mut_slice.result.now c.mark_takes.new.marks
          c.deref.result.now WORDS nevers (c.in_ok-marks.ensures.items_if_clones_equal (λ y e. e)) c.as_mut_slice.ensures.value c.mark_takes.ensures back are)
          c.places.ensures;
    }
