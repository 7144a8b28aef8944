use Rattle.std.proofs.Common.{arith, ◌∙◌, sym, ap, ℕ, ◌-◌, ◌+◌, slice_get, drop}
use Rattle.std.specs.List.{filter}
use Rattle.guided_trials.specs.Choosing.{stands}
use Rattle.guided_trials.proofs.Standing.{passed_over, counted}
use Rattle.guided_trials.proofs.choosing.standing.Goals as goal
use Rattle.guided_trials.proofs.choosing.standing.Goals.{then-stands+else-before-number, else-stands}

pub loop-candidate-preserved : goal.loop-candidate-preserved
loop-candidate-preserved c =
    elim c.if-stands.branch [
      | then-stands+else-before-number w ↦ (
        omega (arith, w.before-is, w.if-before-number.false, c.loop-candidate.invariant.0),
        sym
            (counted (stands c.args.menu.now) c.as_slice-candidate-items.result.now c.loop-candidate.candidate-index _ c.loop-candidate-test.true (c.args.number - c.loop-candidate.before) (c.args.number - c.if-stands.before)
            (omega (arith, w.before-is, w.if-before-number.false, c.loop-candidate.invariant.0)) (sym c.stands.ensures ∙ w.if-stands.true))
            ∙ c.loop-candidate.invariant.1,
      )
      | else-stands w ↦ (
        omega (arith, w.before-is, c.loop-candidate.invariant.0),
        ap (λ (b : ℕ). slice_get (filter (stands c.args.menu.now) (drop (c.loop-candidate.candidate-index + 1) c.as_slice-candidate-items.result.now)) (c.args.number - b)) w.before-is
            ∙ sym
            (passed_over (stands c.args.menu.now) c.as_slice-candidate-items.result.now c.loop-candidate.candidate-index _ c.loop-candidate-test.true (c.args.number - c.loop-candidate.before) (sym c.stands.ensures ∙ w.if-stands.false))
            ∙ c.loop-candidate.invariant.1,
      )
    ]
