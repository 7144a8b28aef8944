use Rattle.std.proofs.Common.{arith, below_more, rules}
use Rattle.abs_state.specs.Order.{IsSlotWithin}
use Rattle.abs_state.proofs.Loops.{slots_within}
use Rattle.abs_state.proofs.state.are_slots_within.Goals as goal
use Rattle.abs_state.proofs.state.are_slots_within.Goals.{in_default-Free, in-Free-Guarded, in-Guarded-Guarded}

pub loop-d-preserved : goal.loop-d-preserved
loop-d-preserved c =
    let le : IsSlotWithin c.index-slots-d.result c.index-others-d.result = elim c.match-others-d.branch [
      | in_default-Free w ↦ search rules
      | in-Free-Guarded w ↦ search rules
      | in-Guarded-Guarded w ↦ search rules
    ] in
    below_more _ _ c.loop-d.invariant
    (slots_within c.args.slots.now c.args.others.now c.loop-d.d c.index-slots-d.result c.index-others-d.result (omega (arith, c.requires, c.loop-d-test.true)) c.loop-d-test.true
    c.index-slots-d.is c.index-others-d.is le)
