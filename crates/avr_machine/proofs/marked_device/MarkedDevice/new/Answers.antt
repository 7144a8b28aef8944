use Rattle.std.proofs.Common.{◌≤◌, ◌∙◌, ◌||◌, ap, Bool, length, refl, arith}
use Rattle.vector_table.specs.Moving.{has_moving}
use Rattle.avr_machine.proofs.Marking.{unmarked, address_small, marked_too, all_marked}
use Rattle.avr_machine.proofs.marked_device.MarkedDevice.new.Goals as goal

pub loop-place-init : goal.loop-place-init
loop-place-init c = unmarked c.enable_places-place-items.result.now _ refl

pub bounds-marks-from : goal.bounds-marks-from
bounds-marks-from c =
    let small = address_small c.args.device c.enable_places-place-items.result.now c.loop-place.place-index c.from.result _ c.enable_places-place-items.ensures c.loop-place-test.true c.from.ensures in
    let count = c.loop-place.invariant.count in
    omega (arith, small, count)

pub loop-place-preserved : goal.loop-place-preserved
loop-place-preserved c =
    let small = address_small c.args.device c.enable_places-place-items.result.now c.loop-place.place-index c.from.result _ c.enable_places-place-items.ensures c.loop-place-test.true c.from.ensures in
    marked_too c.enable_places-place-items.result.now c.loop-place.place-index c.from.result c.loop-place.marks _ c.loop-place-test.true c.from.ensures small c.loop-place.invariant

pub invariant_of-result : goal.invariant_of-result
invariant_of-result c =
    let last : length c.enable_places-place-items.result.now ≤ c.loop-place.place-index = omega (arith, c.loop-place-test.false) in (
      λ a. c.mark_moving.ensures a ∙ ap (λ (b : Bool). b || has_moving c.args.device a) (all_marked c.args.device c.enable_places-place-items.result.now c.loop-place.place-index c.loop-place.marks c.enable_places-place-items.ensures last c.loop-place.invariant a),
      c.io_base.ensures.exact,
      c.back.ensures.exact,
      c.greatest_sp.ensures,
    )
