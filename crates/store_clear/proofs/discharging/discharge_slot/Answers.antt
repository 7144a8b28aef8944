use Rattle.std.proofs.Common.{arith}
use Rattle.store_clear.proofs.Discharged.{is_settled, inside_as, reached_as}
use Rattle.store_clear.proofs.discharging.discharge_slot.Goals as goal

pub reached-requires : goal.reached-requires
reached-requires c =
    inside_as c.args.frames.now.links c.as_slice-links.result.now c.args.frames.now.offsets c.as_slice-offsets.result.now c.args.frames.now.seeds c.as_slice.result.now
    c.as_slice-links.ensures c.as_slice-offsets.ensures c.as_slice.ensures c.requires.inside

pub mark_off-requires : goal.mark_off-requires
mark_off-requires c =
    let reached =
    reached_as c.args.frames.now.links c.as_slice-links.result.now c.args.frames.now.offsets c.as_slice-offsets.result.now c.args.frames.now.seeds c.as_slice.result.now c.args.slot
    c.in_ok-marks.marks.items c.deref.result.now c.as_slice-links.ensures c.as_slice-offsets.ensures c.as_slice.ensures c.deref.ensures.value c.in_ok-marks.ensures in
    omega (arith, reached.count, c.requires.same)

pub returns : goal.returns
returns c =
    let reached =
    reached_as c.args.frames.now.links c.as_slice-links.result.now c.args.frames.now.offsets c.as_slice-offsets.result.now c.args.frames.now.seeds c.as_slice.result.now c.args.slot
    c.in_ok-marks.marks.items c.deref.result.now c.as_slice-links.ensures c.as_slice-offsets.ensures c.as_slice.ensures c.deref.ensures.value c.in_ok-marks.ensures in
    is_settled c.args.frames.now.links c.args.frames.now.offsets c.args.frames.now.seeds c.args.slot c.deref.result.now reached c.args.conditions.now c.mark_off.new.conditions c.mark_off.ensures
