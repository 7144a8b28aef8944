use Rattle.std.proofs.Common.{◌+◌, List, subst, sym}
use Rattle.clear_laws.specs.declared.slots.Condition.{Condition}
use Rattle.store_clear.specs.Conditions.{AreDischarged}
use Rattle.store_clear.proofs.Discharged.{settled_none, settled_more, settled_same}
use Rattle.store_clear.proofs.discharging.discharge.Goals.{in-SlotFree+in_ok-discharge_slot, in_default}
use Rattle.store_clear.proofs.discharging.discharge.Goals as goal

pub loop-at-init : goal.loop-at-init
loop-at-init c = settled_none c.args.frames.now.links c.args.frames.now.offsets c.args.frames.now.seeds c.args.conditions.now

pub loop-at-preserved : goal.loop-at-preserved
loop-at-preserved c =
    let links = c.args.frames.now.links in
    let offsets = c.args.frames.now.offsets in
    let seeds = c.args.frames.now.seeds in
    let at = c.loop-at.at in
    elim c.match-conditions-at.branch [
      | in-SlotFree+in_ok-discharge_slot w ↦
          subst (λ (xs : List Condition). AreDischarged links offsets seeds (at + 1) c.args.conditions.now xs) (sym w.conditions-is)
          (settled_more links offsets seeds at w.in-SlotFree.slot c.args.conditions.now c.loop-at.conditions w.discharge_slot.new.conditions c.loop-at.invariant w.in-SlotFree.is w.in_ok-discharge_slot.ensures)
      | in_default w ↦
          subst (λ (xs : List Condition). AreDischarged links offsets seeds (at + 1) c.args.conditions.now xs) (sym w.conditions-is)
          (settled_same links offsets seeds at c.args.conditions.now c.loop-at.conditions c.loop-at.invariant w.in_default.not-SlotFree)
    ]
