use Rattle.std.proofs.Common.{◌∙◌, sym, ap}
use Rattle.avr_model.specs.declared.device.Device.{Device}
use Rattle.avr_model.specs.Masks.{is_flagged_write}
use Rattle.avr_model.specs.Vectors.{is_protected}
use Rattle.avr_machine.proofs.Unflagged.{fixed_site, not_flagged, not_protected}
use Rattle.avr_machine.proofs.flags.protected_at.Goals as goal
use Rattle.avr_machine.proofs.flags.protected_at.Goals.{else-is_guarded-via-then-is_guarded+then-is_flagged_write+else-not-is_fixed_site, else-is_guarded-via-then-is_guarded+else-is_flagged_write, else-is_guarded-via-else-is_guarded}

pub returns-else-is_guarded : goal.returns-else-is_guarded
returns-else-is_guarded c =
    elim c.else-is_guarded.branch [
      | else-is_guarded-via-then-is_guarded+then-is_flagged_write+else-not-is_fixed_site w ↦
          fixed_site c.args.firmware.now.flash.now c.args.firmware.now.assumptions.now c.args.site c.args.write (sym w.is_fixed_site.ensures ∙ w.if-not-is_fixed_site.false)
      | else-is_guarded-via-then-is_guarded+else-is_flagged_write w ↦
          not_flagged c.args.firmware.now.flash.now c.args.firmware.now.assumptions.now c.args.site c.args.write
          (ap (λ (d : Device). is_flagged_write d c.args.firmware.now.assumptions.now c.args.site c.args.write.address c.args.write.byte) (sym w.device-then-is_guarded.ensures)
          ∙ sym w.is_flagged_write.ensures ∙ w.if-is_flagged_write.false)
      | else-is_guarded-via-else-is_guarded w ↦
          not_protected c.args.firmware.now.flash.now c.args.firmware.now.assumptions.now c.args.site c.args.write (ap (λ (d : Device). is_protected d c.args.write.address) (sym c.device.ensures) ∙ sym c.is_guarded.ensures ∙ w.if-is_guarded.false)
    ]
