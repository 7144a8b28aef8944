use Rattle.std.proofs.Common.{◌≡◌, ◌∙◌, ap, length}
use Rattle.std.proofs.lemmas.List.{length-replicate}
use Rattle.avr_model.specs.Devices.{M328, Image, limit_of}
use Rattle.machine_tables.proofs.Sizes.{limit_is}
use Rattle.machine_tables.proofs.tests.programs.flash_of.Goals as goal

pub loop-a-init : goal.loop-a-init
loop-a-init c = ap (λ (p : Image). length p.words) c.in_ok-flash.ensures.words ∙ length-replicate (limit_of M328) 0xFFFF ∙ limit_is
