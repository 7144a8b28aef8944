use Rattle.std.proofs.Common.{subst}
use Rattle.avr_model.specs.Devices.{image_of}
use Rattle.avr_decode.specs.Reading.{AreReadings}
use Rattle.flash_image.proofs.image.Flash.decode.Goals as goal

pub invariant_of-self : goal.invariant_of-self
invariant_of-self c = (c.self.invariant.0, subst (λ w. AreReadings (image_of c.self.inside.device w) c.in-Ok.readings.items) c.deref.ensures.value c.in-Ok.ensures, c.self.invariant.2)
