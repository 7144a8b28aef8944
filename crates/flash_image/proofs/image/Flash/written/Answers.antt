use Rattle.std.proofs.Common.{arith}
use Rattle.avr_model.proofs.AllLaws.{devices_are_alike}
use Rattle.flash_image.proofs.image.Flash.written.Goals as goal

pub overflow_cast-result : goal.overflow_cast-result
overflow_cast-result c = omega (arith, c.written.ensures.within, c.deref.ensures.len, c.self.invariant.0, devices_are_alike.most_words c.self.inside.device)
