-- The size of the flash that the tables fill.
use Rattle.std.proofs.Common.{◌≡◌, refl}
use Rattle.avr_model.specs.Devices.{M328, device_row, limit_of}

pub limit_is : limit_of M328 ≡ 16384
unfolding device_row
limit_is = refl
