-- The registers that tags name.
use Rattle.std.proofs.Common.{ℕ, ◌<◌, ◌≡◌, ◌==◌, ◌&&◌, ◌||◌, Bool, true, false, refl, arith, nat_lt}
use Rattle.std.proofs.lemmas.Bool.{eqb-true}
use Rattle.std.proofs.lemmas.Bool.Decides.{nat_tests}
use Rattle.avr_model.specs.declared.device.Device.{Device}
use Rattle.avr_model.specs.Devices.{has_elpm, has_eijmp}
use Rattle.avr_model.specs.State.{has_register}

below_by : (r : ℕ) (elpm eijmp low z e : Bool) → nat_lt r 32 ≡ low → (r == 32) ≡ z → (r == 33) ≡ e → (low || ((z && elpm) || (e && eijmp))) ≡ true → r < 34
below_by r elpm eijmp true z e is first second h = grind (arith, nat_tests, is)
below_by r elpm eijmp false true e is first second h = omega (arith, eqb-true r 32 first)
below_by r elpm eijmp false false true is first second h = omega (arith, eqb-true r 33 second)
below_by r elpm eijmp false false false is first second h = cc

-- a register of a device is one of 34
pub register_below : (device : Device) (r : ℕ) → has_register device r ≡ true → r < 34
register_below device r h = below_by r (has_elpm device) (has_eijmp device) (nat_lt r 32) (r == 32) (r == 33) refl refl refl h
