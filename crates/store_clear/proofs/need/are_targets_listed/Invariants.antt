use Rattle.std.proofs.Common.{◌≡◌, true}
use Rattle.avr_model.specs.Bits.{all_below}
use Rattle.avr_model.specs.Devices.{device_of}
use Rattle.clear_laws.specs.Clear.{is_bank_listed}
use Rattle.store_clear.proofs.need.are_targets_listed.Given as goal

abbrev pub invariant-loop-third : goal.invariant-loop-third
invariant-loop-third l = all_below l.third (is_bank_listed (device_of l.flash) l.state l.bank l.listed) ≡ true
