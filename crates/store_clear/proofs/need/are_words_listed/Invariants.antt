use Rattle.std.proofs.Common.{◌≡◌, true}
use Rattle.avr_model.specs.Bits.{all_below}
use Rattle.avr_model.specs.Devices.{device_of}
use Rattle.clear_laws.specs.Clear.{is_target_listed}
use Rattle.store_clear.proofs.need.are_words_listed.Given as goal

abbrev pub invariant-loop-z : goal.invariant-loop-z
invariant-loop-z l = all_below l.z (is_target_listed (device_of l.flash) l.state l.listed l.third) ≡ true
