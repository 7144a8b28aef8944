use Rattle.std.proofs.Common.{◌≡◌, ◌-◌, false}
use Rattle.avr_model.specs.Bits.{any_below}
use Rattle.avr_model.specs.Devices.{ramend, device_of}
use Rattle.clear_laws.specs.Aims.{may_write}
use Rattle.store_clear.proofs.writes.may_write_stack.Given as goal

abbrev pub invariant-loop-depth : goal.invariant-loop-depth
invariant-loop-depth l = any_below l.depth (λ d. may_write l.state l.instr (ramend (device_of l.flash) - d)) ≡ false
