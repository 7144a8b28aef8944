-- Vectors that a store through a pointer may enable, place by place.
use Rattle.std.proofs.Common.{ℕ, ◌&&◌, not, Bool, List}
use Rattle.avr_model.specs.declared.device.Device.{Device}
use Rattle.avr_model.specs.declared.rows.EnablePlace.{EnablePlace}
use Rattle.avr_model.specs.declared.assumption.Entry.{Entry}
use Rattle.avr_model.specs.Masks.{is_barred}
use Rattle.bit_domain.specs.declared.bytes.TriByte.{TriByte}
use Rattle.node_keys.specs.Wakes.{may_enable}

abbrev pub may_wake_other : Device → List Entry → (ℕ → Bool) → TriByte → EnablePlace → Bool
may_wake_other device A reaches value p = reaches p.address && may_enable value p && not (is_barred device A p.vector)
