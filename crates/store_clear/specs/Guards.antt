-- Which writes a store is flagged for, once the lines of its site are looked up. Definitions for the contracts of internal functions.
use Rattle.std.specs.Prelude.{ℕ, ◌≡◌, ◌&&◌, ◌||◌, Bool, false, not, List}
use Rattle.avr_model.specs.declared.assumption.Entry.{Entry}
use Rattle.avr_model.specs.declared.device.Device.{Device}
use Rattle.avr_model.specs.Assumptions.{lists}
use Rattle.avr_model.specs.Devices.{device_of}
use Rattle.avr_model.specs.Vectors.{is_core, is_protected}
use Rattle.node_keys.specs.Wakes.{may_enable_barred}
use Rattle.local_rules.specs.Site.{Task}
use Rattle.clear_laws.specs.Clear.{Store, is_flagged_address}
use Rattle.store_clear.specs.declared.guards.Guard.{Guard}
use Rattle.store_clear.specs.declared.guards.Guard.TheVariants.{Nothing, Barred, Unlisted}

-- the guard flags a write of this address
abbrev pub flags : Device → List Entry → Guard → ℕ → Bool
flags device A Nothing a = false
flags device A (Barred value) a = is_core device a || may_enable_barred device A a value
flags device A (Unlisted listed) a = is_protected device a && not (lists listed.now a)

-- it flags the writes that may be flagged as ones of protected addresses
abbrev pub IsGuardOf : Task → Store → Guard → Type 0
IsGuardOf task store guard = (a : ℕ) → flags (device_of task.flash) task.assumptions guard a ≡ is_flagged_address task store a
