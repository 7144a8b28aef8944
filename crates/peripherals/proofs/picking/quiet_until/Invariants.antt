use Rattle.std.proofs.Common.{◌≡◌, ◌<◌, ◌-◌, ℕ, Bool, length}
use Rattle.avr_model.specs.Vectors.{is_enabled}
use Rattle.peripherals.specs.Due.{is_ready, first_ready, first_from}
use Rattle.peripherals.proofs.picking.quiet_until.Given as goal

abbrev pub invariant-loop-n : goal.invariant-loop-n
invariant-loop-n l =
    (timers : Bool) (step : ℕ) → step < l.until
    → first_ready l.peripherals (is_enabled l.device l.masks) timers l.taken step ≡ first_from (is_ready l.peripherals (is_enabled l.device l.masks) timers l.taken step) l.n (length l.peripherals.sources - l.n)
