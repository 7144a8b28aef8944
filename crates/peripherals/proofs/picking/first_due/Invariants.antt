use Rattle.std.proofs.Common.{◌≡◌, ◌-◌, length}
use Rattle.peripherals.specs.Hooks.{stands_in}
use Rattle.peripherals.specs.Due.{is_ready, first_ready, first_from}
use Rattle.peripherals.proofs.picking.first_due.Given as goal

abbrev pub invariant-loop-n : goal.invariant-loop-n
invariant-loop-n l =
    first_ready l.peripherals (stands_in l.menu) l.timers l.moment.taken.now l.moment.step
    ≡ first_from (is_ready l.peripherals (stands_in l.menu) l.timers l.moment.taken.now l.moment.step) l.n (length l.peripherals.sources - l.n)
