use Rattle.std.proofs.Common.{◌≡◌, false}
use Rattle.avr_model.specs.Bits.{any_below}
use Rattle.clear_laws.specs.Causes.{may_write_protected}
use Rattle.store_clear.proofs.writes.may_write_some_protected.Given as goal
use Rattle.store_clear.specs.Stores.{task_in, store_of}

abbrev pub invariant-loop-address : goal.invariant-loop-address
invariant-loop-address l = any_below l.address (may_write_protected (task_in l.store) (store_of l.store)) ≡ false
