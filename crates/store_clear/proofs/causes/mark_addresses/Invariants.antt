use Rattle.store_clear.specs.Takes.{AreMarkedBeside}
use Rattle.store_clear.specs.Causing.{IsProtectedBelow}
use Rattle.store_clear.proofs.causes.mark_addresses.Given as goal
use Rattle.store_clear.specs.Stores.{task_in, store_of}

abbrev pub invariant-loop-address : goal.invariant-loop-address
invariant-loop-address l = AreMarkedBeside (IsProtectedBelow (task_in l.store) (store_of l.store) l.address) l.fn.marks l.marks
