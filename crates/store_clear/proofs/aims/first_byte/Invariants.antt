use Rattle.std.proofs.Common.{◌≡◌, None}
use Rattle.local_rules.specs.Permitted.{may_be}
use Rattle.clear_laws.specs.Aims.{least_below}
use Rattle.store_clear.proofs.aims.first_byte.Given as goal

abbrev pub invariant-loop-byte : goal.invariant-loop-byte
invariant-loop-byte l = least_below (may_be l.value) l.byte ≡ None
