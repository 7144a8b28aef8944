use Rattle.std.proofs.Common.{◌≡◌, length}
use Rattle.local_rules.specs.Settling.{settled_values}
use Rattle.local_reads.proofs.Settled.{settled_from}
use Rattle.local_reads.proofs.settling.settle_registers.Given as goal

abbrev pub invariant-loop-r : goal.invariant-loop-r
invariant-loop-r l = (length l.registers ≡ 34) × (settled_from l.offset l.r l.registers ≡ settled_values l.fn.offset l.fn.registers)
