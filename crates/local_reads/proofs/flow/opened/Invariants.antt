use Rattle.std.proofs.Common.{◌≤◌, ◌+◌}
use Rattle.avr_model.specs.Devices.{width}
use Rattle.local_reads.proofs.Permitted.{IsOpenTo}
use Rattle.local_reads.proofs.flow.opened.Given as goal

-- bits below the next one that are beyond a word address are unknown
abbrev pub invariant-loop-bit : goal.invariant-loop-bit
invariant-loop-bit l = record {
  least : width l.fn.device ≤ l.bit + l.fn.below;
  so_far : IsOpenTo l.fn.byte l.fn.below (width l.fn.device) l.bit l.opened;
}
