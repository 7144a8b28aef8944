use Rattle.std.proofs.Common.{◌≡◌, ◌<◌, ◌&&◌, ℕ}
use Rattle.avr_model.specs.Vectors.{held_of, is_moving}
use Rattle.bit_domain.specs.TriByte.{tri_at}
use Rattle.local_rules.specs.Reads.{io_tri, free_tri}
use Rattle.local_reads.proofs.reads.io_bits.Given as goal

-- the bits so far are those of the address
abbrev pub invariant-loop-bit : goal.invariant-loop-bit
invariant-loop-bit l = (i : ℕ) → i < l.bit → tri_at l.bits i ≡ io_tri (free_tri (l.may && is_moving l.device l.address i)) l.may (held_of l.device l.address i) l.masks
