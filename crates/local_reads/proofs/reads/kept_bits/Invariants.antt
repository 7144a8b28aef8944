use Rattle.std.proofs.Common.{false, ◌≡◌, ◌<◌, ℕ}
use Rattle.avr_model.specs.Vectors.{enable_of}
use Rattle.bit_domain.specs.declared.bits.Tri.TheVariants.{Zero}
use Rattle.bit_domain.specs.TriByte.{tri_at}
use Rattle.local_rules.specs.Reads.{io_tri}
use Rattle.local_reads.proofs.reads.kept_bits.Given as goal

-- the bits so far are those of the address
abbrev pub invariant-loop-bit : goal.invariant-loop-bit
invariant-loop-bit l = (i : ℕ) → i < l.bit → tri_at l.bits i ≡ io_tri Zero false (enable_of l.device l.address i) l.masks
