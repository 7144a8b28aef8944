-- Sums and differences of bytes, with their flags: C and H are the carries or borrows out of bits 7 and 3, V is the
-- exclusive or of those into and out of bit 7.
use Rattle.std.specs.Prelude.{Bool, if◌then◌else◌}
use Rattle.bit_domain.specs.declared.bits.Tri.{Tri}
use Rattle.bit_domain.specs.declared.bytes.TriByte.{TriByte}
use Rattle.bit_domain.specs.declared.sums.Sum.{Sum}
use Rattle.bit_domain.specs.Tri.{tri_xor, tri_and}
use Rattle.bit_domain.specs.TriByte.{tri_at}
use Rattle.bit_domain.specs.Sums.{byte_sum, byte_difference}
use Rattle.abs_alu.specs.Flags.{tri_flags, tri_zero}

-- the status register after a sum or difference m with this Z
abbrev pub sum_flags : Sum → Tri → TriByte → TriByte
sum_flags m z s = tri_flags m.out z (tri_at m.bits 7) (tri_xor m.into_top m.out) m.half s

abbrev pub abs_add : TriByte → TriByte → Tri → TriByte → TriByte × TriByte
abs_add a b carry s = let m = byte_sum a b carry in (m.bits, sum_flags m (tri_zero m.bits) s)

-- Z after a difference r; if Z is kept, it must also be set before
abbrev pub zero_after : Bool → TriByte → TriByte → Tri
zero_after keep_zero r s = if keep_zero then tri_and (tri_zero r) (tri_at s 1) else tri_zero r

abbrev pub abs_sub : TriByte → TriByte → Tri → Bool → TriByte → TriByte × TriByte
abs_sub a b borrow keep_zero s = let m = byte_difference a b borrow in (m.bits, sum_flags m (zero_after keep_zero m.bits s) s)
