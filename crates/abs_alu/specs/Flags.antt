-- The status register as a byte of three-valued bits: bits 0 to 7 are C Z N V S H T I.
use Rattle.std.specs.Prelude.{ℕ, ◌==◌, if◌then◌else◌}
use Rattle.bit_domain.specs.declared.bits.Tri.{Tri}
use Rattle.bit_domain.specs.declared.bytes.TriByte.{TriByte}
use Rattle.bit_domain.specs.Tri.{tri_xor}
use Rattle.bit_domain.specs.TriByte.{tri_at, byte_of, byte_known, byte_with}
use Rattle.bit_domain.specs.Logic.{byte_equal}

-- bit i of the register with these C, Z, N, V and H, with S = N xor V, and with T and I of s
abbrev pub flag_bit : Tri → Tri → Tri → Tri → Tri → TriByte → ℕ → Tri
flag_bit c z n v h s i =
    if i == 0 then c else if i == 1 then z else if i == 2 then n else if i == 3 then v else if i == 4 then tri_xor n v else if i == 5 then h else tri_at s i

abbrev pub tri_flags : Tri → Tri → Tri → Tri → Tri → TriByte → TriByte
tri_flags c z n v h s = byte_of (flag_bit c z n v h s)

-- whether a byte is 0: 0 if some bit is known to be 1, 1 if all are known to be 0
abbrev pub tri_zero : TriByte → Tri
tri_zero r = byte_equal r (byte_known 0)

-- the register after a result with these C and V: N is the top bit, Z is 1 for a result of 0, and H is kept
abbrev pub result_flags : Tri → Tri → TriByte → TriByte → TriByte
result_flags c v r s = tri_flags c (tri_zero r) (tri_at r 7) v (tri_at s 5) s

-- s with these C and Z
abbrev pub carry_and_zero : Tri → Tri → TriByte → TriByte
carry_and_zero c z s = byte_with (byte_with s 0 c) 1 z
