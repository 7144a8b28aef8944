-- Sums and differences of a word and a small number, as two byte sums. A word is a pair of its low and high byte.
use Rattle.std.specs.Prelude.{ℕ, Bool, if◌then◌else◌}
use Rattle.bit_domain.specs.declared.bits.Tri.TheVariants.{Zero}
use Rattle.bit_domain.specs.declared.bytes.TriByte.{TriByte}
use Rattle.bit_domain.specs.declared.sums.Sum.{Sum}
use Rattle.bit_domain.specs.Tri.{tri_and, tri_xor}
use Rattle.bit_domain.specs.TriByte.{tri_at, byte_known}
use Rattle.bit_domain.specs.Sums.{byte_sum, byte_difference}
use Rattle.abs_alu.specs.Flags.{tri_flags, tri_zero}

-- the word of two byte sums, with the status register: C and V are those of the high byte, and H is kept
abbrev pub word_answer : Sum → Sum → TriByte → (TriByte × TriByte) × TriByte
word_answer low high s = (
  (low.bits, high.bits),
  tri_flags high.out (tri_and (tri_zero low.bits) (tri_zero high.bits)) (tri_at high.bits 7) (tri_xor high.into_top high.out) (tri_at s 5) s,
)

abbrev pub word_sum : TriByte × TriByte → ℕ → TriByte → (TriByte × TriByte) × TriByte
word_sum a k s =
    let low = byte_sum a.0 (byte_known k) Zero in
    word_answer low (byte_sum a.1 (byte_known 0) low.out) s

abbrev pub word_difference : TriByte × TriByte → ℕ → TriByte → (TriByte × TriByte) × TriByte
word_difference a k s =
    let low = byte_difference a.0 (byte_known k) Zero in
    word_answer low (byte_difference a.1 (byte_known 0) low.out) s

abbrev pub abs_wide : Bool → TriByte × TriByte → ℕ → TriByte → (TriByte × TriByte) × TriByte
abs_wide up a k s = if up then word_sum a k s else word_difference a k s
