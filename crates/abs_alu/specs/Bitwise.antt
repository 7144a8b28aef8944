-- Operations on the bits of one byte, with their flags.
use Rattle.std.specs.Prelude.{ℕ, Bool, ◌+◌, ◌==◌, if◌then◌else◌}
use Rattle.avr_model.specs.declared.operation.Logic.{Logic}
use Rattle.avr_model.specs.declared.operation.Logic.TheVariants.{And, Or, Eor}
use Rattle.avr_model.specs.declared.operation.Shift.{Shift}
use Rattle.avr_model.specs.declared.operation.Shift.TheVariants.{Lsr, Ror, Asr}
use Rattle.bit_domain.specs.declared.bits.Tri.{Tri}
use Rattle.bit_domain.specs.declared.bits.Tri.TheVariants.{Zero, One}
use Rattle.bit_domain.specs.declared.bytes.TriByte.{TriByte}
use Rattle.bit_domain.specs.Tri.{tri_xor}
use Rattle.bit_domain.specs.TriByte.{tri_at, byte_of, byte_known}
use Rattle.bit_domain.specs.Logic.{byte_and, byte_or, byte_eor, byte_not, byte_equal}
use Rattle.bit_domain.specs.Sums.{byte_sum, byte_difference}
use Rattle.abs_alu.specs.Flags.{result_flags}

abbrev pub logic_bits : Logic → TriByte → TriByte → TriByte
logic_bits And a b = byte_and a b
logic_bits Or a b = byte_or a b
logic_bits Eor a b = byte_eor a b

-- C is kept, and V is 0
abbrev pub abs_logic : Logic → TriByte → TriByte → TriByte → TriByte × TriByte
abs_logic op a b s = let r = logic_bits op a b in (r, result_flags (tri_at s 0) Zero r s)

-- C is 1, and V is 0
abbrev pub abs_com : TriByte → TriByte → TriByte × TriByte
abs_com a s = let r = byte_not a in (r, result_flags One Zero r s)

abbrev pub step_bits : Bool → TriByte → TriByte
step_bits up a = if up then (byte_sum a (byte_known 1) Zero).bits else (byte_difference a (byte_known 1) Zero).bits

-- the result of an increment or decrement that overflows
abbrev pub step_limit : Bool → ℕ
step_limit up = if up then 0x80 else 0x7F

-- C is kept, and V is 1 exactly for the limit
abbrev pub abs_step_one : Bool → TriByte → TriByte → TriByte × TriByte
abs_step_one up a s = let r = step_bits up a in (r, result_flags (tri_at s 0) (byte_equal r (byte_known (step_limit up))) r s)

-- the top bit after a shift
abbrev pub top_bit : Shift → TriByte → TriByte → Tri
top_bit Lsr a s = Zero
top_bit Ror a s = tri_at s 0
top_bit Asr a s = tri_at a 7

-- each bit moved one place down, with a new top bit
abbrev pub shift_bits : TriByte → Tri → TriByte
shift_bits a top = byte_of (λ i. if i == 7 then top else tri_at a (i + 1))

-- C is the old bit 0, and V is N xor C
abbrev pub abs_shift : Shift → TriByte → TriByte → TriByte × TriByte
abs_shift op a s = let r = shift_bits a (top_bit op a s) in (r, result_flags (tri_at a 0) (tri_xor (tri_at r 7) (tri_at a 0)) r s)
