-- Products of bytes, with their flags. A pair is a low and a high byte.
use Rattle.std.specs.Prelude.{ℕ, ◌/◌, ◌%◌, ◌==◌, nat_le}
use Rattle.std.specs.Prelude.{Option, Some, None}
use Rattle.std.specs.Int.{from_bool}
use Rattle.avr_model.specs.declared.operation.Mul.{Mul}
use Rattle.avr_model.specs.Product.{word_of, result_of}
use Rattle.bit_domain.specs.declared.bits.Tri.TheVariants.{Any}
use Rattle.bit_domain.specs.declared.bytes.TriByte.{TriByte}
use Rattle.bit_domain.specs.Tri.{tri_bit}
use Rattle.bit_domain.specs.TriByte.{byte_known, byte_any, byte_constant}
use Rattle.abs_alu.specs.Flags.{carry_and_zero}

-- the machine's product of two known bytes; otherwise product, C and Z are unknown
abbrev pub product_of_constants : Mul → Option ℕ → Option ℕ → TriByte → (TriByte × TriByte) × TriByte
product_of_constants op (Some x) (Some y) s =
    let r = result_of op x y in (
      (byte_known (r % 256), byte_known (r / 256)),
      carry_and_zero (tri_bit (from_bool (nat_le 32768 (word_of op x y)))) (tri_bit (from_bool (r == 0))) s,
    )
product_of_constants op (Some x) None s = ((byte_any, byte_any), carry_and_zero Any Any s)
product_of_constants op None b s = ((byte_any, byte_any), carry_and_zero Any Any s)

abbrev pub abs_mul : Mul → TriByte → TriByte → TriByte → (TriByte × TriByte) × TriByte
abs_mul op a b s = product_of_constants op (byte_constant a) (byte_constant b) s
