-- Worked rows of the definitions.
use Rattle.std.specs.Prelude.{◌≡◌, refl, true}
use Rattle.bit_domain.specs.declared.bits.Tri.TheVariants.{Zero, Any}
use Rattle.bit_domain.specs.Packed.{packed}
use Rattle.bit_domain.specs.TriByte.{tri_at, byte_known, byte_any}
use Rattle.bit_domain.specs.Logic.{all_below}
use Rattle.bit_domain.specs.Sums.{carry_into, borrow_into}
use Rattle.avr_model.specs.declared.operation.Mul.TheVariants.{Mul as Mul'}
use Rattle.abs_alu.specs.Sums.{abs_add, abs_sub}
use Rattle.abs_alu.specs.Bitwise.{abs_step_one}
use Rattle.abs_alu.specs.Product.{abs_mul}
use Rattle.abs_alu.specs.Words.{abs_wide}

-- 0xFF + 1 is 0, with C, Z and H; T and I are kept
flags_of_wrap : (abs_add (byte_known 0xFF) (byte_known 1) Zero (byte_known 0x80)).1.value ≡ 0xA3
unfolding packed carry_into all_below
flags_of_wrap = refl

-- 5 - 5 is 0, but a Z that is kept stays 0 if it was 0
zero_kept : tri_at (abs_sub (byte_known 5) (byte_known 5) Zero true (byte_known 0)).1 1 ≡ Zero
unfolding packed borrow_into all_below
zero_kept = refl

-- a Z that is kept stays unknown if it was unknown
zero_unknown : tri_at (abs_sub (byte_known 5) (byte_known 5) Zero true byte_any).1 1 ≡ Any
unfolding packed borrow_into all_below
zero_unknown = refl

-- inc of 0x7F gives 0x80, with N and V, so without S
step_to_least : (abs_step_one true (byte_known 0x7F) (byte_known 0)).1.value ≡ 0x0C
unfolding packed carry_into all_below
step_to_least = refl

-- an unknown factor gives an unknown product, C and Z; the other flags stay
product_of_unknown : (abs_mul Mul' byte_any (byte_known 2) (byte_known 0xFF)).1.known ≡ 0xFC
unfolding packed
product_of_unknown = refl

-- 0x00FF + 1 is 0x0100
word_with_carry : (abs_wide true (byte_known 0xFF, byte_known 0) 1 (byte_known 0)).0.1.value ≡ 1
unfolding packed carry_into all_below
word_with_carry = refl
