-- Worked rows of the arithmetic: results, and the status register after them.
use Rattle.std.specs.Prelude.{◌≡◌, ◌%◌, true, false, refl}
use Rattle.avr_model.specs.Sums.{sum_of, flags_of_sum, difference_of, flags_of_difference}
use Rattle.avr_model.specs.Bitwise.{flags_of_result, step_of, step_overflows, shift_of, flags_of_shift}
use Rattle.avr_model.specs.Product.{result_of, flags_of_product}
use Rattle.avr_model.specs.Wide.{wide_of, flags_of_wide}
use Rattle.avr_model.specs.declared.operation.Shift.TheVariants as shift
use Rattle.avr_model.specs.declared.operation.Mul.TheVariants as product

-- 127 + 1 wraps to -128: half carry, overflow and negative, so no sign
pub greatest_and_one : sum_of 0x7F 0x01 false % 256 ≡ 0x80
greatest_and_one = refl

pub greatest_and_one_flags : flags_of_sum 0x7F 0x01 false 0x00 ≡ 0x2C
greatest_and_one_flags = refl

-- T and I stay, whatever the sum
pub all_ones_and_carry_flags : flags_of_sum 0xFF 0xFF true 0xC0 ≡ 0xF5
all_ones_and_carry_flags = refl

-- -128 - 1 wraps to 127: half borrow, sign and overflow
pub least_less_one_flags : flags_of_difference 0x80 0x01 false false 0x00 ≡ 0x38
least_less_one_flags = refl

-- a result of 0 sets Z in `sub`; in `sbc` it keeps Z
pub zero_is_set : flags_of_difference 0x01 0x00 true false 0x00 ≡ 0x02
zero_is_set = refl

pub zero_stays_clear : flags_of_difference 0x01 0x00 true true 0x00 ≡ 0x00
zero_stays_clear = refl

-- `neg` of -128 is -128: overflow, negative and borrow, and no half borrow
pub negated_least : difference_of 0x00 0x80 false ≡ 0x80
negated_least = refl

pub negated_least_flags : flags_of_difference 0x00 0x80 false false 0x00 ≡ 0x0D
negated_least_flags = refl

-- `dec` of -128 overflows and keeps C
pub least_lowered_flags : flags_of_result true (step_overflows false (step_of false 0x80)) (step_of false 0x80) 0x01 ≡ 0x19
least_lowered_flags = refl

-- `ror` of 1 with C set: C enters at the top, and bit 0 leaves to C
pub rotated_one : shift_of shift.Ror 0x01 0x01 ≡ 0x80
rotated_one = refl

pub rotated_one_flags : flags_of_shift 0x01 0x80 0x01 ≡ 0x15
rotated_one_flags = refl

-- -1 times 0.5: the carry is that of the product before doubling
pub fractional_product : result_of product.Fmulsu 0x80 0x80 ≡ 0x8000
fractional_product = refl

pub fractional_product_flags : flags_of_product product.Fmulsu 0x80 0x80 0x00 ≡ 0x01
fractional_product_flags = refl

-- 0x0000 - 1 over 16 bits: borrow, negative and sign; H stays
pub zero_word_lowered : wide_of false 0x0000 1 ≡ 0xFFFF
zero_word_lowered = refl

pub zero_word_lowered_flags : flags_of_wide false 0x0000 1 0x20 ≡ 0x35
zero_word_lowered_flags = refl
