use Rattle.std.proofs.Common.{arith}
use Rattle.text_base.proofs.Numbers.{hex_room}
use Rattle.text_base.proofs.digits.hex_number.Goals as goal

pub overflow_mul-number : goal.overflow_mul-number
overflow_mul-number c = omega (arith, hex_room c.loop-digit.number c.loop-digit.digit-index 0 c.loop-digit.invariant.1 (omega arith) (omega arith))

pub overflow_add-number : goal.overflow_add-number
overflow_add-number c =
    omega (arith, hex_room c.loop-digit.number c.loop-digit.digit-index c.from.result c.loop-digit.invariant.1 (omega (arith, c.value_of.ensures.small)) (omega arith))
