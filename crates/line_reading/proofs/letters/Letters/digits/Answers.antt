use Rattle.std.proofs.Common.{arith}
use Rattle.line_reading.proofs.Digits.{eight_fit}
use Rattle.line_reading.proofs.letters.Letters.digits.Goals as goal

pub overflow_cast-result : goal.overflow_cast-result
overflow_cast-result c = omega (arith, eight_fit c.in-Ok.number c.args.count c.in-Ok.ensures.small c.requires.few)
