use Rattle.std.proofs.Common.{arith}
use Rattle.line_reading.proofs.Table.{some_digit, no_digit}
use Rattle.line_reading.proofs.letters.digit_of.Goals as goal

pub returns-then-digit-lt16-clause-value : goal.returns-then-digit-lt16-clause-value
returns-then-digit-lt16-clause-value c = some_digit c.args.byte c.from.result (omega (arith, c.ranges.byte.fits)) c.from.ensures c.if-digit-lt16.true

pub returns-else-digit-lt16-clause-value : goal.returns-else-digit-lt16-clause-value
returns-else-digit-lt16-clause-value c = no_digit c.args.byte c.from.result (omega (arith, c.ranges.byte.fits)) c.from.ensures c.if-digit-lt16.false
