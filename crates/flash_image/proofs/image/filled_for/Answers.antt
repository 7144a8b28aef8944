use Rattle.std.proofs.Common.{arith}
use Rattle.flash_image.proofs.Narrowing.{of_few}
use Rattle.flash_image.proofs.image.filled_for.Goals as goal

pub returns-then-words-lt16384-clause-words : goal.returns-then-words-lt16384-clause-words
returns-then-words-lt16384-clause-words c = of_few c.args.device (omega (arith, c.words.ensures, c.if-words-lt16384.true))
