use Rattle.std.proofs.Common.{arith}
use Rattle.pair_words.proofs.Numerals.{two}
use Rattle.pair_words.proofs.digits.two_digits.Goals as goal

pub returns : goal.returns
returns c = rw (c.hex_glyph.ensures, c.hex_glyph-2.ensures) (two c.args.byte (omega arith))
