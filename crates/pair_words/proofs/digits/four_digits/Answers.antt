use Rattle.std.proofs.Common.{arith}
use Rattle.pair_words.proofs.Numerals.{four}
use Rattle.pair_words.proofs.digits.four_digits.Goals as goal

pub returns : goal.returns
returns c = rw (c.hex_glyph.ensures, c.hex_glyph-2.ensures, c.hex_glyph-3.ensures, c.hex_glyph-4.ensures) (four c.args.number (omega arith))
