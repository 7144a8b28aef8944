use Rattle.pair_words.proofs.Numerals.{five}
use Rattle.pair_words.proofs.digits.five_digits.Goals as goal

pub returns : goal.returns
returns c = rw (c.hex_glyph.ensures, c.hex_glyph-2.ensures, c.hex_glyph-3.ensures, c.hex_glyph-4.ensures, c.hex_glyph-5.ensures) (five c.args.number)
