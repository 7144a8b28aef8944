use Rattle.std.proofs.Common.{arith, ◌-◌, length-set}
use Rattle.text_base.proofs.Writing.{digit_next, digits_all}
use Rattle.text_base.proofs.writer.hex_glyphs.Goals as goal

pub loop-at-preserved : goal.loop-at-preserved
loop-at-preserved c =
    (digit_next c.loop-at.rest c.loop-at.at (c.loop-at.at - 1) c.args.digits c.hex_glyph.result c.loop-at.glyphs _ (omega arith) c.hex_glyph.ensures (omega arith) (omega arith) c.loop-at.invariant.0, omega arith, simp length-set c.loop-at.invariant.2)

pub returns : goal.returns
returns c = digits_all c.loop-at.rest c.loop-at.at c.args.digits c.loop-at.glyphs _ (omega arith) c.loop-at.invariant.0
