use Rattle.std.proofs.Common.{◌≡◌, ◌≤◌, ◌-◌, ◌++◌, take, drop, length}
use Rattle.text_base.specs.Digits.{hex_digits}
use Rattle.text_base.proofs.writer.hex_glyphs.Given as goal

abbrev pub invariant-loop-at : goal.invariant-loop-at
invariant-loop-at l = (hex_digits l.rest l.at ++ take (l.digits - l.at) (drop l.at l.glyphs) ≡ hex_digits l.number l.digits) × (l.at ≤ l.digits) × (length l.glyphs ≡ 32)
