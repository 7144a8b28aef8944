use Rattle.std.proofs.Common.{◌≡◌, ◌++◌, ◌∷◌, []}
use Rattle.avr_model.specs.Marks.{joined_below}
use Rattle.flash_image.specs.Marked.{marked}
use Rattle.flash_image.proofs.Loads.{high_marks}
use Rattle.flash_image.proofs.mark_table.mark_side.Given as goal

-- the low byte is marked with the high bytes so far
abbrev pub invariant-loop-high : goal.invariant-loop-high
invariant-loop-high l = l.table ≡ marked l.fn.table ((l.low ∷ []) ++ joined_below l.high (high_marks l.loads l.side l.low))
