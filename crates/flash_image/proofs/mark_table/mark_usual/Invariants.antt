use Rattle.std.proofs.Common.{◌≡◌, ◌++◌, ◌∷◌, []}
use Rattle.avr_model.specs.Marks.{joined_below, page_marks}
use Rattle.flash_image.specs.Marked.{marked}
use Rattle.flash_image.proofs.mark_table.mark_usual.Given as goal

-- the pages so far are marked
abbrev pub invariant-loop-page : goal.invariant-loop-page
invariant-loop-page l = l.table ≡ marked l.fn.table ((0 ∷ 0x7FFF ∷ 0x8000 ∷ 0xFFFF ∷ []) ++ joined_below l.page page_marks)
