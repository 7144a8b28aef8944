use Rattle.std.proofs.Common.{◌≡◌, ◌∙◌, ℕ, ◌∷◌, ◌++◌, [], refl, ap, arith}
use Rattle.avr_model.specs.Marks.{joined_below, page_marks}
use Rattle.avr_model.proofs.AllLaws.{devices_are_alike}
use Rattle.flash_image.specs.Marked.{marked}
use Rattle.flash_image.proofs.Marked.{marked_none, marked_more, device_marked}
use Rattle.flash_image.proofs.mark_table.mark_usual.Goals as goal

pub loop-page-init : goal.loop-page-init
loop-page-init c = marked_none c.args.table.now _ (0 ∷ 0x7FFF ∷ 0x8000 ∷ 0xFFFF ∷ []) page_marks refl

pub loop-page-preserved : goal.loop-page-preserved
loop-page-preserved c = marked_more c.args.table.now c.loop-page.table _ (0 ∷ 0x7FFF ∷ 0x8000 ∷ 0xFFFF ∷ []) c.loop-page.page page_marks c.loop-page.invariant refl

pub bounds-table-start-2 : goal.bounds-table-start-2
bounds-table-start-2 c = omega (arith, c.from-start.ensures, c.io_end.ensures, devices_are_alike.most_io c.args.device)

pub bounds-table-end-2 : goal.bounds-table-end-2
bounds-table-end-2 c = omega (arith, c.from-end.ensures, c.ramend.ensures, devices_are_alike.most_io c.args.device, devices_are_alike.most_bytes c.args.device)

pub returns : goal.returns
returns c =
    let nine : c.loop-page.page ≡ 9 = omega (arith, c.loop-page.auto.page-end, c.loop-page-test.false) in
    device_marked c.args.table.now c.loop-page.table c.args.device c.from-start.result c.from-end.result (c.from-start.ensures ∙ c.io_end.ensures) (c.from-end.ensures ∙ c.ramend.ensures)
    (c.loop-page.invariant ∙ ap (λ (n : ℕ). marked c.args.table.now ((0 ∷ 0x7FFF ∷ 0x8000 ∷ 0xFFFF ∷ []) ++ joined_below n page_marks)) nine)
