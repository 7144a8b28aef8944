use Rattle.std.proofs.Common.{ℕ, false, get_or, inl, inr, refl, sym, ap, ◌∙◌, arith}
use Rattle.flash_image.proofs.Marked.{above_is}
use Rattle.flash_image.proofs.mark_table.above.Goals as goal

pub returns-then-at : goal.returns-then-at
returns-then-at c = λ ms t.
    above_is ms c.args.table.now c.args.x 65535 t (omega arith) (omega arith) (inl refl) (λ m le lt. c.loop-x.invariant.none m le (omega (arith, c.if-at.true, lt)))

pub returns : goal.returns
returns c = λ ms t.
    above_is ms c.args.table.now c.args.x c.loop-x.at t c.loop-x.invariant.inside (omega arith)
    (inr (ap (λ (n : ℕ). get_or c.args.table.now n false) (sym c.from.ensures) ∙ c.loop-x-test.false)) c.loop-x.invariant.none
