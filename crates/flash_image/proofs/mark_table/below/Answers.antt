use Rattle.std.proofs.Common.{ℕ, false, get_or, inl, inr, refl, sym, ap, ◌∙◌, arith}
use Rattle.flash_image.proofs.Marked.{below_is}
use Rattle.flash_image.proofs.mark_table.below.Goals as goal

pub returns-then-at-eq0 : goal.returns-then-at-eq0
returns-then-at-eq0 c = λ ms t.
    below_is ms c.args.table.now c.args.x 0 t (omega arith) (omega arith) (inl refl) (λ m lt le. c.loop-x.invariant.none m (omega (arith, c.if-at-eq0.true, lt)) le)

pub returns : goal.returns
returns c = λ ms t.
    below_is ms c.args.table.now c.args.x c.loop-x.at t (omega arith) c.loop-x.invariant.inside
    (inr (ap (λ (n : ℕ). get_or c.args.table.now n false) (sym c.from.ensures) ∙ c.loop-x-test.false)) c.loop-x.invariant.none
