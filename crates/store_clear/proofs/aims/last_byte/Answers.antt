use Rattle.std.proofs.Common.{◌≡◌, ◌-◌, ◌+◌, suc, sym, ap, ◌∙◌, arith}
use Rattle.local_rules.specs.Permitted.{may_be}
use Rattle.clear_laws.specs.Aims.{greatest_below}
use Rattle.store_clear.proofs.Scans.{greatest_more, greatest_here, greatest_none}
use Rattle.store_clear.proofs.aims.last_byte.Goals as goal

pub returns-then-may_be : goal.returns-then-may_be
returns-then-may_be c =
    let at : 256 - c.loop-below.below ≡ suc (255 - c.loop-below.below) = omega (arith, c.loop-below-test.true) in
    sym (c.loop-below.invariant ∙ ap (greatest_below (may_be c.args.value)) at
    ∙ greatest_here (may_be c.args.value) (255 - c.loop-below.below) (sym c.may_be.ensures ∙ c.if-may_be.true))

pub loop-below-preserved : goal.loop-below-preserved
loop-below-preserved c =
    let at : 256 - c.loop-below.below ≡ suc (255 - c.loop-below.below) = omega (arith, c.loop-below-test.true) in
    let next : 255 - c.loop-below.below ≡ 256 - (c.loop-below.below + 1) = omega arith in
    c.loop-below.invariant ∙ ap (greatest_below (may_be c.args.value)) at
    ∙ greatest_more (may_be c.args.value) (255 - c.loop-below.below) (sym c.may_be.ensures ∙ c.if-may_be.false) ∙ ap (greatest_below (may_be c.args.value)) next

pub returns : goal.returns
returns c =
    let none : 256 - c.loop-below.below ≡ 0 = omega (arith, c.loop-below-test.false) in
    sym (c.loop-below.invariant ∙ ap (greatest_below (may_be c.args.value)) none ∙ greatest_none (may_be c.args.value))
