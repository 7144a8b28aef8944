use Rattle.std.proofs.Common.{◌+◌, ◌-◌, ◌*◌, ◌∙◌, ◌≡◌, false, sym, subst, arith}
use Rattle.local_rules.specs.Permitted.{permits_number}
use Rattle.store_clear.proofs.Spans.{page_out, fails_none, fails_down, fails_less, last_here}
use Rattle.store_clear.proofs.pointers.last_in_page.Goals as goal

pub returns-then-not-is_page_met : goal.returns-then-not-is_page_met
returns-then-not-is_page_met c = page_out c.args.state.now c.args.r c.args.page (omega (arith, c.ranges.page.fits)) (sym c.is_page_met.ensures ∙ c.if-not-is_page_met.true)

pub loop-below-init : goal.loop-below-init
loop-below-init c = fails_none (permits_number c.args.state.now c.args.r) _ _ (omega arith)

pub returns-then-permits_number : goal.returns-then-permits_number
returns-then-permits_number c =
    last_here (permits_number c.args.state.now c.args.r) _ _ (256 * c.args.page + (256 - c.loop-below.below)) _ (omega (arith, c.from.ensures)) (omega (arith, c.from.ensures, c.loop-below-test.true)) (omega (arith, c.from.ensures))
    c.loop-below.invariant (sym c.permits_number.ensures ∙ c.if-permits_number.true)

pub loop-below-preserved : goal.loop-below-preserved
loop-below-preserved c =
    fails_down (permits_number c.args.state.now c.args.r) _ (256 * c.args.page + (256 - c.loop-below.below)) _ (omega arith) c.loop-below.invariant
    (subst (λ n. permits_number c.args.state.now c.args.r n ≡ false) (omega (arith, c.from.ensures)) (sym c.permits_number.ensures ∙ c.if-permits_number.false))

pub returns : goal.returns
returns c = fails_less (permits_number c.args.state.now c.args.r) _ _ _ _ (omega arith) (omega (arith, c.loop-below-test.false)) c.loop-below.invariant
