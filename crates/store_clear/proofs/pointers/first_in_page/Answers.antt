use Rattle.std.proofs.Common.{◌+◌, ◌-◌, ◌*◌, ◌∙◌, ◌≡◌, false, sym, subst, arith}
use Rattle.local_rules.specs.Permitted.{permits_number}
use Rattle.store_clear.proofs.Spans.{page_out, fails_none, fails_up, fails_less, first_here}
use Rattle.store_clear.proofs.pointers.first_in_page.Goals as goal

pub returns-then-not-is_page_met : goal.returns-then-not-is_page_met
returns-then-not-is_page_met c = page_out c.args.state.now c.args.r c.args.page (omega (arith, c.ranges.page.fits)) (sym c.is_page_met.ensures ∙ c.if-not-is_page_met.true)

pub loop-low-init : goal.loop-low-init
loop-low-init c = fails_none (permits_number c.args.state.now c.args.r) _ _ (omega arith)

pub returns-then-permits_number : goal.returns-then-permits_number
returns-then-permits_number c =
    first_here (permits_number c.args.state.now c.args.r) _ _ (256 * c.args.page + c.loop-low.low) _ (omega (arith, c.from.ensures)) (omega (arith, c.from.ensures, c.loop-low-test.true)) (omega (arith, c.from.ensures))
    c.loop-low.invariant (sym c.permits_number.ensures ∙ c.if-permits_number.true)

pub loop-low-preserved : goal.loop-low-preserved
loop-low-preserved c =
    fails_up (permits_number c.args.state.now c.args.r) _ (256 * c.args.page + c.loop-low.low) _ (omega arith) c.loop-low.invariant
    (subst (λ n. permits_number c.args.state.now c.args.r n ≡ false) (omega (arith, c.from.ensures)) (sym c.permits_number.ensures ∙ c.if-permits_number.false))

pub returns : goal.returns
returns c = fails_less (permits_number c.args.state.now c.args.r) _ _ _ _ (omega arith) (omega (arith, c.loop-low-test.false)) c.loop-low.invariant
