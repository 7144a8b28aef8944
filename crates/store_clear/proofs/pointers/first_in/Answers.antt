use Rattle.std.proofs.Common.{◌+◌, ◌*◌, Option, ℕ, subst, arith}
use Rattle.local_rules.specs.Permitted.{permits_number}
use Rattle.store_clear.specs.Pointers.{IsFirstIn}
use Rattle.store_clear.proofs.Spans.{fails_none, fails_less, fails_both, first_none, first_further}
use Rattle.store_clear.proofs.pointers.first_in.Goals as goal

pub loop-page-init : goal.loop-page-init
loop-page-init c = fails_none (permits_number c.args.state.now c.args.r) _ _ (omega arith)

pub returns-in-Some : goal.returns-in-Some
returns-in-Some c =
    first_further (permits_number c.args.state.now c.args.r) 0 (256 * c.loop-page.page) (256 * c.loop-page.page + 256) 65536 _ (omega arith) (omega (arith, c.loop-page-test.true)) c.loop-page.invariant
    (subst (λ (o : Option ℕ). IsFirstIn (permits_number c.args.state.now c.args.r) (256 * c.loop-page.page) (256 * c.loop-page.page + 256) o) c.in-Some.is c.first_in_page.ensures)

pub loop-page-preserved : goal.loop-page-preserved
loop-page-preserved c =
    fails_less (permits_number c.args.state.now c.args.r) 0 (256 * c.loop-page.page + 256) 0 _ (omega arith) (omega arith)
    (fails_both (permits_number c.args.state.now c.args.r) 0 (256 * c.loop-page.page) (256 * c.loop-page.page + 256) c.loop-page.invariant
    (first_none (permits_number c.args.state.now c.args.r) (256 * c.loop-page.page) (256 * c.loop-page.page + 256) _ c.first_in_page.ensures c.in_default.not-Some))

pub returns : goal.returns
returns c = fails_less (permits_number c.args.state.now c.args.r) _ _ _ _ (omega arith) (omega (arith, c.loop-page-test.false)) c.loop-page.invariant
