use Rattle.std.proofs.Common.{◌+◌, ◌-◌, ◌*◌, Option, ℕ, subst, arith}
use Rattle.local_rules.specs.Permitted.{permits_number}
use Rattle.store_clear.specs.Pointers.{IsLastIn}
use Rattle.store_clear.proofs.Spans.{fails_none, fails_less, fails_both, last_none, last_further}
use Rattle.store_clear.proofs.pointers.last_in.Goals as goal

pub loop-below-init : goal.loop-below-init
loop-below-init c = fails_none (permits_number c.args.state.now c.args.r) _ _ (omega arith)

pub returns-in-Some : goal.returns-in-Some
returns-in-Some c =
    last_further (permits_number c.args.state.now c.args.r) 0 (256 * (255 - c.loop-below.below)) (256 * (255 - c.loop-below.below) + 256) 65536 _ (omega arith) (omega arith)
    (fails_less (permits_number c.args.state.now c.args.r) (256 * (256 - c.loop-below.below)) 65536 _ _ (omega (arith, c.loop-below-test.true)) (omega arith) c.loop-below.invariant)
    (subst (λ (o : Option ℕ). IsLastIn (permits_number c.args.state.now c.args.r) (256 * (255 - c.loop-below.below)) (256 * (255 - c.loop-below.below) + 256) o) c.in-Some.is c.last_in_page.ensures)

pub loop-below-preserved : goal.loop-below-preserved
loop-below-preserved c =
    fails_less (permits_number c.args.state.now c.args.r) (256 * (255 - c.loop-below.below)) 65536 _ _ (omega arith) (omega arith)
    (fails_both (permits_number c.args.state.now c.args.r) (256 * (255 - c.loop-below.below)) (256 * (255 - c.loop-below.below) + 256) 65536
    (last_none (permits_number c.args.state.now c.args.r) (256 * (255 - c.loop-below.below)) (256 * (255 - c.loop-below.below) + 256) _ c.last_in_page.ensures c.in_default.not-Some)
    (fails_less (permits_number c.args.state.now c.args.r) (256 * (256 - c.loop-below.below)) 65536 _ _ (omega (arith, c.loop-below-test.true)) (omega arith) c.loop-below.invariant))

pub returns : goal.returns
returns c = fails_less (permits_number c.args.state.now c.args.r) _ _ _ _ (omega (arith, c.loop-below-test.false)) (omega arith) c.loop-below.invariant
