use Rattle.std.proofs.Common.{subst}
use Rattle.basics.specs.Items.{all_up_to, all_taken}
use Rattle.round_nesting.specs.Covers.{AllowsSpot}
use Rattle.round_nesting.proofs.allowances.Allowances.allow_spots.Goals as goal

pub loop-spot-preserved : goal.loop-spot-preserved
loop-spot-preserved c =
    all_up_to (AllowsSpot c.args.self.now.map.entries) c.args.spots.now c.loop-spot.spot-index c.spot-item.result c.loop-spot-test.true c.loop-spot.invariant
    (subst (AllowsSpot c.args.self.now.map.entries) c.spot-item.is (c.allow_spot.ensures c.if-not-allow_spot.false))

pub returns : goal.returns
returns c = λ _. all_taken (AllowsSpot c.args.self.now.map.entries) c.args.spots.now c.loop-spot.spot-index c.loop-spot-test.false c.loop-spot.invariant
