use Rattle.std.proofs.Common.{refl, get_or}
use Rattle.cert_check.specs.Demands.{MeetsNeed, LowNeed, NumberBelow, lesser_number}
use Rattle.cert_check.proofs.Lists.{read_in, least_more, least_all}
use Rattle.cert_check.proofs.Asking.{lesser_numbers, no_demand}
use Rattle.cert_check.proofs.weighing.low_need.Goals as goal

pub noted_need-least-requires-clause-inside : goal.noted_need-least-requires-clause-inside
noted_need-least-requires-clause-inside c =
    let d = get_or c.args.demands.now c.loop-at.at no_demand in
    c.requires.inside d (read_in c.args.demands.now c.loop-at.at no_demand d c.loop-at-test.true refl)

pub loop-at-preserved : goal.loop-at-preserved
loop-at-preserved c =
    let i = c.args.instances.now in
    least_more (MeetsNeed i) (LowNeed i) NumberBelow lesser_number (lesser_numbers i) c.args.demands.now c.loop-at.at no_demand
    (get_or c.args.demands.now c.loop-at.at no_demand) c.loop-at.least c.noted_need-least.result c.loop-at-test.true refl c.loop-at.invariant c.noted_need-least.ensures

pub returns : goal.returns
returns c =
    let i = c.args.instances.now in
    least_all (MeetsNeed i) (LowNeed i) NumberBelow lesser_number (lesser_numbers i) c.args.demands.now c.loop-at.at c.loop-at.least c.loop-at-test.false c.loop-at.invariant
