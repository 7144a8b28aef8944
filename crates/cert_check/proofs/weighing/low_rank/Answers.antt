use Rattle.std.proofs.Common.{refl, get_or}
use Rattle.cert_check.specs.Demands.{MeetsRank, LowRank, PairBelow, lesser_pair}
use Rattle.cert_check.proofs.Lists.{read_in, least_more, least_all}
use Rattle.cert_check.proofs.Asking.{lesser_pairs, no_demand}
use Rattle.cert_check.proofs.weighing.low_rank.Goals as goal

pub noted_rank-least-requires : goal.noted_rank-least-requires
noted_rank-least-requires c =
    let d = get_or c.args.demands.now c.loop-at.at no_demand in
    c.requires d (read_in c.args.demands.now c.loop-at.at no_demand d c.loop-at-test.true refl)

pub loop-at-preserved : goal.loop-at-preserved
loop-at-preserved c =
    let i = c.args.instances.now in
    least_more (MeetsRank i) (LowRank i) PairBelow lesser_pair (lesser_pairs i) c.args.demands.now c.loop-at.at no_demand
    (get_or c.args.demands.now c.loop-at.at no_demand) c.loop-at.least c.noted_rank-least.result c.loop-at-test.true refl c.loop-at.invariant c.noted_rank-least.ensures

pub returns : goal.returns
returns c =
    let i = c.args.instances.now in
    least_all (MeetsRank i) (LowRank i) PairBelow lesser_pair (lesser_pairs i) c.args.demands.now c.loop-at.at c.loop-at.least c.loop-at-test.false c.loop-at.invariant
