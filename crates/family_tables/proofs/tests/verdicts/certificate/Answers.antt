use Rattle.std.proofs.Common.{◌≤◌, ◌<◌, arith}
use Rattle.family_tables.proofs.Sampled.{sample_claim}
use Rattle.family_tables.proofs.tests.verdicts.certificate.Goals as goal

pub build-requires : goal.build-requires
build-requires c =
    let bound : c.min-bound.result ≤ 2048 = omega (arith, c.min-bound.ensures) in
    let rank : c.min-rank.result < 65536 = omega (arith, c.min-rank.ensures) in
    let need : c.min-need.result ≤ 2048 = omega (arith, c.min-need.ensures) in
    sample_claim c.args.row.now.claimed c.min-bound.result c.min-rank.result c.min-need.result c.args.row.now.from bound rank need c.empty.result c.in_ok-instances.instances.items
    c.in_ok-nodes.nodes.items c.empty.ensures c.in_ok-instances.ensures c.in_ok-nodes.ensures
