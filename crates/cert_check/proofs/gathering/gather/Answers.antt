use Rattle.std.proofs.Common.{◌≤◌, length, arith}
use Rattle.family_edges.proofs.Landed.{landed_all}
use Rattle.cert_check.proofs.Passing.{ends}
use Rattle.cert_check.proofs.gathering.gather.Goals as goal
use Rattle.family_edges.specs.Tasks.{task_of}

pub returns : goal.returns
returns c =
    let task = task_of c.args.task.now in
    let claim = c.args.certificate.now in
    let nodes = c.args.nodes.now in
    let full : length nodes ≤ c.loop-at.at = omega (arith, c.loop-at-test.false, c.count-at-end.ensures.count) in
    let all = ends task claim.nodes claim.instances nodes c.loop-at.at c.loop-at.gathered.demands.items c.loop-at.invariant.0 full in (
      all.0,
      all.1,
      landed_all task nodes c.loop-at.at c.loop-at.gathered.landings c.requires.taken.faultless c.loop-at.invariant.1
          (omega (arith, c.loop-at-test.false, c.loop-at.auto.at-end, c.count-at-end.ensures.count)),
    )
