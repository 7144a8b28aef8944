use Rattle.std.proofs.lemmas.Result.{IfOk-weaker}
use Rattle.witness_search.proofs.Answered.{waypoints_as}
use Rattle.witness_search.proofs.searching.waypoints_of.Goals as goal
use Rattle.family_edges.specs.Tasks.{task_of}

pub returns : goal.returns
returns c =
    IfOk-weaker c.waypoints.result _ _
    (λ points e. waypoints_as (task_of c.args.task.now) c.args.certificate.now c.in_ok-family.family.nodes points.items c.in_ok-family.ensures.filled e)
    c.waypoints.ensures
