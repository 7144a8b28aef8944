use Rattle.std.proofs.Common.{None, subst, arith}
use Rattle.witness_replay.specs.Spelling.{AreRuns, most_choices}
use Rattle.uses.proofs.Bounds.{replay_bounded}
use Rattle.uses.proofs.replayed.depth_seen.Goals as goal

pub returns-in-Ok : goal.returns-in-Ok
returns-in-Ok c = λ bound bounded.
    replay_bounded c.replays_are_runs.ensures.runs c.runs-runs.ensures.fit.0 c.args.flash.now c.args.assumptions.now c.args.schedule.now c.in-Ok.report (omega (arith, c.fill-fill.ensures, c.fill-fill.type_inv)) (subst (AreRuns c.runs-runs.ensures.fit.0 None most_choices) c.runs-runs.ensures.runs c.runs-runs.ensures.fit.1)
    c.in-Ok.ensures bound bounded
