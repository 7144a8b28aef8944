use Rattle.std.proofs.Common.{◌≡◌, ◌+◌, arith, sym, subst, take, drop, ℕ, slice_index_or}
use Rattle.witness_search.specs.Trials.{fills, NoneSucceeds, IsTried}
use Rattle.witness_search.proofs.Found.{none_more, first, parted, taken_more, taken_all}
use Rattle.witness_search.proofs.trial.first_trial.Goals as goal
use Rattle.family_edges.specs.Tasks.{task_of}

pub returns-in-Some-clause-first : goal.returns-in-Some-clause-first
returns-in-Some-clause-first c =
    let fill : ℕ = slice_index_or fills c.loop-t.t 0 in
    first (task_of c.args.task.now) c.args.points.now c.args.bound (take c.loop-t.t fills) (drop (c.loop-t.t + 1) fills) fill c.in-Some.schedule
    (parted c.loop-t.t c.loop-t-test.true) c.loop-t.invariant
    (subst (IsTried (task_of c.args.task.now) c.args.points.now c.args.bound fill) c.in-Some.is c.in_ok-schedule.ensures.tried)

pub loop-t-preserved : goal.loop-t-preserved
loop-t-preserved c =
    let fill : ℕ = slice_index_or fills c.loop-t.t 0 in
    subst (NoneSucceeds (task_of c.args.task.now) c.args.points.now c.args.bound) (sym (taken_more c.loop-t.t c.loop-t-test.true))
    (none_more (task_of c.args.task.now) c.args.points.now c.args.bound (take c.loop-t.t fills) fill c.loop-t.invariant
    (subst (IsTried (task_of c.args.task.now) c.args.points.now c.args.bound fill) c.in_default.is c.in_ok-schedule.ensures.tried))

pub returns-clause-first : goal.returns-clause-first
returns-clause-first c =
    let end : c.loop-t.t ≡ 8 = omega (arith, c.loop-t-test.false, c.loop-t.auto.t-end) in
    subst (NoneSucceeds (task_of c.args.task.now) c.args.points.now c.args.bound) (taken_all c.loop-t.t end) c.loop-t.invariant
