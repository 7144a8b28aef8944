use Rattle.std.proofs.Common.{refl, sym, subst, ◌∙◌}
use Rattle.std.specs.List.{All}
use Rattle.avr_model.specs.declared.device.Device.{Device}
use Rattle.avr_model.specs.Devices.{device_of}
use Rattle.witness_replay.specs.Spelling.{IsSchedule}
use Rattle.witness_replay.specs.Tracing.{IsTaken}
use Rattle.stimulus.proofs.AllLaws.{run_taken}
use Rattle.witness_search.specs.Attempts.{IsAttempt, IsAttempted}
use Rattle.witness_search.proofs.Found.{few_choices, attains, succeeds, fails, tried}
use Rattle.witness_search.proofs.trial.try_fill.Goals as goal
use Rattle.family_edges.specs.Tasks.{task_of}

pub returns-in_default-clause-tried : goal.returns-in_default-clause-tried
returns-in_default-clause-tried c =
    fails (task_of c.args.task.now) c.args.points.now c.args.bound c.most_trial_steps.result c.args.fill c.most_trial_steps.ensures
    (subst (IsAttempted c.most_trial_steps.result (task_of c.args.task.now) c.args.points.now c.args.bound c.args.fill) c.in_default.is c.in_ok-choices.ensures)

pub from_trace-requires-clause-few : goal.from_trace-requires-clause-few
from_trace-requires-clause-few c =
    let a : IsAttempt c.most_trial_steps.result (task_of c.args.task.now) c.args.points.now c.args.bound c.args.fill c.in-Some.choices =
    subst (IsAttempted c.most_trial_steps.result (task_of c.args.task.now) c.args.points.now c.args.bound c.args.fill) c.in-Some.is c.in_ok-choices.ensures in
    few_choices c.most_trial_steps.result (task_of c.args.task.now) c.args.points.now c.args.bound c.args.fill c.as_slice.result.now c.most_trial_steps.ensures
    (c.as_slice.ensures ∙ a.are)

pub from_trace-requires-clause-taken : goal.from_trace-requires-clause-taken
from_trace-requires-clause-taken c =
    let a : IsAttempt c.most_trial_steps.result (task_of c.args.task.now) c.args.points.now c.args.bound c.args.fill c.in-Some.choices =
    subst (IsAttempted c.most_trial_steps.result (task_of c.args.task.now) c.args.points.now c.args.bound c.args.fill) c.in-Some.is c.in_ok-choices.ensures in
    subst (λ (device : Device). All (IsTaken device) c.as_slice.result.now) (sym c.device-device.ensures)
    (subst (All (IsTaken (device_of c.args.task.now.flash.now))) (sym c.as_slice.ensures)
    (run_taken c.args.task.now.flash.now c.args.task.now.assumptions.now (device_of c.args.task.now.flash.now) c.in-Some.choices _ refl a.run))

pub returns-clause-tried : goal.returns-clause-tried
returns-clause-tried c =
    let a : IsAttempt c.most_trial_steps.result (task_of c.args.task.now) c.args.points.now c.args.bound c.args.fill c.in-Some.choices =
    subst (IsAttempted c.most_trial_steps.result (task_of c.args.task.now) c.args.points.now c.args.bound c.args.fill) c.in-Some.is c.in_ok-choices.ensures in
    tried (task_of c.args.task.now) c.args.points.now c.args.bound c.most_trial_steps.result c.args.fill c.in-Some.choices c.in_ok-schedule.schedule
    c.most_trial_steps.ensures a.are (succeeds (task_of c.args.task.now) c.args.points.now c.args.bound c.most_trial_steps.result c.args.fill c.in-Some.choices c.most_trial_steps.ensures a)
    c.in_ok-schedule.ensures.fill (c.in_ok-schedule.ensures.choices ∙ c.as_slice.ensures)
    (subst (λ (device : Device). IsSchedule device c.in_ok-schedule.schedule) c.device-device.ensures c.in_ok-schedule.ensures.fit)

pub returns-clause-attained : goal.returns-clause-attained
returns-clause-attained c =
    let a : IsAttempt c.most_trial_steps.result (task_of c.args.task.now) c.args.points.now c.args.bound c.args.fill c.in-Some.choices =
    subst (IsAttempted c.most_trial_steps.result (task_of c.args.task.now) c.args.points.now c.args.bound c.args.fill) c.in-Some.is c.in_ok-choices.ensures in
    attains c.depth_is_kept.ensures (task_of c.args.task.now) c.most_trial_steps.result c.args.points.now c.args.bound c.args.fill c.in-Some.choices
    c.in_ok-schedule.schedule a.are a.run a.depth c.in_ok-schedule.ensures.fill (c.in_ok-schedule.ensures.choices ∙ c.as_slice.ensures)
