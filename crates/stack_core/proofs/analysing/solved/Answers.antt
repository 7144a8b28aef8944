use Rattle.std.proofs.Common.{sym, subst, IfSome}
use Rattle.avr_model.specs.declared.device.Device.{Device}
use Rattle.witness_replay.specs.Spelling.{IsSchedule}
use Rattle.replies.proofs.AllLaws.{schedule_found}
use Rattle.stack_core.proofs.analysing.solved.Goals as goal
use Rattle.family_edges.specs.Tasks.{task_of}

pub with_witness-requires : goal.with_witness-requires
with_witness-requires c =
    let found = c.in_ok-found.ensures.first in
    subst (λ (device : Device). IfSome c.in_ok-found.found (IsSchedule device)) (sym c.requires.meets.device)
    (schedule_found (task_of c.args.task.now) found.0 c.args.certificate.bound c.in_ok-found.found found.2)
