use Rattle.std.proofs.Common.{subst}
use Rattle.cert_check.specs.Demands.{SettlesClaim}
use Rattle.cert_check.proofs.One.{family_is, refused}
use Rattle.cert_check.proofs.judging.judge_nodes.Goals as goal
use Rattle.family_edges.specs.Tasks.{task_of}

pub returns-in-Ok-Accepted : goal.returns-in-Ok-Accepted
returns-in-Ok-Accepted c =
    let task = task_of c.args.task.now in
    let claim = c.args.certificate.now in
    family_is task claim (record { nodes = c.args.nodes; landings = c.in-Ok-Accepted.landings }) c.requires.claim c.requires.filled
    (subst (SettlesClaim task claim c.args.nodes) c.in-Ok-Accepted.field-0-is c.in-Ok-Accepted.ensures)

pub returns-in-Ok-Rejected : goal.returns-in-Ok-Rejected
returns-in-Ok-Rejected c =
    let task = task_of c.args.task.now in
    let claim = c.args.certificate.now in
    refused task claim c.args.nodes c.in-Ok-Rejected.reason c.requires.device c.requires.filled
    (subst (SettlesClaim task claim c.args.nodes) c.in-Ok-Rejected.field-0-is c.in-Ok-Rejected.ensures)
