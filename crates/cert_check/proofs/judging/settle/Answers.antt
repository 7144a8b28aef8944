use Rattle.std.proofs.Common.{subst, arith}
use Rattle.family_edges.specs.Exits.{GivesExits, IsFirstFault}
use Rattle.cert_check.proofs.Verdicts.{beside, node_fits, first_fault}
use Rattle.cert_check.proofs.judging.settle.Goals as goal
use Rattle.family_edges.specs.Tasks.{task_of}

pub has_reset-requires : goal.has_reset-requires
has_reset-requires c = beside (task_of c.args.task.now) c.args.certificate.now c.args.nodes.now c.requires.claim c.requires.filled

pub overflow_cast-result : goal.overflow_cast-result
overflow_cast-result c =
    let fault : IsFirstFault (task_of c.args.task.now) c.args.nodes.now c.in-Fault.at c.in-Fault.fault =
    subst (GivesExits (task_of c.args.task.now) c.args.nodes.now) c.in-Fault.is c.in_ok-at.ensures in
    let fits = node_fits (task_of c.args.task.now) c.args.certificate.now c.args.nodes.now c.requires.claim c.requires.filled c.in-Fault.at fault.node fault.present in
    omega (arith, fits)

pub returns-in-Fault : goal.returns-in-Fault
returns-in-Fault c =
    let fault : IsFirstFault (task_of c.args.task.now) c.args.nodes.now c.in-Fault.at c.in-Fault.fault =
    subst (GivesExits (task_of c.args.task.now) c.args.nodes.now) c.in-Fault.is c.in_ok-at.ensures in (
      c.in_ok-has_reset.ensures.0 c.if-not-branch.false,
      first_fault (task_of c.args.task.now) c.args.nodes.now c.in-Fault.at c.cause.result c.in-Fault.fault fault c.cause.ensures,
    )
