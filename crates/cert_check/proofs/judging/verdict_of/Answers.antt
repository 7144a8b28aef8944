use Rattle.std.proofs.Common.{subst}
use Rattle.cert_check.specs.Verdict.{IsFamilyOf, IsJudgement}
use Rattle.cert_check.proofs.judging.verdict_of.Goals as goal

pub returns-in-Accepted : goal.returns-in-Accepted
returns-in-Accepted c = λ task h.
    let f : IsFamilyOf task c.args.certificate.now c.in-Accepted.family = subst (IsJudgement task c.args.certificate.now) c.in-Accepted.is h in
    (record { nodes = c.in-Accepted.family.nodes; expanded = f.filled; meets = f.meets }, c.bound.ensures)

pub returns-in-Rejected : goal.returns-in-Rejected
returns-in-Rejected c = λ task h. subst (IsJudgement task c.args.certificate.now) c.in-Rejected.is h
