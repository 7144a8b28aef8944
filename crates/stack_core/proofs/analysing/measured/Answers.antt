use Rattle.std.proofs.Common.{◌≡◌, refl, sym, ◌∙◌}
use Rattle.cert_check.specs.declared.verdict.Judgement.TheVariants.{Accepted, Rejected}
use Rattle.stack_core.proofs.analysing.measured.Goals as goal

pub returns-in_ok-rejected-in-Rejected-clause-reply : goal.returns-in_ok-rejected-in-Rejected-clause-reply
returns-in_ok-rejected-in-Rejected-clause-reply c =
    let wrong : Rejected c.in-Rejected.reason ≡ Accepted c.args.certificate.now.bound = sym c.in-Rejected.is ∙ (c.in_ok-judge.ensures.accepted c.args.certificate.now.bound).1 (c.requires, refl) in
    absurd (cc)
