use Rattle.cert_check.proofs.ReadAs.{open_by_form}
use Rattle.cert_check.proofs.landing.is_open.Goals as goal

pub returns-else-followed : goal.returns-else-followed
returns-else-followed c = λ k has.
    let both = open_by_form c.args.followed c.args.certificate.now.nodes c.args.at k _ c.if-followed.false c.requires.ascending c.seed.ensures has in
    (λ h. both.0 (c.tells_nothing.ensures.0 h), λ o. c.tells_nothing.ensures.1 (both.1 o))
