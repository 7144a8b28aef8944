use Rattle.std.proofs.Common.{◌≡◌, sym, ap, ◌∙◌, subst, subst₂, IfOk}
use Rattle.avr_model.specs.Assumptions.{has_pairs}
use Rattle.edge_rules.specs.Expansion.{AreSeeds}
use Rattle.edge_laws.specs.Expansions.{AreSeedsAscending}
use Rattle.family_edges.specs.Expanding.{IsExpanded}
use Rattle.certificate.proofs.AllLaws.{claims_are_seeds}
use Rattle.cert_check.specs.Reading.{read_seeds}
use Rattle.cert_check.proofs.ReadAs.{seeds_read, ascending_read, own_is_read, same_mode}
use Rattle.cert_check.proofs.judging.expanded.Goals as goal
use Rattle.local_rules.specs.Site.{task_with}
use Rattle.family_edges.specs.Tasks.{task_of}

pub expand-requires-clause-seeds : goal.expand-requires-clause-seeds
expand-requires-clause-seeds c =
    let claim = c.args.certificate.now in
    let same : has_pairs claim.assumptions ≡ has_pairs c.args.task.now.assumptions.now =
    ap has_pairs (sym c.assumptions.ensures) ∙ sym c.has_pairs.ensures ∙ same_mode c.has_pairs.result c.has_pairs-followed.result c.if-has_pairs-followed.true ∙ c.has_pairs-followed.ensures in
    subst₂ (λ d b. AreSeeds d b claim.nodes) c.requires.device same (claims_are_seeds claim c.requires.claim)

pub returns-then-has_pairs-followed : goal.returns-then-has_pairs-followed
returns-then-has_pairs-followed c =
    let claim = c.args.certificate.now in
    let same : has_pairs claim.assumptions ≡ has_pairs c.args.task.now.assumptions.now =
    ap has_pairs (sym c.assumptions.ensures) ∙ sym c.has_pairs.ensures ∙ same_mode c.has_pairs.result c.has_pairs-followed.result c.if-has_pairs-followed.true ∙ c.has_pairs-followed.ensures in
    subst (λ own. IfOk c.expand.result (IsExpanded (task_of c.args.task.now) own))
    (sym (ap (λ b. read_seeds b claim.nodes) (sym same) ∙ own_is_read claim c.requires.claim)) c.expand.ensures

pub expand-requires-2-clause-seeds : goal.expand-requires-2-clause-seeds
expand-requires-2-clause-seeds c =
    let claim = c.args.certificate.now in
    let A = c.args.task.now.assumptions.now in
    let read : c.in_ok-reading.reading.nodes.items ≡ read_seeds (has_pairs A) claim.nodes =
    c.in_ok-reading.ensures ∙ ap (λ b. read_seeds b claim.nodes) c.has_pairs-followed.ensures in
    subst₂ (λ d own. AreSeeds d (has_pairs A) own) c.requires.device (sym read) (seeds_read claim c.requires.claim (has_pairs A))

pub expand-requires-2-clause-ascending : goal.expand-requires-2-clause-ascending
expand-requires-2-clause-ascending c =
    let claim = c.args.certificate.now in
    let A = c.args.task.now.assumptions.now in
    let read : c.in_ok-reading.reading.nodes.items ≡ read_seeds (has_pairs A) claim.nodes =
    c.in_ok-reading.ensures ∙ ap (λ b. read_seeds b claim.nodes) c.has_pairs-followed.ensures in
    subst AreSeedsAscending (sym read) (ascending_read claim c.requires.claim (has_pairs A))

pub returns : goal.returns
returns c =
    let claim = c.args.certificate.now in
    let A = c.args.task.now.assumptions.now in
    let read : c.in_ok-reading.reading.nodes.items ≡ read_seeds (has_pairs A) claim.nodes =
    c.in_ok-reading.ensures ∙ ap (λ b. read_seeds b claim.nodes) c.has_pairs-followed.ensures in
    subst (λ own. IfOk c.expand-2.result (IsExpanded (task_with c.args.task.now.flash.now A) own)) read c.expand-2.ensures
