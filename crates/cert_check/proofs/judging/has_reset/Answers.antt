use Rattle.std.proofs.Common.{subst₂}
use Rattle.std.specs.Prelude.{◌↔◌, IsTrue}
use Rattle.cert_check.specs.Reading.{LandsOpen}
use Rattle.cert_check.proofs.Verdicts.{reset_slots, reset_is}
use Rattle.cert_check.proofs.judging.has_reset.Goals as goal

pub lands-requires-clause-slots : goal.lands-requires-clause-slots
lands-requires-clause-slots c =
    reset_slots c.args.task.now.assumptions.now c.root-2.result c.entry-key.result c.in_ok-state.state c.root-2.ensures c.entry-key.ensures c.in_ok-state.ensures

pub returns : goal.returns
returns c =
    subst₂ (λ followed n. IsTrue c.lands.result ↔ LandsOpen followed c.args.certificate.now.nodes c.args.nodes.now n) c.has_pairs.ensures
    (reset_is c.args.task.now.assumptions.now c.root-2.result c.entry-key.result c.in_ok-state.state c.root-2.ensures c.entry-key.ensures c.in_ok-state.ensures) c.lands.ensures
