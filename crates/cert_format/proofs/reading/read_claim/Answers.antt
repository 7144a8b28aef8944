use Rattle.std.proofs.Common.{arith}
use Rattle.avr_model.proofs.AllLaws.{devices_are_alike}
use Rattle.cert_format.proofs.reading.read_claim.Goals as goal

pub of_version-claim-requires : goal.of_version-claim-requires
of_version-claim-requires c =
    rw c.version_with-version.ensures
    (c.certificate_texts.ensures.parts _ _ _ _ _ _ _ _ _ _ c.in_ok-first.ensures.small c.in_ok-assumptions.ensures c.in_ok-instances.ensures (rw (c.deref.ensures.value, c.version_with-version.ensures) at c.in_ok-nodes.ensures))

pub overflow_cast-bound : goal.overflow_cast-bound
overflow_cast-bound c = omega (arith, c.in_ok-first.ensures.small, devices_are_alike.most_depth c.args.device)
