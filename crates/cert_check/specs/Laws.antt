-- Laws of verdicts.
use Rattle.std.specs.Prelude.{ℕ, ◌≡◌, ◌↔◌}
use Rattle.avr_model.specs.Run.{Bounded}
use Rattle.local_rules.specs.Machine.{AreWords}
use Rattle.certificate.specs.Claims.{Claim, IsClaim}
use Rattle.certificate.specs.Valid.{IsSound, IsAttained, IsValid}
use Rattle.cert_check.specs.declared.verdict.Judgement.{Judgement}
use Rattle.cert_check.specs.declared.verdict.Judgement.TheVariants.{Accepted}
use Rattle.cert_check.specs.Verdict.{IsVerdict}
use Rattle.local_rules.specs.Site.{Task}

-- a certificate has at most one verdict
abbrev pub VerdictsAreOne : Type 0
VerdictsAreOne = (task : Task) (c : Claim) (v w : Judgement ℕ) → IsClaim c → IsVerdict task c v → IsVerdict task c w → v ≡ w

-- if all conditions but that on the schedule hold, every run from reset stays within the bound
abbrev pub SoundCertificatesBoundEveryRun : Type 0
SoundCertificatesBoundEveryRun = (task : Task) (c : Claim) → AreWords task.flash → IsClaim c → IsSound task c → Bounded task.flash task.assumptions c.bound

-- a certificate is valid exactly if the verdict accepts it and its schedule, if it has one, attains the bound
abbrev pub ValidWhereAcceptedAndAttained : Type 0
ValidWhereAcceptedAndAttained = (task : Task) (c : Claim)
    → IsValid task c ↔ (IsVerdict task c (Accepted c.bound) × IsAttained task c.bound c.witness)
