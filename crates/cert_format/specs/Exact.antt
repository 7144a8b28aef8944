-- The texts that are certificates for a device, by the spelling alone.
use Rattle.std.specs.Prelude.{◌≡◌, ◌≤◌, ℕ, List, false, None, Result, Ok}
use Rattle.avr_model.specs.declared.assumption.Entry.{Entry}
use Rattle.avr_model.specs.declared.device.Device.{Device}
use Rattle.avr_model.specs.Devices.{depth_of}
use Rattle.text_base.specs.Answers.{Answers}
use Rattle.text_base.specs.Lines.{Position}
use Rattle.edge_rules.specs.Expansion.{Seeds}
use Rattle.certificate.specs.declared.instance.Inst.{Inst}
use Rattle.certificate.specs.declared.version.Version.{Version}
use Rattle.certificate.specs.Claims.{Claim, IsClaim, IsCertificate}
use Rattle.certificate.specs.Versions.{says_device}
use Rattle.cert_words.specs.Text.{text_of}
use Rattle.cert_format.specs.declared.fault.CertFault.{CertFault}
use Rattle.cert_format.specs.declared.fault.CertFault.TheVariants.{Memory}
use Rattle.cert_format.specs.Reading.{version_with, entries_at, insts_at, nodes_at, certificate_in}

-- A text that is that of a certificate for the device has the certificate as answer, or memory ran out.
abbrev pub AnswersSpelled : Device → List ℕ → Result Claim CertFault → Type 0
AnswersSpelled device text answer = (c : Claim) → IsCertificate c → c.device ≡ device → text ≡ text_of c → Answers (λ x. x) Memory answer (Ok c)

-- what is read is a certificate for the device, and the text is its text
abbrev pub ReadCertificateIsSpelled : Type 0
ReadCertificateIsSpelled = (device : Device) (text : List ℕ) (c : Claim) → certificate_in device text ≡ Ok c → (c.device ≡ device) × (text ≡ text_of c) × IsCertificate c

-- the text of a certificate is read for its device as the certificate
abbrev pub SpelledCertificateIsRead : Type 0
SpelledCertificateIsRead = (c : Claim) → IsCertificate c → certificate_in c.device (text_of c) ≡ Ok c

-- Two certificates with one text are equal if they are for one device, or if the text says its device.
abbrev pub CertificatesHaveOneText : Type 0
CertificatesHaveOneText =
    (a b : Claim) → IsCertificate a → IsCertificate b → (says_device a.device ≡ false → says_device b.device ≡ false → a.device ≡ b.device)
    → text_of a ≡ text_of b → a ≡ b

-- the parts that are read form a claim
abbrev pub PartsMakeClaims : Type 0
PartsMakeClaims =
    (device : Device) (version : Version) (a b c d : Position) (n : ℕ) (es : List Entry) (xs : List Inst) (ns : Seeds) → n ≤ depth_of device
    → entries_at device version a ≡ Ok (es, b) → insts_at device b ≡ Ok (xs, c) → nodes_at device (version_with (says_device device) version es) xs c ≡ Ok (ns, d)
    → IsClaim (record { device = device; version = version_with (says_device device) version es; bound = n; assumptions = es; instances = xs; nodes = ns; witness = None })
