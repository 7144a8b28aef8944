-- The greatest length of a certificate's text. Source: own.
use Rattle.std.specs.Prelude.{ℕ, ◌≤◌, length, IfSome}
use Rattle.witness_replay.specs.Spelling.{Plan, choices_of}
use Rattle.certificate.specs.Claims.{Claim, IsCertificate}
use Rattle.cert_words.specs.Text.{text_of}

-- the most bytes of a certificate's file: 192 MiB
abbrev pub most_bytes : ℕ
most_bytes = 201326592

-- the schedule has at most 200,000 choices, as many as a trial
abbrev pub HasFewChoices : Plan → Type 0
HasFewChoices plan = length (choices_of plan.runs) ≤ 200000

-- The text of a certificate fits the file, if its schedule has few choices or it has none.
abbrev pub TextsFit : Type 0
TextsFit = (c : Claim) → IsCertificate c → IfSome c.witness HasFewChoices → length (text_of c) ≤ most_bytes
