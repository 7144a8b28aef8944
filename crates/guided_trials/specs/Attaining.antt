-- A certificate whose bound is attained if a trial shows it. Source: own.
use Rattle.std.specs.Prelude.{ℕ, ◌≡◌, ◌<◌, ◌↔◌, ◌⊎◌, true, List, Option, Some, None, IfSome}
use Rattle.std.specs.Option.{is_some}
use Rattle.avr_model.specs.declared.assumption.Entry.{Entry}
use Rattle.avr_model.specs.Devices.{Image}
use Rattle.avr_model.specs.Run.{Bounded}
use Rattle.local_rules.specs.Site.{task_with}
use Rattle.witness_replay.specs.Spelling.{Plan}
use Rattle.certificate.specs.Claims.{Claim}
use Rattle.certificate.specs.Valid.{Attains, IsValid}
use Rattle.guided_trials.specs.Guides.{guide_of}
use Rattle.guided_trials.specs.Trials.{GuidedSucceeds, IsGuidedFound}

-- the result of the first n trials of a certificate
abbrev pub IsFoundFor : Image → List Entry → ℕ → Claim → Option Plan → Type 0
IsFoundFor image A n c found = IsGuidedFound image A (guide_of image A c) n found

-- the schedule that a certificate has, or the result of the first n trials if it has none
abbrev pub IsScheduled : Image → List Entry → ℕ → Claim → Option Plan → Option Plan → Type 0
IsScheduled image A n c None found = IsFoundFor image A n c found
IsScheduled image A n c (Some plan) found = found ≡ Some plan

-- d is c with the schedule of c, or of the first trial below n whose depth is at least the bound.
pub record IsCompleted (image : Image) (A : List Entry) (n : ℕ) (c d : Claim) : Type 0 where
  pub same : d ≡ record c { witness = d.witness }
  pub schedule : IsScheduled image A n c c.witness d.witness

-- one of the first n trials succeeds
abbrev pub SomeSucceeds : Image → List Entry → ℕ → Claim → Type 0
SomeSucceeds image A n c = (t : ℕ) × (t < n) × GuidedSucceeds image A (guide_of image A c) t

-- d is attained exactly if c is or some trial succeeds
abbrev pub AttainedWhere : Image → List Entry → ℕ → Claim → Claim → Type 0
AttainedWhere image A n c d = (is_some d.witness ≡ true) ↔ ((is_some c.witness ≡ true) ⊎ SomeSucceeds image A n c)

-- If the bound bounds all runs, a schedule that is found attains it.
abbrev pub AttainsIfBounded : Image → List Entry → ℕ → Option Plan → Type 0
AttainsIfBounded image A bound found = IfSome found (λ plan. Bounded image A bound → Attains (task_with image A) bound plan)

-- If the bound of c bounds all runs and c is valid, d is valid.
abbrev pub KeepsValid : Image → List Entry → Claim → Claim → Type 0
KeepsValid image A c d = Bounded image A c.bound → IsValid (task_with image A) c → IsValid (task_with image A) d
