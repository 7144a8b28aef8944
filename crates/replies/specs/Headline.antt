-- What answers state of the bytes that were read, and when they are given.
use Rattle.std.specs.Prelude.{◌≡◌, ◌≢◌, ◌↔◌, ◌≤◌, ⊤, Bool, true, false, ℕ, List, [], length, Option, Some, None}
use Rattle.std.specs.Option.{is_some}
use Rattle.avr_model.specs.declared.assumption.Entry.{Entry}
use Rattle.avr_model.specs.declared.device.Device.{Device}
use Rattle.avr_model.specs.Devices.{Image, device_of}
use Rattle.avr_model.specs.declared.choice.Choice.{Choice}
use Rattle.avr_model.specs.declared.choice.Stop.TheVariants.{End}
use Rattle.avr_model.specs.State.{State, IsReset}
use Rattle.avr_model.specs.Run.{IsRun, stop_of, depth_of, Bounded}
use Rattle.assumption_files.specs.Exact.{IsListReading}
use Rattle.certificate.specs.Claims.{Claim, IsClaim, IsCertificate}
use Rattle.certificate.specs.Valid.{IsValid}
use Rattle.cert_words.specs.Text.{text_of}
use Rattle.round_rules.specs.declared.refusal.Refusal.{Refusal}
use Rattle.round_rules.specs.declared.refusal.Refusal.TheVariants.{Memory}
use Rattle.round_rules.specs.Refusals.{GoesBeyond}
use Rattle.round_rules.specs.Solutions.{IsAnswer, IsRefusal}
use Rattle.flash_image.specs.Naming.{Named, SayTheSame}
use Rattle.chain_explain.specs.declared.explanation.Explanation.{Explanation}
use Rattle.chain_explain.specs.Explanation.{IsExplanation}
use Rattle.chain_explain.specs.Told.{Tells}
use Rattle.reports.specs.Explained.{explanation_text}
use Rattle.guided_trials.specs.Attaining.{IsCompleted, AttainedWhere}
use Rattle.clear_laws.specs.Clear.{NeverFlagged}
use Rattle.clear_laws.specs.declared.place.FlaggedPlace.{FlaggedPlace}
use Rattle.clear_laws.specs.Places.{ArePlaces, AllTellCauses}
use Rattle.clear_laws.specs.CertificateLaws.{IsBoundedAndClear, EndFlaggedAt, EndFlaggedAsTold}
use Rattle.clear_laws.specs.declared.verdict.ClearVerdict.{ClearVerdict}
use Rattle.clear_laws.specs.declared.verdict.ClearVerdict.TheVariants.{Clear as AllClear}
use Rattle.clear_laws.specs.Verdict.{AreAllClear, IsFirstUnclear, IsClearVerdict, AreSites, AreNevers}
use Rattle.demo_image.specs.Image.{demo_program}
use Rattle.peripherals.specs.Spelling.{Setup}
use Rattle.peripherals.specs.Exact.{IsSetupReading as ArePeripherals}
use Rattle.peripherals.specs.Simulating.{simulation_of}
use Rattle.commands.specs.Commands.{Work, Check, Analyse, Run, Explain, Clear, Premises, Attain, Simulate, Command, On, Demo, About}
use Rattle.commands.specs.About.{about_text}
use Rattle.local_rules.specs.Machine.{AreWords}
use Rattle.replies.specs.declared.status.Status.{Status}
use Rattle.replies.specs.declared.status.Status.TheVariants as exit
use Rattle.replies.specs.Firmware.{IsFirmware, firmware_image, firmware_names}
use Rattle.replies.specs.Texts.{accepted, run_text, demo_text}
use Rattle.replies.specs.Places.{premises_text, why_text}
use Rattle.replies.specs.Reading.{Seen, Whole, Contents, certificate_cap}
use Rattle.replies.specs.Analysis.{TrialsFind}
use Rattle.replies.specs.Reply.{AcceptedReply, IsReply}
use Rattle.local_rules.specs.Site.{Task, bare}

-- these bytes were read of an optional file
abbrev pub IsSeen : Option (List ℕ) → Seen → Option (List ℕ) → Type 0
IsSeen None seen list = list ≡ None
IsSeen (Some name) seen None = ⊥
IsSeen (Some name) seen (Some bytes) = seen ≡ Whole bytes

-- these bytes were read of the firmware, and of the assumption file if there is one
pub record AreLoaded (assume : Option (List ℕ)) (seen : Contents) (firmware : List ℕ) (list : Option (List ℕ)) : Type 0 where
  pub firmware_read : seen.firmware ≡ Whole firmware
  pub list_read : IsSeen assume seen.assumptions list

-- these bytes were read of the second file too
pub record AreRead (assume : Option (List ℕ)) (seen : Contents) (firmware second : List ℕ) (list : Option (List ℕ)) : Type 0 where
  pub loaded : AreLoaded assume seen firmware list
  pub second_read : seen.second ≡ Whole second

-- the assumptions in an assumption file's bytes for a device, or none without such a file
abbrev pub IsListOf : Device → Option (List ℕ) → List Entry → Type 0
IsListOf device None A = A ≡ []
IsListOf device (Some bytes) A = IsListReading device bytes A

-- the bytes of a firmware for a device and of an assumption file stand for these words and assumptions
pub record Mean (device : Device) (firmware : List ℕ) (list : Option (List ℕ)) (task : Task) : Type 0 where
  pub image : IsFirmware device firmware task.flash
  pub assumptions : IsListOf device list task.assumptions

-- the bytes of a certificate stand for this claim too
pub record StandFor (device : Device) (firmware certificate : List ℕ) (list : Option (List ℕ)) (task : Task) (claim : Claim) : Type 0 where
  pub mean : Mean device firmware list task
  pub made_for : claim.device ≡ device
  pub fits : IsCertificate claim
  pub bytes : certificate ≡ text_of claim

-- ---- a certificate that is accepted

-- The text is that of the certificate's explanation with these names of words, and the explanation accounts for the bytes of the bound.
pub record IsExplained (names : List Named) (task : Task) (c : Claim) (text : List ℕ) : Type 0 where
  pub explanation : Explanation
  pub is : IsExplanation task c explanation
  pub tells : Tells task c explanation
  pub told : text ≡ explanation_text (device_of task.flash) c.bound names explanation

-- The text lists, with these names, the words at which some node isn't clear, and those of vectors that may be taken despite `never`
-- lines. Each run from reset that ends flagged ends at one of the first, or by taking a vector at one of the second, so no run does if
-- there are none. Without assumptions there are none exactly if `clear` accepts the certificate.
pub record TellsFlagged (names : List Named) (task : Task) (c : Claim) (text : List ℕ) : Type 0 where
  pub sites : List ℕ
  pub nevers : List ℕ
  pub are : AreSites task c sites
  pub are_nevers : AreNevers task c nevers
  pub ends : EndFlaggedAt task sites nevers
  pub none_flagged : sites ≡ [] → nevers ≡ [] → NeverFlagged task
  pub as_clear : task.assumptions ≡ [] → (verdict : ClearVerdict) → IsClearVerdict task.flash c verdict → (verdict ≡ AllClear) ↔ (sites ≡ [])
  pub told : text ≡ premises_text task.flash names c.bound sites nevers

-- As `TellsFlagged`, and each word has its causes: each run from reset that ends flagged ends at a word with the cause of its flag (this
-- protected address, a pushed byte, an unlisted word or one with a `recur` line, or a write of IVSEL), or by taking a vector at one of the
-- other words.
pub record TellsCauses (names : List Named) (task : Task) (c : Claim) (text : List ℕ) : Type 0 where
  pub places : List FlaggedPlace
  pub nevers : List ℕ
  pub are : ArePlaces task c places
  pub are_nevers : AreNevers task c nevers
  pub causes : AllTellCauses places
  pub ends : EndFlaggedAsTold task places nevers
  pub none_flagged : places ≡ [] → nevers ≡ [] → NeverFlagged task
  pub as_clear : task.assumptions ≡ [] → (verdict : ClearVerdict) → IsClearVerdict task.flash c verdict → (verdict ≡ AllClear) ↔ (places ≡ [])
  pub told : text ≡ why_text task.flash names c.bound places nevers

-- the list of words, with causes if they are asked for
abbrev pub TellsPlaces : Bool → List Named → Task → Claim → List ℕ → Type 0
TellsPlaces false names task c text = TellsFlagged names task c text
TellsPlaces true names task c text = TellsCauses names task c text

-- some run of the machine from reset ends without a stop, exactly this deep
pub record IsDepthReached (task : Task) (depth : ℕ) : Type 0 where
  pub state : State
  pub reset : IsReset (device_of task.flash) state
  pub choices : List Choice
  pub run : IsRun task.flash task.assumptions choices state
  pub ends : stop_of task.flash task.assumptions choices state ≡ End
  pub deep : depth_of task.flash task.assumptions choices state ≡ depth

-- The text is that of a certificate that equals the accepted one but for its schedule, and is valid for the same words and assumptions.
-- It is attained exactly if the accepted one is, or one of this many guided trials is as deep as the bound. Its schedule is that of the
-- accepted one, or of the first such trial, and reaches the bound exactly. If the accepted text is within the limit for certificates, so
-- is this one.
pub record IsWrittenAttained (task : Task) (trials : ℕ) (c : Claim) (text : List ℕ) : Type 0 where
  pub claim : Claim
  pub fits : IsCertificate claim
  pub told : text ≡ text_of claim
  pub completed : IsCompleted task.flash task.assumptions trials c claim
  pub attained : AttainedWhere task.flash task.assumptions trials c claim
  pub valid : IsValid task claim
  pub reached : is_some claim.witness ≡ true → IsDepthReached task claim.bound
  pub short : length (text_of c) ≤ certificate_cap → length text ≤ certificate_cap

-- what a text of a work states of an accepted certificate besides its bound, for a firmware of these bytes on the device with these words
abbrev pub Shows : Device → Work → List ℕ → Task → Claim → List ℕ → Type 0
Shows device (Explain certificate) bytes task c text = IsExplained (firmware_names device bytes) task c text
Shows device (Clear certificate) bytes task c text = IsBoundedAndClear task.flash c.bound
Shows device (Premises certificate why) bytes task c text = TellsPlaces why (firmware_names device bytes) task c text
Shows device (Attain certificate trials) bytes task c text = IsWrittenAttained task trials c text
Shows device work bytes task c text = ⊤

-- No run of the firmware's words on the device, from reset, is deeper than the bound of the certificate with this text. This holds
-- whatever memory held, whatever interrupts are taken and whatever bytes are read, up to the first step that is flagged under the
-- assumption file. The printed text is the work's answer on this certificate, with its bound, and states what else it should.
pub record Holds (device : Device) (work : Work) (firmware certificate : List ℕ) (list : Option (List ℕ)) (text : List ℕ) : Type 0 where
  pub task : Task
  pub claim : Claim
  pub stand : StandFor device firmware certificate list task claim
  pub bounded : Bounded task.flash task.assumptions claim.bound
  pub told : AcceptedReply device work firmware task claim exit.Done text
  pub shows : Shows device work firmware task claim text

-- all files of a work that judges a certificate were read, and the bound holds of their bytes
pub record HoldsAsRead (device : Device) (work : Work) (assume : Option (List ℕ)) (seen : Contents) (text : List ℕ) : Type 0 where
  pub firmware : List ℕ
  pub certificate : List ℕ
  pub list : Option (List ℕ)
  pub read : AreRead assume seen firmware certificate list
  pub holds : Holds device work firmware certificate list text

-- ---- a certificate that is written

-- The text is that of a valid certificate for the firmware on the device and the assumptions. No valid one has a smaller bound, and no
-- run of the machine is deeper. With a schedule the bound is reached, so it is the worst case. The certificate has a schedule exactly if
-- one of the trials along its deepest chain is as deep as the bound. The text is within the limit for certificates, so a file with it is
-- not refused as too long.
pub record IsLeastCertificate (device : Device) (firmware : List ℕ) (list : Option (List ℕ)) (text : List ℕ) : Type 0 where
  pub task : Task
  pub claim : Claim
  pub stand : StandFor device firmware text list task claim
  pub valid : IsValid task claim
  pub least : (other : Claim) → IsClaim other → IsValid task other → claim.bound ≤ other.bound
  pub bounded : Bounded task.flash task.assumptions claim.bound
  pub reached : is_some claim.witness ≡ true → IsDepthReached task claim.bound
  pub trials : TrialsFind task claim claim.witness
  pub short : length text ≤ certificate_cap

-- `check` of this text accepts, with the same device, firmware and assumptions
abbrev pub IsAcceptedAgain : Device → Option (List ℕ) → Contents → List ℕ → Claim → Type 0
IsAcceptedAgain device assume seen text c =
    (firmware certificate : List ℕ) → IsReply (On (record { device = device; firmware = firmware; assume = assume; work = Check certificate })) (record seen { second = Whole text }) exit.Done (accepted c.bound (is_some c.witness))

-- all files of an analysis were read, and its text is that of their least certificate
pub record IsLeastAsRead (device : Device) (assume : Option (List ℕ)) (seen : Contents) (text : List ℕ) : Type 0 where
  pub firmware : List ℕ
  pub list : Option (List ℕ)
  pub read : AreLoaded assume seen firmware list
  pub certificate : IsLeastCertificate device firmware list text
  pub again : IsAcceptedAgain device assume seen text certificate.claim

-- all files of `attain` were read, the bound holds of their bytes, and `check` accepts what is written
pub record IsAttainedAsRead (device : Device) (certificate : List ℕ) (assume : Option (List ℕ)) (trials : ℕ) (seen : Contents) (text : List ℕ) : Type 0 where
  pub holds : HoldsAsRead device (Attain certificate trials) assume seen text
  pub again : IsAcceptedAgain device assume seen text holds.holds.shows.claim

-- ---- a run that is simulated

-- The text reports the run that these peripherals choose. It is no deeper than the bound of any certificate that is valid for this firmware
-- and these assumptions, and those are the ones that `check` accepts.
pub record IsSimulated (device : Device) (steps : ℕ) (firmware peripherals : List ℕ) (list : Option (List ℕ)) (text : List ℕ) : Type 0 where
  pub task : Task
  pub setup : Setup
  pub mean : Mean device firmware list task
  pub reads : ArePeripherals device peripherals setup
  pub told : text ≡ run_text (device_of task.flash) (simulation_of task.flash task.assumptions setup steps)
  pub within : (c : Claim) → IsClaim c → IsValid task c → (simulation_of task.flash task.assumptions setup steps).depth ≤ c.bound

-- all files of a simulation were read, and its text is such a report
pub record IsSimulatedAsRead (device : Device) (assume : Option (List ℕ)) (steps : ℕ) (seen : Contents) (text : List ℕ) : Type 0 where
  pub firmware : List ℕ
  pub peripherals : List ℕ
  pub list : Option (List ℕ)
  pub read : AreRead assume seen firmware peripherals list
  pub simulated : IsSimulated device steps firmware peripherals list text

-- ---- the numbers of an image

-- the text has the size of the image and the numbers of the certificate at which its rounds end
pub record IsMeasured (size : ℕ) (text : List ℕ) : Type 0 where
  pub claim : Claim
  pub fits : IsClaim claim
  pub answer : IsAnswer (bare (demo_program size)) None claim
  pub told : text ≡ demo_text size claim

-- ---- what status 0 says

-- If a certificate is accepted, the bound holds, an explanation accounts for its bytes, no step is flagged if all nodes are clear, and
-- steps are flagged only at listed words with listed causes. If one is written, it is the least, or the accepted one with a schedule that
-- reaches its bound. A simulated run stays within each accepted bound. The numbers of an image are those of its rounds.
abbrev pub WorkHeadline : Device → Option (List ℕ) → Work → Contents → Status → List ℕ → Type 0
WorkHeadline device assume (Analyse steps) seen status text = status ≡ exit.Done → IsLeastAsRead device assume seen text
WorkHeadline device assume (Run schedule) seen status text = ⊤
WorkHeadline device assume (Clear certificate) seen status text = status ≡ exit.Done → HoldsAsRead device (Clear certificate) None seen text
WorkHeadline device assume (Attain certificate trials) seen status text = status ≡ exit.Done → IsAttainedAsRead device certificate assume trials seen text
WorkHeadline device assume (Simulate peripherals steps) seen status text = status ≡ exit.Done → IsSimulatedAsRead device assume steps seen text
WorkHeadline device assume work seen status text = status ≡ exit.Done → HoldsAsRead device work assume seen text

abbrev pub Headline : Command → Contents → Status → List ℕ → Type 0
Headline (On request) seen status text = WorkHeadline request.device request.assume request.work seen status text
Headline (Demo size) seen status text = status ≡ exit.Done → IsMeasured size text
Headline (About topic) seen status text = text ≡ about_text topic

-- ---- when the answers come

-- the certificate that a work accepts, for these words under these assumptions: it is valid, and for `clear` all nodes are clear
abbrev pub Accepts : Work → Task → Claim → Type 0
Accepts (Clear certificate) task c = IsValid task c × AreAllClear task c
Accepts work task c = IsValid task c

-- the certificate has a node that isn't clear, for a work that asks
abbrev pub Blames : Work → Task → Claim → Type 0
Blames (Clear certificate) task c = IsValid task c × ((node pc : ℕ) × IsFirstUnclear task c node pc)
Blames work task c = ⊥

-- the status says whether the certificate is accepted, has a node that isn't clear, or isn't valid
pub record SaysWhether (work : Work) (task : Task) (c : Claim) (status : Status) : Type 0 where
  pub accepted : (status ≡ exit.Done) ↔ Accepts work task c
  pub unclear : (status ≡ exit.Unclear) ↔ Blames work task c
  pub rejected : (status ≡ exit.Rejected) ↔ (IsValid task c → ⊥)

-- `SaysWhether` for the files of a command, if they are well-formed
abbrev pub AcceptsExactly : Device → Work → Option (List ℕ) → Contents → Status → Type 0
AcceptsExactly device work assume seen status =
    (firmware certificate : List ℕ) (list : Option (List ℕ)) (task : Task) (claim : Claim)
    → AreRead assume seen firmware certificate list → StandFor device firmware certificate list task claim → SaysWhether work task claim status

-- some certificate is valid for the words and the assumptions
abbrev pub HasValid : Task → Type 0
HasValid task = (c : Claim) × IsClaim c × IsValid task c

-- The status says how the rounds end: within the budget with a certificate, or with a cause against it, or at no family within the
-- budget. Without a budget the answer is a certificate exactly if a valid one exists.
pub record SaysHowRoundsEnd (task : Task) (steps : Option ℕ) (status : Status) : Type 0 where
  pub solved : (status ≡ exit.Done) ↔ ((c : Claim) × IsClaim c × IsAnswer task steps c)
  pub refused : (status ≡ exit.NoCertificate) ↔ ((r : Refusal) × (r ≢ Memory) × IsRefusal task steps r)
  pub spent : (status ≡ exit.Spent) ↔ ((n : ℕ) × (steps ≡ Some n) × GoesBeyond task n)
  pub valid : steps ≡ None → (status ≡ exit.Done) ↔ HasValid task

-- `SaysHowRoundsEnd` for the files of an analysis, if they are well-formed
abbrev pub AnswersRounds : Device → Option (List ℕ) → Option ℕ → Contents → Status → Type 0
AnswersRounds device assume steps seen status =
    (firmware : List ℕ) (list : Option (List ℕ)) (task : Task)
    → AreLoaded assume seen firmware list → Mean device firmware list task → SaysHowRoundsEnd task steps status

-- If the files of a simulation were read, and firmware and assumptions are well-formed, it is refused exactly if the peripherals' text is
-- malformed.
abbrev pub AnswersPeripherals : Device → Option (List ℕ) → Contents → Status → Type 0
AnswersPeripherals device assume seen status =
    (firmware peripherals : List ℕ) (list : Option (List ℕ)) (task : Task)
    → AreRead assume seen firmware peripherals list → Mean device firmware list task → (status ≡ exit.Done) ↔ ((setup : Setup) × ArePeripherals device peripherals setup)

abbrev pub IsWorkExact : Device → Option (List ℕ) → Work → Contents → Status → Type 0
IsWorkExact device assume (Analyse steps) seen status = AnswersRounds device assume steps seen status
IsWorkExact device assume (Run schedule) seen status = ⊤
IsWorkExact device assume (Clear certificate) seen status = AcceptsExactly device (Clear certificate) None seen status
IsWorkExact device assume (Simulate peripherals steps) seen status = AnswersPeripherals device assume seen status
IsWorkExact device assume work seen status = AcceptsExactly device work assume seen status

abbrev pub IsExact : Command → Contents → Status → Type 0
IsExact (On request) seen status = IsWorkExact request.device request.assume request.work seen status
IsExact (Demo size) seen status = SaysHowRoundsEnd (bare (demo_program size)) None status
IsExact (About topic) seen status = status ≡ exit.Done

-- ---- laws

-- the answer to what was read of a command's files is unique
abbrev pub RepliesAreOne : Type 0
RepliesAreOne = (command : Command) (seen : Contents) (s t : Status) (a b : List ℕ) → IsReply command seen s a → IsReply command seen t b → (s ≡ t) × (a ≡ b)

-- the words of a command's firmware have 16 bits
abbrev pub HasWords : Command → List ℕ → Type 0
HasWords (On request) firmware = AreWords (firmware_image request.device firmware)
HasWords (Demo size) firmware = ⊤
HasWords (About topic) firmware = ⊤

-- `HasWords` for the firmware that was read
abbrev pub ReadsWords : Command → Contents → Type 0
ReadsWords command seen = (firmware : List ℕ) → seen.firmware ≡ Whole firmware → HasWords command firmware

abbrev pub AcceptingRepliesHold : Type 0
AcceptingRepliesHold =
    (command : Command) (seen : Contents) (status : Status) (text : List ℕ) → IsReply command seen status text → (status ≡ exit.Done → ReadsWords command seen) → Headline command seen status text

abbrev pub RepliesAreExact : Type 0
RepliesAreExact = (command : Command) (seen : Contents) (status : Status) (text : List ℕ) → IsReply command seen status text → IsExact command seen status

-- lists of names that agree on each word give the same texts of words at which a step may be flagged
abbrev pub PlacesSayTheSame : Type 0
PlacesSayTheSame =
    (image : Image) (names others : List Named) (bound : ℕ) (sites nevers : List ℕ) → SayTheSame names others
    → premises_text image names bound sites nevers ≡ premises_text image others bound sites nevers

-- they also give the same texts of these words with causes
abbrev pub CausesSayTheSame : Type 0
CausesSayTheSame =
    (image : Image) (names others : List Named) (bound : ℕ) (places : List FlaggedPlace) (nevers : List ℕ) → SayTheSame names others
    → why_text image names bound places nevers ≡ why_text image others bound places nevers
