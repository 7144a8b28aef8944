-- The program's answer to a command, by the contents of its files. Source: own.
use Rattle.std.specs.Prelude.{◌⊎◌, ℕ, ◌==◌, ◌&&◌, List, [], ◌∷◌, Bool, true, false, Option, Some, None, Result, Ok, Err}
use Rattle.std.specs.Option.{is_some}
use Rattle.avr_model.specs.declared.assumption.Entry.{Entry}
use Rattle.avr_model.specs.declared.device.Device.{Device}
use Rattle.avr_model.specs.declared.choice.Stop.{Stop}
use Rattle.avr_model.specs.declared.choice.Stop.TheVariants as stop
use Rattle.avr_model.specs.Devices.{Image, device_of}
use Rattle.text_base.specs.Lines.{Position, TextLine, lines_of}
use Rattle.assumption_files.specs.declared.fault.AssumeText.{AssumeText}
use Rattle.assumption_files.specs.Reading.{entries_in}
use Rattle.witness_replay.specs.Spelling.{Plan}
use Rattle.witness_replay.specs.Reading.{schedule_in}
use Rattle.witness_replay.specs.Replay.{Report as Replayed, replay_of}
use Rattle.certificate.specs.Claims.{Claim, IsClaim}
use Rattle.certificate.specs.Valid.{IsAttained}
use Rattle.guided_trials.specs.Attaining.{IsCompleted}
use Rattle.cert_words.specs.Text.{text_of}
use Rattle.round_rules.specs.declared.refusal.Refusal.{Refusal}
use Rattle.round_rules.specs.Solutions.{IsAnswer, IsWhyNot}
use Rattle.flash_image.specs.Naming.{Named}
use Rattle.reports.specs.Report.{plain_text}
use Rattle.reports.specs.Json.{json_text}
use Rattle.chain_explain.specs.declared.explanation.Explanation.{Explanation}
use Rattle.chain_explain.specs.Explanation.{IsExplanation}
use Rattle.reports.specs.Explained.{explanation_text}
use Rattle.clear_laws.specs.declared.verdict.ClearVerdict.{ClearVerdict}
use Rattle.clear_laws.specs.declared.verdict.ClearVerdict.TheVariants as clear
use Rattle.clear_laws.specs.Verdict.{IsClearVerdict, AreSites, AreNevers}
use Rattle.clear_laws.specs.declared.place.FlaggedPlace.{FlaggedPlace}
use Rattle.clear_laws.specs.Places.{ArePlaces}
use Rattle.demo_image.specs.Image.{demo_program}
use Rattle.peripherals.specs.declared.peripherals.PeripheralsFault.{PeripheralsFault}
use Rattle.peripherals.specs.Spelling.{Setup}
use Rattle.peripherals.specs.Reading.{setup_in}
use Rattle.peripherals.specs.Simulating.{simulation_of}
use Rattle.cert_format.specs.declared.fault.CertFault.{CertFault}
use Rattle.cert_format.specs.Reading.{certificate_in}
use Rattle.cert_check.specs.Verdict.{IsVerdict}
use Rattle.cert_check.specs.declared.verdict.Judgement.{Judgement}
use Rattle.cert_check.specs.declared.verdict.Judgement.TheVariants.{Accepted, Rejected}
use Rattle.commands.specs.Commands.{Work, Analyse, Run, Report, Explain, Clear, Premises, Attain, Simulate, Command, On, Demo, About, Firmware, Second, Assumptions, name_of}
use Rattle.commands.specs.About.{about_text}
use Rattle.replies.specs.declared.status.Status.{Status}
use Rattle.replies.specs.declared.status.Status.TheVariants as exit
use Rattle.replies.specs.Firmware.{firmware_image, firmware_fault, firmware_names, firmware_end}
use Rattle.replies.specs.Texts.{too_long, assumptions_refused, certificate_refused, schedule_malformed, schedule_illegal, peripherals_refused, accepted, rejected, witness_rejected, run_text, why_not_text, why_not_status, demo_text}
use Rattle.replies.specs.Places.{clear_text, unclear_text, premises_text, why_text}
use Rattle.replies.specs.Reading.{Seen, Unread, Whole, Long, Contents}
use Rattle.replies.specs.Analysis.{IsAnalysis}
pub use Rattle.replies.specs.Says.{Reply, Says, Refuses}
use Rattle.local_rules.specs.Site.{Task, bare, task_with}
use Rattle.elf_load.specs.declared.Loaded.{Loaded}

-- ---- files

-- continues with the bytes of a file that was read
abbrev pub WithFile : List ℕ → Seen → (List ℕ → Reply) → Reply
WithFile name Unread next status text = ⊥
WithFile name (Whole bytes) next status text = next bytes status text
WithFile name Long next status text = Says exit.TooLong (too_long name) status text

-- continues with the bytes of an optional file, or with none
abbrev pub WithBytes : Option (List ℕ) → Seen → (List ℕ → Reply) → Reply
WithBytes None seen next status text = next [] status text
WithBytes (Some name) seen next status text = WithFile name seen next status text

-- continues with the bytes of an optional file, where no file differs from an empty one
abbrev pub WithOptional : Option (List ℕ) → Seen → (Option (List ℕ) → Reply) → Reply
WithOptional None seen next status text = next None status text
WithOptional (Some name) seen next status text = WithFile name seen (λ bytes. next (Some bytes)) status text

-- ---- firmware and assumptions

abbrev pub ImageBy : Option (List ℕ) → Reply → Reply
ImageBy (Some refusal) reply status text = Says exit.BadFirmware refusal status text
ImageBy None reply status text = reply status text

-- continues with the words of a firmware on a device
abbrev pub WithImage : Device → List ℕ → (Image → Reply) → Reply
WithImage device bytes next = ImageBy (firmware_fault device bytes) (next (firmware_image device bytes))

abbrev pub ListBy : Result (List Entry) AssumeText → (List Entry → Reply) → Reply
ListBy (Ok entries) next status text = next entries status text
ListBy (Err fault) next status text = Refuses exit.BadAssumptions (assumptions_refused fault) status text

-- continues with the assumptions of a file for a device, or with none
abbrev pub WithList : Device → Option (List ℕ) → (List Entry → Reply) → Reply
WithList device None next = next []
WithList device (Some bytes) next = ListBy (entries_in device bytes) next

-- ---- commands that judge

abbrev pub is_end : Stop → Bool
is_end stop.End = true
is_end _ = false

-- the schedule meets no illegal choice, ends without a stop, and is as deep as the bound
abbrev pub attains : ℕ → Result Replayed ℕ → Bool
attains bound (Err step) = false
attains bound (Ok r) = is_end r.stop && (r.depth == bound)

-- continues if the schedule attains the bound
abbrev pub AttainedBy : Reply → Bool → Reply
AttainedBy next true status text = next status text
AttainedBy next false status text = Says exit.Rejected witness_rejected status text

abbrev pub WitnessReply : Task → Reply → ℕ → Option Plan → Reply
WitnessReply task next bound None status text = next status text
WitnessReply task next bound (Some plan) status text = AttainedBy next (attains bound (replay_of task.flash task.assumptions plan)) status text

abbrev pub VerdictReply : Task → (Claim → Reply) → Claim → Judgement ℕ → Reply
VerdictReply task next c (Rejected reason) status text = Says exit.Rejected (rejected (device_of task.flash) reason) status text
VerdictReply task next c (Accepted bound) status text = WitnessReply task (next c) bound c.witness status text

-- the answer by the verdict on a certificate
pub record JudgedReply (task : Task) (next : Claim → Reply) (c : Claim) (status : Status) (text : List ℕ) : Type 0 where
  pub verdict : Judgement ℕ
  pub is : IsVerdict task c verdict
  pub reply : VerdictReply task next c verdict status text

-- the answer to a certificate that is read; continues with an accepted one
abbrev pub CertificateReply : Task → (Claim → Reply) → Result Claim CertFault → Reply
CertificateReply task next (Err fault) status text = Refuses exit.BadCertificate (certificate_refused fault) status text
CertificateReply task next (Ok c) status text = JudgedReply task next c status text

-- the answer to the text of a certificate; continues with an accepted one
abbrev pub TextReply : Task → (Claim → Reply) → List ℕ → Reply
TextReply task next text = CertificateReply task next (certificate_in (device_of task.flash) text)

-- the line of an accepted certificate
abbrev pub CheckReply : Claim → Reply
CheckReply c = Says exit.Done (accepted c.bound (is_some c.witness))

abbrev pub report_by : Bool → Device → List Named → Option ℕ → Claim → List ℕ
report_by true device names end c = json_text device c names end
report_by false device names end c = plain_text device c names end

-- the report of an accepted certificate, for a firmware that was loaded for this device
abbrev pub ReportReply : Bool → Device → Loaded → Claim → Reply
ReportReply json device loaded c = Says exit.Done (report_by json device loaded.names loaded.static_end c)

-- what a command prints of a certificate that it accepts, for a firmware of these bytes
abbrev pub told_of : Device → Work → List ℕ → Claim → List ℕ
told_of device (Report certificate json) bytes c = report_by json device (firmware_names device bytes) (firmware_end device bytes) c
told_of device work bytes c = accepted c.bound (is_some c.witness)

-- the answer is the explanation of a certificate, with these names of words
pub record ExplainReply (names : List Named) (task : Task) (c : Claim) (status : Status) (text : List ℕ) : Type 0 where
  pub explanation : Explanation
  pub is : IsExplanation task c explanation
  pub says : Says exit.Done (explanation_text (device_of task.flash) c.bound names explanation) status text

-- the answer by whether all nodes of a certificate are clear
abbrev pub ClearSays : Image → Claim → ClearVerdict → Reply
ClearSays image c clear.Clear status text = Says exit.Done (clear_text c.bound) status text
ClearSays image c (clear.Unclear node pc) status text = Says exit.Unclear (unclear_text image node pc) status text

pub record ClearReply (image : Image) (c : Claim) (status : Status) (text : List ℕ) : Type 0 where
  pub verdict : ClearVerdict
  pub is : IsClearVerdict image c verdict
  pub says : ClearSays image c verdict status text

-- The answer lists all words at which some node of a certificate isn't clear, with these names, and those of vectors that may be taken
-- despite `never` lines.
pub record PremisesReply (names : List Named) (task : Task) (c : Claim) (status : Status) (text : List ℕ) : Type 0 where
  pub sites : List ℕ
  pub nevers : List ℕ
  pub are : AreSites task c sites
  pub are_nevers : AreNevers task c nevers
  pub says : Says exit.Done (premises_text task.flash names c.bound sites nevers) status text

-- the answer lists the words of `PremisesReply`, with causes
pub record WhyReply (names : List Named) (task : Task) (c : Claim) (status : Status) (text : List ℕ) : Type 0 where
  pub places : List FlaggedPlace
  pub nevers : List ℕ
  pub are : ArePlaces task c places
  pub are_nevers : AreNevers task c nevers
  pub says : Says exit.Done (why_text task.flash names c.bound places nevers) status text

-- the list with causes, or without
abbrev pub PlacesReply : Bool → List Named → Task → Claim → Reply
PlacesReply false names task c status text = PremisesReply names task c status text
PlacesReply true names task c status text = WhyReply names task c status text

-- The answer is the certificate with its own schedule, or else with the one that guided trials find, which attains its bound.
pub record AttainReply (task : Task) (trials : ℕ) (c : Claim) (status : Status) (text : List ℕ) : Type 0 where
  pub claim : Claim
  pub completed : IsCompleted task.flash task.assumptions trials c claim
  pub attained : IsAttained task c.bound claim.witness
  pub says : Says exit.Done (text_of claim) status text

-- the answer of a work that accepts a certificate, for a firmware of these bytes on the device with these words, under these assumptions
abbrev pub AcceptedReply : Device → Work → List ℕ → Task → Claim → Reply
AcceptedReply device (Explain certificate) bytes task c = ExplainReply (firmware_names device bytes) task c
AcceptedReply device (Clear certificate) bytes task c = ClearReply task.flash c
AcceptedReply device (Premises certificate why) bytes task c = PlacesReply why (firmware_names device bytes) task c
AcceptedReply device (Attain certificate trials) bytes task c = AttainReply task trials c
AcceptedReply device work bytes task c = Says exit.Done (told_of device work bytes c)

-- ---- run

abbrev pub RunReply : Device → Result Replayed ℕ → Reply
RunReply device (Err step) status text = Says exit.BadSchedule (schedule_illegal step) status text
RunReply device (Ok r) status text = Says exit.Done (run_text device r) status text

-- the answer to a schedule
abbrev pub ReplayReply : Task → Plan → Reply
ReplayReply task plan = RunReply (device_of task.flash) (replay_of task.flash task.assumptions plan)

-- nothing follows a schedule in its file
abbrev pub EndsBefore : List TextLine → ℕ → Reply → Reply
EndsBefore [] at reply status text = reply status text
EndsBefore (l ∷ ls) at reply status text = Says exit.BadSchedule (schedule_malformed at) status text

abbrev pub ScheduleReply : Task → Result (Plan × Position) ℕ → Reply
ScheduleReply task (Err at) status text = Says exit.BadSchedule (schedule_malformed at) status text
ScheduleReply task (Ok read) status text = EndsBefore read.1.rest read.1.at (ReplayReply task read.0) status text

-- the answer to the text of a schedule
abbrev pub ScheduleTextReply : Task → List ℕ → Reply
ScheduleTextReply task text = ScheduleReply task (schedule_in (device_of task.flash) (record { at = 0; rest = lines_of text }))

-- ---- simulate

-- the line of the run that these peripherals choose
abbrev pub simulation_text : Task → Setup → ℕ → List ℕ
simulation_text task setup steps = run_text (device_of task.flash) (simulation_of task.flash task.assumptions setup steps)

-- the report of the run that peripherals choose, if their text is well-formed
abbrev pub SimulateReply : Task → ℕ → Result Setup PeripheralsFault → Reply
SimulateReply task steps (Err fault) status text = Refuses exit.BadPeripherals (peripherals_refused fault) status text
SimulateReply task steps (Ok setup) status text = Says exit.Done (simulation_text task setup steps) status text

-- ---- analyse and demo

-- the answer is the certificate of an analysis
pub record AnalysedReply (task : Task) (steps : Option ℕ) (status : Status) (text : List ℕ) : Type 0 where
  pub claim : Claim
  pub analysis : IsAnalysis task steps claim
  pub says : Says exit.Done (text_of claim) status text

-- the answer is the reason for having no certificate
pub record WhyNotReply (task : Task) (steps : Option ℕ) (status : Status) (text : List ℕ) : Type 0 where
  pub refusal : Refusal
  pub why : IsWhyNot task steps refusal
  pub says : Refuses (why_not_status refusal) (why_not_text task.flash refusal) status text

abbrev pub AnalyseReply : Task → Option ℕ → Reply
AnalyseReply task steps status text = AnalysedReply task steps status text ⊎ WhyNotReply task steps status text

-- the answer has the numbers of an image's certificate
pub record MeasuredReply (size : ℕ) (status : Status) (text : List ℕ) : Type 0 where
  pub claim : Claim
  pub fits : IsClaim claim
  pub answer : IsAnswer (bare (demo_program size)) None claim
  pub says : Says exit.Done (demo_text size claim) status text

abbrev pub DemoReply : ℕ → Reply
DemoReply size status text = MeasuredReply size status text ⊎ WhyNotReply (bare (demo_program size)) None status text

-- ---- all

-- The answer of a work for the words of a firmware of these bytes on the device, the bytes of its second file, and these assumptions. `clear`
-- has none.
abbrev pub FlashReply : Device → Work → List ℕ → List ℕ → Task → Reply
FlashReply device (Analyse steps) firmware bytes task = AnalyseReply task steps
FlashReply device (Run schedule) firmware bytes task = ScheduleTextReply task bytes
FlashReply device (Simulate peripherals steps) firmware bytes task = SimulateReply task steps (setup_in (device_of task.flash) bytes)
FlashReply device (Clear certificate) firmware bytes task = TextReply (bare task.flash) (ClearReply task.flash) bytes
FlashReply device work firmware bytes task = TextReply task (AcceptedReply device work firmware task) bytes

-- the answer of a work for the bytes of a firmware, its second file and an assumption file, which are examined in this order
abbrev pub ImageReply : Device → Work → List ℕ → List ℕ → Option (List ℕ) → Reply
ImageReply device work firmware second list = WithImage device firmware (λ image. WithList device list (λ A. FlashReply device work firmware second (task_with image A)))

-- `demo` and what the program says of itself have no files.
abbrev pub WorkReply : Command → List ℕ → List ℕ → Option (List ℕ) → Reply
WorkReply (On request) firmware second list = ImageReply request.device request.work firmware second list
WorkReply (Demo size) firmware second list = DemoReply size
WorkReply (About topic) firmware second list = Says exit.Done (about_text topic)

-- The status and the text answer a command whose files have these contents. Files are read in this order before any is examined.
abbrev pub IsReply : Command → Contents → Reply
IsReply command seen =
    WithBytes (name_of command Firmware) seen.firmware
    (λ fw. WithBytes (name_of command Second) seen.second (λ s. WithOptional (name_of command Assumptions) seen.assumptions (λ list. WorkReply command fw s list)))
