-- The answer to the contents of a command's files is unique.
use Rattle.std.proofs.Common.{◌≡◌, ℕ, Bool, true, false, List, [], ◌∷◌, Option, Some, None, Result, Ok, Err, refl, sym, ap, ap₂, ◌∙◌, subst}
use Rattle.avr_model.specs.declared.assumption.Entry.{Entry}
use Rattle.avr_model.specs.declared.device.Device.{Device}
use Rattle.avr_model.specs.Devices.{Image, device_of}
use Rattle.text_base.specs.Lines.{Position, TextLine}
use Rattle.assumption_files.specs.declared.fault.AssumeText.{AssumeText}
use Rattle.assumption_files.specs.Reading.{entries_in}
use Rattle.witness_replay.specs.Spelling.{Plan}
use Rattle.witness_replay.specs.Reading.{schedule_in}
use Rattle.witness_replay.specs.Replay.{Report as Replayed, replay_of}
use Rattle.certificate.specs.Claims.{Claim, IsClaim}
use Rattle.cert_format.specs.declared.fault.CertFault.{CertFault}
use Rattle.cert_format.specs.Reading.{certificate_in}
use Rattle.cert_format.specs.Exact.{ReadCertificateIsSpelled}
use Rattle.cert_check.specs.Laws.{VerdictsAreOne}
use Rattle.round_solutions.specs.Answers.{AnswersAreOne}
use Rattle.witness_search.specs.Laws.{WaypointsAreOne}
use Rattle.cert_check.specs.declared.verdict.Judgement.{Judgement}
use Rattle.cert_check.specs.declared.verdict.Judgement.TheVariants.{Accepted, Rejected}
use Rattle.flash_image.specs.Naming.{Named}
use Rattle.chain_explain.specs.Laws.{ExplanationsAreOne}
use Rattle.reports.specs.Explained.{explanation_text}
use Rattle.clear_laws.specs.declared.verdict.ClearVerdict.{ClearVerdict}
use Rattle.clear_laws.specs.declared.verdict.ClearVerdict.TheVariants as clear
use Rattle.clear_laws.specs.CertificateLaws.{ClearVerdictsAreOne}
use Rattle.clear_laws.specs.ListLaws.{SitesAreOne, PlacesAreOne, NeversAreOne}
use Rattle.peripherals.specs.declared.peripherals.PeripheralsFault.{PeripheralsFault}
use Rattle.peripherals.specs.Spelling.{Setup}
use Rattle.peripherals.specs.Reading.{setup_in}
use Rattle.peripherals.specs.Simulating.{simulation_of}
use Rattle.commands.specs.About.{about_text}
use Rattle.commands.specs.Commands.{Work, Check, Analyse, Run, Report, Explain, Clear, Premises, Attain, Simulate, Command, On, Demo, About, Firmware, Second, Assumptions, name_of}
use Rattle.replies.specs.declared.status.Status.{Status}
use Rattle.replies.specs.declared.status.Status.TheVariants as exit
use Rattle.replies.specs.Firmware.{firmware_image, firmware_fault, firmware_names}
use Rattle.replies.specs.Texts.{too_long, assumptions_refused, certificate_refused, schedule_malformed, schedule_illegal, peripherals_refused, rejected, witness_rejected, run_text}
use Rattle.replies.specs.Places.{clear_text, unclear_text, premises_text, why_text}
use Rattle.replies.specs.Reading.{Seen, Unread, Whole, Long}
use Rattle.replies.specs.Reply.{Reply, Says, Refuses, WithFile, WithBytes, WithOptional, ImageBy, ListBy, WithList, attains, AttainedBy, WitnessReply, VerdictReply, JudgedReply, CertificateReply, RunReply, EndsBefore, ScheduleReply, told_of, ExplainReply, ClearSays, ClearReply, PremisesReply, WhyReply, PlacesReply, AcceptedReply, SimulateReply, FlashReply, ImageReply, WorkReply}
use Rattle.replies.specs.Headline.{RepliesAreOne}
use Rattle.replies.proofs.Analysing.{analyse_one, demo_one}
use Rattle.replies.proofs.Attaining.{attain_one}
use Rattle.local_rules.specs.Site.{Task, task_with, bare}

-- at most one status with one text is the answer
abbrev IsOneAnswer : Reply → Type 0
IsOneAnswer R = (s t : Status) (a b : List ℕ) → R s a → R t b → (s ≡ t) × (a ≡ b)

says_one : (n : Status) (x : List ℕ) → IsOneAnswer (Says n x)
says_one n x s t a b h k = (h.0 ∙ sym k.0, h.1 ∙ sym k.1)

refuses_one : (n : Status) (o : Option (List ℕ)) → IsOneAnswer (Refuses n o)
refuses_one n None s t a b h k = absurd h
refuses_one n (Some x) s t a b h k = (h.0 ∙ sym k.0, h.1 ∙ sym k.1)

file_one : (name : List ℕ) (seen : Seen) (next : List ℕ → Reply) → ((bytes : List ℕ) → IsOneAnswer (next bytes)) → IsOneAnswer (WithFile name seen next)
file_one name Unread next f s t a b h k = absurd h
file_one name (Whole bytes) next f s t a b h k = f bytes s t a b h k
file_one name Long next f s t a b h k = says_one exit.TooLong (too_long name) s t a b h k

bytes_one : (o : Option (List ℕ)) (seen : Seen) (next : List ℕ → Reply) → ((bytes : List ℕ) → IsOneAnswer (next bytes)) → IsOneAnswer (WithBytes o seen next)
bytes_one None seen next f s t a b h k = f [] s t a b h k
bytes_one (Some name) seen next f s t a b h k = file_one name seen next f s t a b h k

optional_one : (o : Option (List ℕ)) (seen : Seen) (next : Option (List ℕ) → Reply) → ((list : Option (List ℕ)) → IsOneAnswer (next list)) → IsOneAnswer (WithOptional o seen next)
optional_one None seen next f s t a b h k = f None s t a b h k
optional_one (Some name) seen next f s t a b h k = file_one name seen (λ bytes. next (Some bytes)) (λ bytes. f (Some bytes)) s t a b h k

image_one : (o : Option (List ℕ)) (reply : Reply) → IsOneAnswer reply → IsOneAnswer (ImageBy o reply)
image_one (Some refusal) reply f s t a b h k = says_one exit.BadFirmware refusal s t a b h k
image_one None reply f s t a b h k = f s t a b h k

list_one : (x : Result (List Entry) AssumeText) (next : List Entry → Reply) → ((A : List Entry) → IsOneAnswer (next A)) → IsOneAnswer (ListBy x next)
list_one (Ok A) next f s t a b h k = f A s t a b h k
list_one (Err fault) next f s t a b h k = refuses_one exit.BadAssumptions (assumptions_refused fault) s t a b h k

with_list_one : (device : Device) (list : Option (List ℕ)) (next : List Entry → Reply) → ((A : List Entry) → IsOneAnswer (next A)) → IsOneAnswer (WithList device list next)
with_list_one device None next f = f []
with_list_one device (Some bytes) next f = list_one (entries_in device bytes) next f

attained_one : (next : Reply) (attained : Bool) → IsOneAnswer next → IsOneAnswer (AttainedBy next attained)
attained_one next true f s t a b h k = f s t a b h k
attained_one next false f s t a b h k = says_one exit.Rejected witness_rejected s t a b h k

witness_one : (task : Task) (next : Reply) (bound : ℕ) (w : Option Plan) → IsOneAnswer next → IsOneAnswer (WitnessReply task next bound w)
witness_one task next bound None f s t a b h k = f s t a b h k
witness_one task next bound (Some plan) f s t a b h k = attained_one next (attains bound (replay_of task.flash task.assumptions plan)) f s t a b h k

verdict_one : (task : Task) (next : Claim → Reply) (c : Claim) (v : Judgement ℕ) → IsOneAnswer (next c) → IsOneAnswer (VerdictReply task next c v)
verdict_one task next c (Rejected reason) f s t a b h k = says_one exit.Rejected (rejected (device_of task.flash) reason) s t a b h k
verdict_one task next c (Accepted bound) f s t a b h k = witness_one task (next c) bound c.witness f s t a b h k

simulate_one : (task : Task) (steps : ℕ) (x : Result Setup PeripheralsFault) → IsOneAnswer (SimulateReply task steps x)
simulate_one task steps (Err fault) s t a b h k = refuses_one exit.BadPeripherals (peripherals_refused fault) s t a b h k
simulate_one task steps (Ok setup) s t a b h k = says_one exit.Done (run_text (device_of task.flash) (simulation_of task.flash task.assumptions setup steps)) s t a b h k

run_one : (device : Device) (x : Result Replayed ℕ) → IsOneAnswer (RunReply device x)
run_one device (Err step) s t a b h k = says_one exit.BadSchedule (schedule_illegal step) s t a b h k
run_one device (Ok r) s t a b h k = says_one exit.Done (run_text device r) s t a b h k

ends_one : (ls : List TextLine) (at : ℕ) (reply : Reply) → IsOneAnswer reply → IsOneAnswer (EndsBefore ls at reply)
ends_one [] at reply f s t a b h k = f s t a b h k
ends_one (l ∷ ls) at reply f s t a b h k = says_one exit.BadSchedule (schedule_malformed at) s t a b h k

schedule_one : (task : Task) (x : Result (Plan × Position) ℕ) → IsOneAnswer (ScheduleReply task x)
schedule_one task (Err at) s t a b h k = says_one exit.BadSchedule (schedule_malformed at) s t a b h k
schedule_one task (Ok read) s t a b h k =
    ends_one read.1.rest read.1.at (RunReply (device_of task.flash) (replay_of task.flash task.assumptions read.0)) (run_one (device_of task.flash) (replay_of task.flash task.assumptions read.0)) s t a b h k

module _ (read : ReadCertificateIsSpelled) (one : VerdictsAreOne) (answers : AnswersAreOne) (chains : WaypointsAreOne) (explanations : ExplanationsAreOne)
    (clears : ClearVerdictsAreOne) (sites : SitesAreOne) (places : PlacesAreOne) (takes : NeversAreOne) where
  judged_one : (task : Task) (next : Claim → Reply) (c : Claim) → IsClaim c → IsOneAnswer (next c) → IsOneAnswer (JudgedReply task next c)
  judged_one task next c claim f s t a b h k =
      let e = one task c h.verdict k.verdict claim h.is k.is in
      verdict_one task next c k.verdict f s t a b (subst (λ v. VerdictReply task next c v s a) e h.reply) k.reply

  certificate_one : (task : Task) (next : Claim → Reply) (x : Result Claim CertFault) → ((c : Claim) → x ≡ Ok c → IsClaim c) → ((c : Claim) → IsClaim c → IsOneAnswer (next c)) → IsOneAnswer (CertificateReply task next x)
  certificate_one task next (Err fault) f g s t a b h k = refuses_one exit.BadCertificate (certificate_refused fault) s t a b h k
  certificate_one task next (Ok c) f g s t a b h k = judged_one task next c (f c refl) (g c (f c refl)) s t a b h k

  read_one : (task : Task) (next : Claim → Reply) (bytes : List ℕ) → ((c : Claim) → IsClaim c → IsOneAnswer (next c)) → IsOneAnswer (CertificateReply task next (certificate_in (device_of task.flash) bytes))
  read_one task next bytes g = certificate_one task next (certificate_in (device_of task.flash) bytes) (λ c e. (read (device_of task.flash) bytes c e).2.claim) g

  explain_one : (names : List Named) (task : Task) (c : Claim) → IsClaim c → IsOneAnswer (ExplainReply names task c)
  explain_one names task c claim s t a b h k =
      let e = explanations task c h.explanation k.explanation claim h.is k.is in
      (h.says.0 ∙ sym k.says.0, h.says.1 ∙ (ap (explanation_text (device_of task.flash) c.bound names) e ∙ sym k.says.1))

  clear_says_one : (image : Image) (c : Claim) (v : ClearVerdict) → IsOneAnswer (ClearSays image c v)
  clear_says_one image c clear.Clear s t a b h k = says_one exit.Done (clear_text c.bound) s t a b h k
  clear_says_one image c (clear.Unclear node pc) s t a b h k = says_one exit.Unclear (unclear_text image node pc) s t a b h k

  clear_one : (image : Image) (c : Claim) → IsClaim c → IsOneAnswer (ClearReply image c)
  clear_one image c claim s t a b h k =
      let e = clears image c h.verdict k.verdict h.is k.is in clear_says_one image c k.verdict s t a b (subst (λ v. ClearSays image c v s a) e h.says) k.says

  premises_one : (names : List Named) (task : Task) (c : Claim) → IsClaim c → IsOneAnswer (PremisesReply names task c)
  premises_one names task c claim s t a b h k =
      let e = sites task c h.sites k.sites h.are k.are in
      let f = takes task c h.nevers k.nevers h.are_nevers k.are_nevers in
      (h.says.0 ∙ sym k.says.0, h.says.1 ∙ (ap₂ (premises_text task.flash names c.bound) e f ∙ sym k.says.1))

  why_one : (names : List Named) (task : Task) (c : Claim) → IsClaim c → IsOneAnswer (WhyReply names task c)
  why_one names task c claim s t a b h k =
      let e = places task c h.places k.places h.are k.are in
      let f = takes task c h.nevers k.nevers h.are_nevers k.are_nevers in
      (h.says.0 ∙ sym k.says.0, h.says.1 ∙ (ap₂ (why_text task.flash names c.bound) e f ∙ sym k.says.1))

  places_one : (why : Bool) (names : List Named) (task : Task) (c : Claim) → IsClaim c → IsOneAnswer (PlacesReply why names task c)
  places_one false names task c claim s t a b h k = premises_one names task c claim s t a b h k
  places_one true names task c claim s t a b h k = why_one names task c claim s t a b h k

  flash_one : (device : Device) (work : Work) (firmware bytes : List ℕ) (task : Task) → IsOneAnswer (FlashReply device work firmware bytes task)
  flash_one device (Check cert) firmware bytes task =
      read_one task (AcceptedReply device (Check cert) firmware task) bytes (λ c claim. says_one exit.Done (told_of device (Check cert) firmware c))
  flash_one device (Analyse steps) firmware bytes task = analyse_one answers chains task steps
  flash_one device (Run schedule) firmware bytes task = schedule_one task (schedule_in (device_of task.flash) _)
  flash_one device (Report cert json) firmware bytes task =
      read_one task (AcceptedReply device (Report cert json) firmware task) bytes (λ c claim. says_one exit.Done (told_of device (Report cert json) firmware c))
  flash_one device (Explain cert) firmware bytes task =
      read_one task (AcceptedReply device (Explain cert) firmware task) bytes (explain_one (firmware_names device firmware) task)
  flash_one device (Clear cert) firmware bytes task = read_one (bare task.flash) (ClearReply task.flash) bytes (clear_one task.flash)
  flash_one device (Premises cert why) firmware bytes task =
      read_one task (AcceptedReply device (Premises cert why) firmware task) bytes (places_one why (firmware_names device firmware) task)
  flash_one device (Attain cert trials) firmware bytes task =
      read_one task (AcceptedReply device (Attain cert trials) firmware task) bytes (λ c claim. attain_one task trials c)
  flash_one device (Simulate peripherals steps) firmware bytes task = simulate_one task steps (setup_in (device_of task.flash) bytes)

  on_image_one : (device : Device) (work : Work) (firmware second : List ℕ) (list : Option (List ℕ)) → IsOneAnswer (ImageReply device work firmware second list)
  on_image_one device work firmware second list =
      image_one (firmware_fault device firmware) (WithList device list (λ A. FlashReply device work firmware second (task_with (firmware_image device firmware) A)))
      (with_list_one device list (λ A. FlashReply device work firmware second (task_with (firmware_image device firmware) A)) (λ A. flash_one device work firmware second (task_with (firmware_image device firmware) A)))

  work_one : (command : Command) (firmware second : List ℕ) (list : Option (List ℕ)) → IsOneAnswer (WorkReply command firmware second list)
  work_one (On request) firmware second list = on_image_one request.device request.work firmware second list
  work_one (Demo size) firmware second list = demo_one answers chains size
  work_one (About topic) firmware second list = says_one exit.Done (about_text topic)

  pub replies_are_one : RepliesAreOne
  replies_are_one command seen s t a b h k =
      bytes_one (name_of command Firmware) seen.firmware _
      (λ fw. bytes_one (name_of command Second) seen.second _ (λ second. optional_one (name_of command Assumptions) seen.assumptions _ (work_one command fw second))) s t a b h k
