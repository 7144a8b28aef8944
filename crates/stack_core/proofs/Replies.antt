-- Replies by their parts.
use Rattle.std.proofs.Common.{◌≡◌, ◌≢◌, ℕ, Bool, true, false, List, Option, Some, None, Result, Ok, Err, refl, sym, ap, ◌∙◌, subst}
use Rattle.std.specs.Option.{option_copied, is_some}
use Rattle.std.specs.Prelude.{◌↔◌, IfOk, IsTrue}
use Rattle.std.proofs.lemmas.Bool.{false_from_ne_true}
use denote.Ref.{Bor}
use Rattle.avr_model.specs.declared.assumption.Entry.{Entry}
use Rattle.avr_model.specs.declared.device.Device.{Device}
use Rattle.avr_model.specs.Devices.{device_of}
use Rattle.assumption_files.specs.declared.fault.AssumeText.{AssumeText}
use Rattle.assumption_files.specs.declared.fault.AssumeText.TheVariants as assume
use Rattle.assumption_files.specs.Reading.{entries_in}
use Rattle.witness_replay.specs.Spelling.{Plan}
use Rattle.witness_replay.specs.Replay.{replay_of}
use Rattle.flash_image.specs.Naming.{Named, SayTheSame}
use Rattle.elf_load.specs.declared.Loaded.{Loaded}
use Rattle.certificate.specs.Claims.{Claim}
use Rattle.reports.specs.Laws.{NamesThatSayTheSame, ExplanationsSayTheSame}
use Rattle.commands.specs.Commands.{Work, Check, Analyse, Run, Report, Explain, Clear, Premises, Attain, Simulate}
use Rattle.certificate.specs.Valid.{IsAttained, IsValid}
use Rattle.cert_format.specs.declared.fault.CertFault.{CertFault}
use Rattle.cert_format.specs.Reading.{certificate_in}
use Rattle.family_edges.specs.declared.worked.WorkedOut.{WorkedOut}
use Rattle.cert_check.specs.declared.verdict.Reason.{Reason}
use Rattle.cert_check.specs.declared.verdict.Judgement.{Judgement}
use Rattle.cert_check.specs.Verdict.{IsFamilyOf, IsReason}
use Rattle.basics.specs.Booleans.{never_both}
use Rattle.cert_check.specs.declared.verdict.Judgement.TheVariants.{Accepted, Rejected}
use Rattle.replies.specs.declared.status.Status.{Status}
use Rattle.replies.specs.declared.status.Status.TheVariants as exit
use Rattle.replies.specs.Firmware.{firmware_fault, firmware_image, firmware_names, firmware_end}
use Rattle.replies.specs.Texts.{witness_rejected, rejected, assumptions_refused}
use Rattle.replies.specs.Reply.{Reply, Says, Refuses, ImageBy, ListBy, WithImage, WithList, attains, AttainedBy, WitnessReply, VerdictReply, JudgedReply, CertificateReply, report_by, ExplainReply, PremisesReply, WhyReply, PlacesReply, AttainReply, AcceptedReply, FlashReply, ImageReply}
use Rattle.replies.specs.Headline.{PlacesSayTheSame, CausesSayTheSame}
use Rattle.cert_words.specs.Text.{text_of}
use Rattle.guided_trials.specs.Attaining.{IsCompleted}
use Rattle.replies.proofs.AllLaws.{attained_by, witness_zero, by_none}
use Rattle.stack_core.specs.Answering.{GivesOn, nothing, AreGivenAssumptions, ListsAs, PreparesAs, LoadedReply}
use Rattle.stack_core.specs.declared.reply.Reply.{Reply as Answered}
use Rattle.stack_core.specs.declared.loading.Prepared.{Prepared}
use Rattle.stack_core.specs.declared.loading.Prepared.TheVariants.{Ready}
use Rattle.stack_core.specs.declared.loading.Prepared.TheVariants as prepared
use Rattle.local_rules.specs.Machine.{AreWords}
use Rattle.local_rules.specs.Site.{Task, task_with}

-- ---- simulate

-- ---- a certificate's schedule

by_missing : (next : Reply) (attained : Bool) (text : List ℕ) → attained ≡ false → text ≡ witness_rejected → AttainedBy next attained exit.Rejected text
by_missing next attained text e t = subst (λ b. AttainedBy next b exit.Rejected text) (sym e) (refl, t)

missed_reply : (task : Task) (next : Reply) (bound : ℕ) (witness : Option Plan) (text : List ℕ) → (IsAttained task bound witness → ⊥) → text ≡ witness_rejected
    → WitnessReply task next bound witness exit.Rejected text
missed_reply task next bound None text a t = absurd (a tt)
missed_reply task next bound (Some plan) text a t =
    by_missing next (attains bound (replay_of task.flash task.assumptions plan)) text (false_from_ne_true (attains bound (replay_of task.flash task.assumptions plan)) (λ h. a (attained_by bound (replay_of task.flash task.assumptions plan) h))) t

-- a certificate whose schedule misses its bound
pub missed_judged : (task : Task) (next : Claim → Reply) (c : Claim) (family : WorkedOut) (text : List ℕ) → IsFamilyOf task c family
    → (b : Bool) → (IsTrue b ↔ IsAttained task c.bound c.witness) → b ≡ false → text ≡ witness_rejected → JudgedReply task next c exit.Rejected text
missed_judged task next c family text f b told missed t =
    record {
      verdict = Accepted c.bound;
      is = (record { nodes = family.nodes; expanded = f.filled; meets = f.meets }, refl);
      reply = missed_reply task (next c) c.bound c.witness text (λ h. never_both b (told.1 h) missed) t;
    }

-- a certificate that fails a condition
pub rejected_judged : (task : Task) (next : Claim → Reply) (c : Claim) (r : Reason) (text : List ℕ) → IsReason task c r → text ≡ rejected (device_of task.flash) r
    → JudgedReply task next c exit.Rejected text
rejected_judged task next c r text h t = record { verdict = Rejected r; is = h; reply = (refl, t) }

pub copied_is_some : (o : Option (Bor Plan)) (w : Option Plan) → option_copied o ≡ w → is_some o ≡ is_some w
copied_is_some None None e = refl
copied_is_some None (Some p) e = absurd (let wrong = e in cc)
copied_is_some (Some s) None e = absurd (let wrong = e in cc)
copied_is_some (Some s) (Some p) e = refl

-- ---- a certificate's text

-- if an accepted certificate gets one of two replies alike, so does each text
attained_alike : (next other : Reply) (attained : Bool) (status : Status) (text : List ℕ) → (next status text → other status text) → AttainedBy next attained status text → AttainedBy other attained status text
attained_alike next other true status text f h = f h
attained_alike next other false status text f h = h

witness_alike : (task : Task) (next other : Reply) (bound : ℕ) (w : Option Plan) (status : Status) (text : List ℕ) → (next status text → other status text)
    → WitnessReply task next bound w status text → WitnessReply task other bound w status text
witness_alike task next other bound None status text f h = f h
witness_alike task next other bound (Some plan) status text f h = attained_alike next other (attains bound (replay_of task.flash task.assumptions plan)) status text f h

verdict_alike : (task : Task) (next other : Claim → Reply) (c : Claim) (v : Judgement ℕ) (status : Status) (text : List ℕ) → (next c status text → other c status text)
    → VerdictReply task next c v status text → VerdictReply task other c v status text
verdict_alike task next other c (Rejected reason) status text f h = h
verdict_alike task next other c (Accepted bound) status text f h = witness_alike task (next c) (other c) bound c.witness status text f h

told_alike : (task : Task) (next other : Claim → Reply) (x : Result Claim CertFault) (status : Status) (text : List ℕ) → ((c : Claim) → next c status text → other c status text)
    → CertificateReply task next x status text → CertificateReply task other x status text
told_alike task next other (Err e) status text f h = h
told_alike task next other (Ok c) status text f h = record { verdict = h.verdict; is = h.is; reply = verdict_alike task next other c h.verdict status text (f c) h.reply }

-- the reply to an accepted certificate
pub accepted_reply : (task : Task) (next : Claim → Reply) (x : Result Claim CertFault) (c : Claim) (status : Status) (text : List ℕ) → (x ≡ Ok c) × IsValid task c → next c status text
    → CertificateReply task next x status text
accepted_reply task next x c status text h k =
    subst (λ y. CertificateReply task next y status text) (sym h.0)
    (record { verdict = Accepted c.bound; is = (h.1.sound, refl); reply = witness_zero task (next c) c.bound c.witness status text h.1.attained k })

-- the reply to the result of judging
pub accepted_result : {E : Type 0} (task : Task) (next : Claim → Reply) (x : Result Claim CertFault) (c : Claim) (r : Result Answered E) → (x ≡ Ok c) × IsValid task c
    → IfOk r (λ a. next c a.status a.text.items) → IfOk r (λ a. CertificateReply task next x a.status a.text.items)
accepted_result task next x c (Err e) h k = tt
accepted_result task next x c (Ok a) h k = accepted_reply task next x c a.status a.text.items h k

-- ---- a certificate that is written with a schedule

pub attain_reply : (task : Task) (n : ℕ) (c d : Claim) (text : List ℕ) → IsCompleted task.flash task.assumptions n c d → IsValid task d → text ≡ text_of d → AttainReply task n c exit.Done text
attain_reply task n c d text h valid told =
    record { claim = d; completed = h; attained = subst (λ (b : ℕ). IsAttained task b d.witness) (ap (λ (x : Claim). x.bound) h.same) valid.attained; says = (refl, told) }

-- ---- an analysis

pub refused_by : (n : Status) (o : Option (List ℕ)) (status : Status) (text : List ℕ) → status ≡ n → o ≡ Some text → Refuses n o status text
refused_by n o status text s t = subst (λ x. Refuses n x status text) (sym t) (s, refl)

-- ---- a file that is refused

not_memory : (f : AssumeText) (text : List ℕ) → assumptions_refused f ≡ Some text → f ≢ assume.Memory
not_memory f text t w = let wrong : assumptions_refused assume.Memory ≡ Some text = subst (λ x. assumptions_refused x ≡ Some text) w t in absurd (let none = wrong in cc)

-- the answer to a list that is refused
pub list_refused : (device : Device) (bytes : List ℕ) (f : AssumeText) (status : Status) (text : List ℕ) → (f ≢ assume.Memory → entries_in device bytes ≡ Err f) → status ≡ exit.BadAssumptions → assumptions_refused f ≡ Some text
    → WithList device (Some bytes) nothing status text
list_refused device bytes f status text e s t =
    subst (λ x. ListBy x nothing status text) (sym (e (not_memory f text t))) (refused_by exit.BadAssumptions (assumptions_refused f) status text s t)

-- with the firmware that was loaded
prepared_by : (device : Device) (bytes : List ℕ) (list : Option (List ℕ)) (before : Loaded) (p : Prepared) → GivesOn device bytes before → ListsAs before list p → PreparesAs device bytes list p
prepared_by device bytes list before (Ready loaded A) g h = (
  record { loads = g.loads; words = h.0.0 ∙ g.words; names = subst (λ names. SayTheSame names (firmware_names device bytes)) (sym h.0.1.0) g.names; static_end = h.0.1.1 ∙ g.static_end },
  subst (λ ws. AreGivenAssumptions (device_of ws) list A) g.words h.1,
)
prepared_by device bytes list before (prepared.Refused r) g h =
    by_none (firmware_fault device bytes) (WithList device list nothing) r.status r.text.items g.loads (subst (λ ws. WithList (device_of ws) list nothing r.status r.text.items) g.words h)

pub prepared_result : {E : Type 0} (device : Device) (bytes : List ℕ) (list : Option (List ℕ)) (before : Loaded) (x : Result Prepared E) → GivesOn device bytes before → IfOk x (ListsAs before list)
    → IfOk x (PreparesAs device bytes list)
prepared_result device bytes list before (Err e) g h = tt
prepared_result device bytes list before (Ok p) g h = prepared_by device bytes list before p g h

-- a refusal isn't an answer of 0
refusal_is : (n : Status) (o : Option (List ℕ)) (status : Status) (text : List ℕ) → Refuses n o status text → status ≡ n
refusal_is n None status text h = absurd h
refusal_is n (Some t) status text h = h.0

read_refuses : (x : Result (List Entry) AssumeText) (status : Status) (text : List ℕ) → ListBy x nothing status text → status ≡ exit.BadAssumptions
read_refuses (Ok A) status text h = absurd h
read_refuses (Err fault) status text h = refusal_is exit.BadAssumptions (assumptions_refused fault) status text h

list_refuses : (device : Device) (list : Option (List ℕ)) (status : Status) (text : List ℕ) → WithList device list nothing status text → status ≡ exit.BadAssumptions
list_refuses device None status text h = absurd h
list_refuses device (Some bytes) status text h = read_refuses (entries_in device bytes) status text h

file_refuses : (o : Option (List ℕ)) (device : Device) (list : Option (List ℕ)) (status : Status) (text : List ℕ) → ImageBy o (WithList device list nothing) status text → status ≢ exit.Done
file_refuses (Some refusal) device list status text h zero = let wrong : ◌≡◌ {A = Status} exit.BadFirmware exit.Done = sym h.0 ∙ zero in cc
file_refuses None device list status text h zero = let wrong : ◌≡◌ {A = Status} exit.BadAssumptions exit.Done = sym (list_refuses device list status text h) ∙ zero in cc

pub refused_apart : (device : Device) (firmware : List ℕ) (list : Option (List ℕ)) (status : Status) (text : List ℕ) → WithImage device firmware (λ image. WithList device list nothing) status text → status ≢ exit.Done
refused_apart device firmware list status text h = file_refuses (firmware_fault device firmware) device list status text h

-- ---- a firmware

report_alike : (laws : NamesThatSayTheSame) (json : Bool) (device : Device) (names others : List Named) (end end' : Option ℕ) → SayTheSame names others → end ≡ end' → (c : Claim) → report_by json device names end c ≡ report_by json device others end' c
report_alike laws true device names others end end' same e c = (laws device c names others end same).1 ∙ ap (λ x. report_by true device others x c) e
report_alike laws false device names others end end' same e c = (laws device c names others end same).0 ∙ ap (λ x. report_by false device others x c) e

explain_alike : ExplanationsSayTheSame → (names others : List Named) (task : Task) → SayTheSame names others → (c : Claim) (status : Status) (text : List ℕ)
    → ExplainReply names task c status text → ExplainReply others task c status text
explain_alike texts names others task same c status text h =
    record { explanation = h.explanation; is = h.is; says = (h.says.0, h.says.1 ∙ texts (device_of task.flash) c.bound names others h.explanation same) }

premises_alike : PlacesSayTheSame → (names others : List Named) (task : Task) → SayTheSame names others → (c : Claim) (status : Status) (text : List ℕ)
    → PremisesReply names task c status text → PremisesReply others task c status text
premises_alike places names others task same c status text h =
    record {
      sites = h.sites;
      nevers = h.nevers;
      are = h.are;
      are_nevers = h.are_nevers;
      says = (h.says.0, h.says.1 ∙ places task.flash names others c.bound h.sites h.nevers same);
    }

why_alike : CausesSayTheSame → (names others : List Named) (task : Task) → SayTheSame names others → (c : Claim) (status : Status) (text : List ℕ)
    → WhyReply names task c status text → WhyReply others task c status text
why_alike causes names others task same c status text h =
    record {
      places = h.places;
      nevers = h.nevers;
      are = h.are;
      are_nevers = h.are_nevers;
      says = (h.says.0, h.says.1 ∙ causes task.flash names others c.bound h.places h.nevers same);
    }

places_alike : PlacesSayTheSame → CausesSayTheSame → (why : Bool) (names others : List Named) (task : Task) → SayTheSame names others → (c : Claim) (status : Status) (text : List ℕ)
    → PlacesReply why names task c status text → PlacesReply why others task c status text
places_alike places causes false names others task same c status text h = premises_alike places names others task same c status text h
places_alike places causes true names others task same c status text h = why_alike causes names others task same c status text h

flash_alike : (laws : NamesThatSayTheSame) (texts : ExplanationsSayTheSame) (places : PlacesSayTheSame) (causes : CausesSayTheSame) (device : Device) (work : Work) (firmware bytes : List ℕ) (loaded : Loaded) (A : List Entry) (status : Status) (text : List ℕ) → SayTheSame loaded.names (firmware_names device firmware)
    → loaded.static_end ≡ firmware_end device firmware → LoadedReply device work loaded bytes A status text → FlashReply device work firmware bytes (task_with loaded.flash A) status text
flash_alike laws texts places causes device (Check cert) firmware bytes loaded A status text names end h = h
flash_alike laws texts places causes device (Analyse steps) firmware bytes loaded A status text names end h = h
flash_alike laws texts places causes device (Run schedule) firmware bytes loaded A status text names end h = h
flash_alike laws texts places causes device (Report cert json) firmware bytes loaded A status text names end h =
    told_alike (task_with loaded.flash A) (λ c. Says exit.Done (report_by json device loaded.names loaded.static_end c)) (AcceptedReply device (Report cert json) firmware (task_with loaded.flash A)) (certificate_in (device_of loaded.flash) bytes) status text
    (λ c k. (k.0, k.1 ∙ report_alike laws json device loaded.names (firmware_names device firmware) loaded.static_end (firmware_end device firmware) names end c)) h
flash_alike laws texts places causes device (Explain cert) firmware bytes loaded A status text names end h =
    told_alike (task_with loaded.flash A) (ExplainReply loaded.names (task_with loaded.flash A)) (AcceptedReply device (Explain cert) firmware (task_with loaded.flash A)) (certificate_in (device_of loaded.flash) bytes) status text
    (λ c k. explain_alike texts loaded.names (firmware_names device firmware) (task_with loaded.flash A) names c status text k) h
flash_alike laws texts places causes device (Clear cert) firmware bytes loaded A status text names end h = h
flash_alike laws texts places causes device (Premises cert why) firmware bytes loaded A status text names end h =
    told_alike (task_with loaded.flash A) (PlacesReply why loaded.names (task_with loaded.flash A)) (AcceptedReply device (Premises cert why) firmware (task_with loaded.flash A)) (certificate_in (device_of loaded.flash) bytes) status text
    (λ c k. places_alike places causes why loaded.names (firmware_names device firmware) (task_with loaded.flash A) names c status text k) h
flash_alike laws texts places causes device (Attain cert trials) firmware bytes loaded A status text names end h = h
flash_alike laws texts places causes device (Simulate peripherals steps) firmware bytes loaded A status text names end h = h

list_alike : (x : Result (List Entry) AssumeText) (next : List Entry → Reply) (status : Status) (text : List ℕ) → ListBy x nothing status text → ListBy x next status text
list_alike (Ok A) next status text h = absurd h
list_alike (Err fault) next status text h = h

refused_alike : (o : Option (List ℕ)) (device : Device) (list : Option (List ℕ)) (next : List Entry → Reply) (status : Status) (text : List ℕ) → ImageBy o (WithList device list nothing) status text → ImageBy o (WithList device list next) status text
refused_alike (Some refusal) device list next status text h = h
refused_alike None device None next status text h = absurd h
refused_alike None device (Some bytes) next status text h = list_alike (entries_in device bytes) next status text h

-- the answer to a file that is refused is that of each work
pub refused_reply : (device : Device) (work : Work) (firmware second : List ℕ) (list : Option (List ℕ)) (status : Status) (text : List ℕ) → WithImage device firmware (λ image. WithList device list nothing) status text
    → ImageReply device work firmware second list status text
refused_reply device work firmware second list status text h =
    refused_alike (firmware_fault device firmware) device list (λ A. FlashReply device work firmware second (task_with (firmware_image device firmware) A)) status text h

listed_reply : (device : Device) (list : Option (List ℕ)) (A : List Entry) (next : List Entry → Reply) (status : Status) (text : List ℕ) → AreGivenAssumptions device list A → next A status text → WithList device list next status text
listed_reply device None A next status text e h = subst (λ B. next B status text) e h
listed_reply device (Some bytes) A next status text e h = subst (λ x. ListBy x next status text) (sym e) h

loaded_reply : (laws : NamesThatSayTheSame) (texts : ExplanationsSayTheSame) (places : PlacesSayTheSame) (causes : CausesSayTheSame) (device : Device) (work : Work) (firmware second : List ℕ) (list : Option (List ℕ)) (loaded : Loaded) (A : List Entry) (status : Status) (text : List ℕ)
    → PreparesAs device firmware list (Ready loaded A) → LoadedReply device work loaded second A status text → ImageReply device work firmware second list status text
loaded_reply laws texts places causes device work firmware second list loaded A status text g h =
    let there : FlashReply device work firmware second (task_with loaded.flash A) status text = flash_alike laws texts places causes device work firmware second loaded A status text g.0.names g.0.static_end h in
    by_none (firmware_fault device firmware) (WithList device list (λ B. FlashReply device work firmware second (task_with (firmware_image device firmware) B))) status text g.0.loads
    (listed_reply device list A (λ B. FlashReply device work firmware second (task_with (firmware_image device firmware) B)) status text g.1
    (subst (λ ws. FlashReply device work firmware second (task_with ws A) status text) g.0.words there))

-- the answer of a work on what was prepared
pub loaded_result : {E : Type 0} (laws : NamesThatSayTheSame) (texts : ExplanationsSayTheSame) (places : PlacesSayTheSame) (causes : CausesSayTheSame) (device : Device) (work : Work) (firmware second : List ℕ) (list : Option (List ℕ)) (loaded : Loaded) (A : List Entry) (x : Result Answered E)
    → PreparesAs device firmware list (Ready loaded A) → IfOk x (λ r. LoadedReply device work loaded second A r.status r.text.items) → IfOk x (λ r. ImageReply device work firmware second list r.status r.text.items)
loaded_result laws texts places causes device work firmware second list loaded A (Err e) g h = tt
loaded_result laws texts places causes device work firmware second list loaded A (Ok r) g h = loaded_reply laws texts places causes device work firmware second list loaded A r.status r.text.items g h

-- the words of what was prepared have 16 bits
pub ready_words : {E : Type 0} (device : Device) (firmware : List ℕ) (list : Option (List ℕ)) (loaded : Loaded) (A : List Entry) (x : Result Answered E) → PreparesAs device firmware list (Ready loaded A) → AreWords loaded.flash
    → IfOk x (λ r. r.status ≡ exit.Done → AreWords (firmware_image device firmware))
ready_words device firmware list loaded A (Err e) g h = tt
ready_words device firmware list loaded A (Ok r) g h = λ zero. subst AreWords g.0.words h
