-- The answer, by the outcome of reading the files.
use Rattle.std.proofs.Common.{◌≡◌, ◌≢◌, inl, inr, ℕ, Bool, true, false, List, [], ◌∷◌, Option, Some, None, Result, Ok, Err, sym, ◌∙◌, subst}
use Rattle.std.specs.Prelude.{IfOk, MatchResult}
use Rattle.avr_model.specs.declared.assumption.Entry.{Entry}
use Rattle.avr_model.specs.declared.device.Device.{Device}
use Rattle.avr_model.specs.Devices.{Image, device_of}
use Rattle.text_base.specs.Lines.{Position, TextLine}
use Rattle.text_base.specs.Outside.{Held, Blamed, grown}
use Rattle.assumption_files.specs.declared.fault.AssumeText.{AssumeText}
use Rattle.assumption_files.specs.Reading.{entries_in}
use Rattle.witness_replay.specs.Spelling.{Plan}
use Rattle.witness_replay.specs.Reading.{schedule_in}
use Rattle.witness_replay.specs.Replay.{Report as Replayed, replay_of}
use Rattle.certificate.specs.Claims.{Claim}
use Rattle.cert_format.specs.declared.fault.CertFault.{CertFault}
use Rattle.cert_format.specs.Reading.{certificate_in}
use Rattle.round_rules.specs.declared.refusal.Refusal.{Refusal}
use Rattle.round_rules.specs.declared.refusal.Refusal.TheVariants as refusal
use Rattle.demo_image.specs.Image.{demo_program}
use Rattle.cert_check.specs.declared.verdict.Judgement.{Judgement}
use Rattle.cert_check.specs.declared.verdict.Judgement.TheVariants.{Accepted, Rejected}
use Rattle.clear_laws.specs.declared.verdict.ClearVerdict.{ClearVerdict}
use Rattle.clear_laws.specs.declared.verdict.ClearVerdict.TheVariants as clear
use Rattle.peripherals.specs.declared.peripherals.PeripheralsFault.{PeripheralsFault}
use Rattle.peripherals.specs.Spelling.{Setup}
use Rattle.peripherals.specs.Reading.{setup_in}
use Rattle.commands.specs.Commands.{Work, Check, Analyse, Run, Report, Explain, Clear, Premises, Attain, Simulate, Command, On, Demo, About, Firmware, Second, Assumptions, name_of}
use Rattle.replies.specs.declared.status.Status.{Status}
use Rattle.replies.specs.declared.status.Status.TheVariants as exit
use Rattle.replies.specs.Firmware.{firmware_image, firmware_fault}
use Rattle.replies.specs.Texts.{too_long, assumptions_refused, certificate_refused, peripherals_refused, why_not_status, why_not_text}
use Rattle.replies.specs.Reading as read
use Rattle.replies.specs.Reading.{Seen, Unread, Whole, Long}
use Rattle.replies.specs.Reply.{Reply, Says, Refuses, WithFile, WithBytes, WithOptional, ImageBy, ListBy, WithList, attains, AttainedBy, WitnessReply, VerdictReply, CertificateReply, told_of, ClearSays, ClearReply, AcceptedReply, RunReply, EndsBefore, ScheduleReply, WhyNotReply, AnalyseReply, SimulateReply, DemoReply, FlashReply, ImageReply, WorkReply, IsReply}
use Rattle.replies.specs.Headline.{HasWords, ReadsWords, AcceptingRepliesHold, RepliesAreExact}
use Rattle.stack_core.specs.declared.reply.Reply.{Reply as Answered}
use Rattle.stack_core.specs.declared.reading.Unread.{Unread as Unfetched}
use Rattle.stack_core.specs.declared.reading.Unread.TheVariants as unread
use Rattle.stack_core.specs.Reading.{UnreadReply, seen_under, seen_whole, AreBytes, IsTooLong, IsUngathered}
use Rattle.stack_core.proofs.Gathering.{whole_reply}
use Rattle.stack_core.specs.Answer.{IsAnswered, IsReplyWritten, IsSettledAnswer, IsOutcome, IsCutOff}
use Rattle.local_rules.specs.Site.{Task, task_with, bare}

-- ---- no reply has a status that isn't the reply's

-- not the statuses of usage, of a read fault, of a write fault and of running out of memory
record IsReplyPlain (status : Status) : Type 0 where
  usage : status ≢ exit.Usage
  read : status ≢ exit.ReadFault
  write : status ≢ exit.WriteFault
  ample : status ≢ exit.OutOfMemory

abbrev IsPlainApart : Reply → Type 0
IsPlainApart R = (status : Status) (text : List ℕ) → R status text → IsReplyPlain status

at : (n status : Status) → IsReplyPlain n → status ≡ n → IsReplyPlain status
at n status h e = subst IsReplyPlain (sym e) h

done_plain : IsReplyPlain exit.Done
done_plain = record { usage = λ e. cc; read = λ e. cc; write = λ e. cc; ample = λ e. cc }

rejected_plain : IsReplyPlain exit.Rejected
rejected_plain = record { usage = λ e. cc; read = λ e. cc; write = λ e. cc; ample = λ e. cc }

long_plain : IsReplyPlain exit.TooLong
long_plain = record { usage = λ e. cc; read = λ e. cc; write = λ e. cc; ample = λ e. cc }

firmware_plain : IsReplyPlain exit.BadFirmware
firmware_plain = record { usage = λ e. cc; read = λ e. cc; write = λ e. cc; ample = λ e. cc }

assumptions_plain : IsReplyPlain exit.BadAssumptions
assumptions_plain = record { usage = λ e. cc; read = λ e. cc; write = λ e. cc; ample = λ e. cc }

certificate_plain : IsReplyPlain exit.BadCertificate
certificate_plain = record { usage = λ e. cc; read = λ e. cc; write = λ e. cc; ample = λ e. cc }

schedule_plain : IsReplyPlain exit.BadSchedule
schedule_plain = record { usage = λ e. cc; read = λ e. cc; write = λ e. cc; ample = λ e. cc }

refused_plain : IsReplyPlain exit.NoCertificate
refused_plain = record { usage = λ e. cc; read = λ e. cc; write = λ e. cc; ample = λ e. cc }

spent_plain : IsReplyPlain exit.Spent
spent_plain = record { usage = λ e. cc; read = λ e. cc; write = λ e. cc; ample = λ e. cc }

unclear_plain : IsReplyPlain exit.Unclear
unclear_plain = record { usage = λ e. cc; read = λ e. cc; write = λ e. cc; ample = λ e. cc }

peripherals_plain : IsReplyPlain exit.BadPeripherals
peripherals_plain = record { usage = λ e. cc; read = λ e. cc; write = λ e. cc; ample = λ e. cc }

refuses_apart : (n : Status) → IsReplyPlain n → (o : Option (List ℕ)) → IsPlainApart (Refuses n o)
refuses_apart n p None s t h = absurd h
refuses_apart n p (Some x) s t h = at n s p h.0

file_apart : (name : List ℕ) (seen : Seen) (next : List ℕ → Reply) → ((bytes : List ℕ) → IsPlainApart (next bytes)) → IsPlainApart (WithFile name seen next)
file_apart name Unread next f s t h = absurd h
file_apart name (Whole bytes) next f s t h = f bytes s t h
file_apart name Long next f s t h = at exit.TooLong s long_plain h.0

bytes_apart : (o : Option (List ℕ)) (seen : Seen) (next : List ℕ → Reply) → ((bytes : List ℕ) → IsPlainApart (next bytes)) → IsPlainApart (WithBytes o seen next)
bytes_apart None seen next f s t h = f [] s t h
bytes_apart (Some name) seen next f s t h = file_apart name seen next f s t h

optional_apart : (o : Option (List ℕ)) (seen : Seen) (next : Option (List ℕ) → Reply) → ((list : Option (List ℕ)) → IsPlainApart (next list)) → IsPlainApart (WithOptional o seen next)
optional_apart None seen next f s t h = f None s t h
optional_apart (Some name) seen next f s t h = file_apart name seen (λ bytes. next (Some bytes)) (λ bytes. f (Some bytes)) s t h

image_apart : (o : Option (List ℕ)) (reply : Reply) → IsPlainApart reply → IsPlainApart (ImageBy o reply)
image_apart (Some refusal) reply f s t h = at exit.BadFirmware s firmware_plain h.0
image_apart None reply f s t h = f s t h

list_apart : (x : Result (List Entry) AssumeText) (next : List Entry → Reply) → ((A : List Entry) → IsPlainApart (next A)) → IsPlainApart (ListBy x next)
list_apart (Ok A) next f s t h = f A s t h
list_apart (Err fault) next f s t h = refuses_apart exit.BadAssumptions assumptions_plain (assumptions_refused fault) s t h

with_list_apart : (device : Device) (list : Option (List ℕ)) (next : List Entry → Reply) → ((A : List Entry) → IsPlainApart (next A)) → IsPlainApart (WithList device list next)
with_list_apart device None next f = f []
with_list_apart device (Some bytes) next f = list_apart (entries_in device bytes) next f

attained_apart : (next : Reply) (attained : Bool) → IsPlainApart next → IsPlainApart (AttainedBy next attained)
attained_apart next true f s t h = f s t h
attained_apart next false f s t h = at exit.Rejected s rejected_plain h.0

witness_apart : (task : Task) (next : Reply) (bound : ℕ) (w : Option Plan) → IsPlainApart next → IsPlainApart (WitnessReply task next bound w)
witness_apart task next bound None f s t h = f s t h
witness_apart task next bound (Some plan) f s t h = attained_apart next (attains bound (replay_of task.flash task.assumptions plan)) f s t h

verdict_apart : (task : Task) (next : Claim → Reply) (c : Claim) (v : Judgement ℕ) → IsPlainApart (next c) → IsPlainApart (VerdictReply task next c v)
verdict_apart task next c (Rejected reason) f s t h = at exit.Rejected s rejected_plain h.0
verdict_apart task next c (Accepted bound) f s t h = witness_apart task (next c) bound c.witness f s t h

certificate_apart : (task : Task) (next : Claim → Reply) (x : Result Claim CertFault) → ((c : Claim) → IsPlainApart (next c)) → IsPlainApart (CertificateReply task next x)
certificate_apart task next (Err fault) f s t h = refuses_apart exit.BadCertificate certificate_plain (certificate_refused fault) s t h
certificate_apart task next (Ok c) f s t h = verdict_apart task next c h.verdict (f c) s t h.reply

accepted_apart : (text : Claim → List ℕ) (c : Claim) → IsPlainApart (Says exit.Done (text c))
accepted_apart text c s t h = at exit.Done s done_plain h.0

clear_apart : (image : Image) (c : Claim) (v : ClearVerdict) → IsPlainApart (ClearSays image c v)
clear_apart image c clear.Clear s t h = at exit.Done s done_plain h.0
clear_apart image c (clear.Unclear node pc) s t h = at exit.Unclear s unclear_plain h.0

simulate_apart : (task : Task) (steps : ℕ) (x : Result Setup PeripheralsFault) → IsPlainApart (SimulateReply task steps x)
simulate_apart task steps (Err fault) s t h = refuses_apart exit.BadPeripherals peripherals_plain (peripherals_refused fault) s t h
simulate_apart task steps (Ok setup) s t h = at exit.Done s done_plain h.0

why_not_plain : (r : Refusal) → IsReplyPlain (why_not_status r)
why_not_plain (refusal.Misfit at) = refused_plain
why_not_plain (refusal.Node x) = refused_plain
why_not_plain (refusal.Recursion pc) = refused_plain
why_not_plain (refusal.ReEntry v pc) = refused_plain
why_not_plain (refusal.TooLarge limit) = refused_plain
why_not_plain (refusal.Spent n) = spent_plain
why_not_plain refusal.Memory = refused_plain

why_not_apart : (task : Task) (steps : Option ℕ) → IsPlainApart (WhyNotReply task steps)
why_not_apart task steps s t h = refuses_apart (why_not_status h.refusal) (why_not_plain h.refusal) (why_not_text task.flash h.refusal) s t h.says

analyse_apart : (task : Task) (steps : Option ℕ) → IsPlainApart (AnalyseReply task steps)
analyse_apart task steps s t (inl h) = at exit.Done s done_plain h.says.0
analyse_apart task steps s t (inr h) = why_not_apart task steps s t h

demo_apart : (size : ℕ) → IsPlainApart (DemoReply size)
demo_apart size s t (inl h) = at exit.Done s done_plain h.says.0
demo_apart size s t (inr h) = why_not_apart (bare (demo_program size)) None s t h

run_apart : (device : Device) (x : Result Replayed ℕ) → IsPlainApart (RunReply device x)
run_apart device (Err step) s t h = at exit.BadSchedule s schedule_plain h.0
run_apart device (Ok r) s t h = at exit.Done s done_plain h.0

ends_apart : (ls : List TextLine) (offset : ℕ) (reply : Reply) → IsPlainApart reply → IsPlainApart (EndsBefore ls offset reply)
ends_apart [] offset reply f s t h = f s t h
ends_apart (l ∷ ls) offset reply f s t h = at exit.BadSchedule s schedule_plain h.0

schedule_apart : (task : Task) (x : Result (Plan × Position) ℕ) → IsPlainApart (ScheduleReply task x)
schedule_apart task (Err offset) s t h = at exit.BadSchedule s schedule_plain h.0
schedule_apart task (Ok r) s t h = ends_apart r.1.rest r.1.at (RunReply (device_of task.flash) (replay_of task.flash task.assumptions r.0)) (run_apart (device_of task.flash) (replay_of task.flash task.assumptions r.0)) s t h

flash_apart : (device : Device) (work : Work) (firmware bytes : List ℕ) (task : Task) → IsPlainApart (FlashReply device work firmware bytes task)
flash_apart device (Check k) firmware bytes task = certificate_apart task (AcceptedReply device (Check k) firmware task) (certificate_in (device_of task.flash) bytes) (accepted_apart (told_of device (Check k) firmware))
flash_apart device (Analyse steps) firmware bytes task = analyse_apart task steps
flash_apart device (Run k) firmware bytes task = schedule_apart task (schedule_in (device_of task.flash) _)
flash_apart device (Report k json) firmware bytes task =
    certificate_apart task (AcceptedReply device (Report k json) firmware task) (certificate_in (device_of task.flash) bytes) (accepted_apart (told_of device (Report k json) firmware))
flash_apart device (Explain k) firmware bytes task =
    certificate_apart task (AcceptedReply device (Explain k) firmware task) (certificate_in (device_of task.flash) bytes) (λ c s t h. at exit.Done s done_plain h.says.0)
flash_apart device (Clear k) firmware bytes task = certificate_apart (bare task.flash) (ClearReply task.flash) (certificate_in (device_of task.flash) bytes) (λ c s t h. clear_apart task.flash c h.verdict s t h.says)
flash_apart device (Premises k false) firmware bytes task =
    certificate_apart task (AcceptedReply device (Premises k false) firmware task) (certificate_in (device_of task.flash) bytes) (λ c s t h. at exit.Done s done_plain h.says.0)
flash_apart device (Premises k true) firmware bytes task =
    certificate_apart task (AcceptedReply device (Premises k true) firmware task) (certificate_in (device_of task.flash) bytes) (λ c s t h. at exit.Done s done_plain h.says.0)
flash_apart device (Attain k trials) firmware bytes task =
    certificate_apart task (AcceptedReply device (Attain k trials) firmware task) (certificate_in (device_of task.flash) bytes) (λ c s t h. at exit.Done s done_plain h.says.0)
flash_apart device (Simulate k steps) firmware bytes task = simulate_apart task steps (setup_in (device_of task.flash) bytes)

image_is_apart : (device : Device) (work : Work) (firmware second : List ℕ) (list : Option (List ℕ)) → IsPlainApart (ImageReply device work firmware second list)
image_is_apart device work firmware second list =
    image_apart (firmware_fault device firmware) (WithList device list (λ A. FlashReply device work firmware second (task_with (firmware_image device firmware) A)))
    (with_list_apart device list (λ A. FlashReply device work firmware second (task_with (firmware_image device firmware) A)) (λ A. flash_apart device work firmware second (task_with (firmware_image device firmware) A)))

work_apart : (c : Command) (firmware second : List ℕ) (list : Option (List ℕ)) → IsPlainApart (WorkReply c firmware second list)
work_apart (On r) firmware second list = image_is_apart r.device r.work firmware second list
work_apart (Demo size) firmware second list = demo_apart size
work_apart (About topic) firmware second list = λ s t h. at exit.Done s done_plain h.0

reply_apart : (c : Command) (seen : read.Contents) → IsPlainApart (IsReply c seen)
reply_apart c seen =
    bytes_apart (name_of c Firmware) seen.firmware _ (λ fw. bytes_apart (name_of c Second) seen.second _ (λ s. optional_apart (name_of c Assumptions) seen.assumptions _ (work_apart c fw s)))

-- ---- files that were read whole

seen_is : (o : Option (List ℕ)) (bytes b : List ℕ) → seen_under o bytes ≡ Whole b → bytes ≡ b
seen_is None bytes b e = absurd (let wrong = e in cc)
seen_is (Some name) bytes b e = cc

-- ---- answers

settle : (c : Command) (holds : List ℕ → Held) (before after : ℕ) (status : Status) (text : List ℕ) → after ≡ before → IsAnswered c holds status text → IsSettledAnswer (Some c) holds before after status text
settle c holds before after status text quiet h =
    let plain = reply_apart c h.seen status text h.reply in
    record {
      quiet = quiet;
      due = h;
      usage_alone = (λ e. absurd (plain.usage e), λ e. absurd (let wrong = e in cc));
      read = plain.read;
      write = plain.write;
      ample = plain.ample;
    }

module _ (hold : AcceptingRepliesHold) (exact : RepliesAreExact) where
  worked : (c : Command) (holds : List ℕ → Held) (before after : ℕ) (blamed : Blamed) (firmware second : List ℕ) (list : Option (List ℕ)) (status : Status) (text : List ℕ)
      → AreBytes c holds firmware second list × (after ≡ before)
      → WorkReply c firmware second list status text → (status ≡ exit.Done → HasWords c firmware)
      → IsOutcome (Some c) holds before after blamed status text
  worked c holds before after blamed firmware second list status text read work image =
      let seen = seen_whole c firmware second list in
      let reply = whole_reply c firmware second list status text read.0.with_firmware read.0.with_second read.0.with_list work in
      let has : status ≡ exit.Done → ReadsWords c seen = λ zero fw e. subst (λ b. HasWords c b) (seen_is (name_of c Firmware) firmware fw e) (image zero) in
      inl (settle c holds before after status text read.1
      (record {
        seen = seen;
        agrees = read.0.agree;
        reply = reply;
        headline = hold c seen status text reply has;
        exact = exact c seen status text reply;
      }))

  pub worked_result : (o : Option Command) (c : Command) (holds : List ℕ → Held) (before after : ℕ) (blamed : Blamed) {E : Type 0} (firmware second : List ℕ) (list : Option (List ℕ)) (x : Result Answered E)
      → o ≡ Some c → AreBytes c holds firmware second list × (after ≡ before)
      → IfOk x (λ r. WorkReply c firmware second list r.status r.text.items) → IfOk x (λ r. r.status ≡ exit.Done → HasWords c firmware)
      → MatchResult x (λ r. IsOutcome o holds before after blamed r.status r.text.items) (λ e. IsCutOff o holds before after blamed)
  worked_result o c holds before after blamed firmware second list (Ok r) is read work image =
      subst (λ d. IsOutcome d holds before after blamed r.status r.text.items) (sym is) (worked c holds before after blamed firmware second list r.status r.text.items read work image)
  worked_result o c holds before after blamed firmware second list (Err e) is read work image = inl read.1

  -- ---- a file that was not read

  too_long_settles : (c : Command) (holds : List ℕ → Held) (before after : ℕ) (name : List ℕ) (status : Status) (text : List ℕ) → IsTooLong c holds name × (after ≡ before) → Says exit.TooLong (too_long name) status text
      → IsSettledAnswer (Some c) holds before after status text
  too_long_settles c holds before after name status text h says =
      let reply : IsReply c h.0.seen status text = subst (λ s. IsReply c h.0.seen s text) (sym says.0) (subst (IsReply c h.0.seen exit.TooLong) (sym says.1) h.0.reply) in
      settle c holds before after status text h.1
      (record {
        seen = h.0.seen;
        agrees = h.0.agrees;
        reply = reply;
        headline = hold c h.0.seen status text reply (λ zero. absurd (let wrong : ◌≡◌ {A = Status} exit.TooLong exit.Done = sym says.0 ∙ zero in cc));
        exact = exact c h.0.seen status text reply;
      })

  unread_outcome : (c : Command) (holds : List ℕ → Held) (before after : ℕ) (blamed : Blamed) (e : Unfetched) (status : Status) (text : List ℕ) → IsUngathered c holds before after blamed e → UnreadReply e status text
      → IsOutcome (Some c) holds before after blamed status text
  unread_outcome c holds before after blamed (unread.Long n) status text h says = inl (too_long_settles c holds before after n.now status text h says)
  unread_outcome c holds before after blamed (unread.Failed n) status text h says = inr (record { is_fault = says.0; name = n.now; fault = h; text_is = says.1 })
  unread_outcome c holds before after blamed unread.Memory status text h says = absurd says

  unread_cut : (c : Command) (holds : List ℕ → Held) (before after : ℕ) (blamed : Blamed) (e : Unfetched) → IsUngathered c holds before after blamed e → IsCutOff (Some c) holds before after blamed
  unread_cut c holds before after blamed (unread.Long n) h = inl h.1
  unread_cut c holds before after blamed (unread.Failed n) h = inr (n.now, h)
  unread_cut c holds before after blamed unread.Memory h = inl h

  pub unread_result : (o : Option Command) (c : Command) (holds : List ℕ → Held) (before after : ℕ) (blamed : Blamed) {E : Type 0} (e : Unfetched) (x : Result Answered E)
      → o ≡ Some c → IsUngathered c holds before after blamed e → IfOk x (λ r. UnreadReply e r.status r.text.items)
      → MatchResult x (λ r. IsOutcome o holds before after blamed r.status r.text.items) (λ e. IsCutOff o holds before after blamed)
  unread_result o c holds before after blamed e (Ok r) is h says = subst (λ d. IsOutcome d holds before after blamed r.status r.text.items) (sym is) (unread_outcome c holds before after blamed e r.status r.text.items h says)
  unread_result o c holds before after blamed e (Err fault) is h says = subst (λ d. IsCutOff d holds before after blamed) (sym is) (unread_cut c holds before after blamed e h)

-- ---- where the whole text was written

pub written_of : (o : Option Command) (holds : List ℕ → Held) (before after : ℕ) (blamed : Blamed) (status : Status) (text : List ℕ) (old new : Option (List ℕ)) → IsOutcome o holds before after blamed status text
    → status ≢ exit.ReadFault → new ≡ grown old text → IsReplyWritten o holds status old new
written_of o holds before after blamed status text old new (inl s) apart grew = record { text = text; due = s.due; grew = grew }
written_of o holds before after blamed status text old new (inr t) apart grew = absurd (apart t.is_fault)

pub zero_apart : (status : Status) → status ≡ exit.Done → status ≢ exit.ReadFault
zero_apart status zero three = let wrong : ◌≡◌ {A = Status} exit.Done exit.ReadFault = sym zero ∙ three in cc
