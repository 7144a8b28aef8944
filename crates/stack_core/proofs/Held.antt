-- Answers to held bytes.
use Rattle.std.proofs.Common.{◌≡◌, ◌≤◌, ◌<◌, ℕ, List, [], length, Option, Some, None, refl, sym, ap, ◌∙◌, subst, arith}
use Rattle.text_base.specs.Outside.{Held, Bytes, Gives, MayExceed}
use Rattle.avr_model.specs.declared.device.Device.{Device}
use Rattle.commands.specs.Commands.{Work, Analyse, Simulate, Request, Command, On, Firmware, Second, Assumptions, file_of, assume_of}
use Rattle.replies.specs.declared.status.Status.{Status}
use Rattle.replies.specs.declared.status.Status.TheVariants as exit
use Rattle.replies.specs.Reading.{Seen, Unread, Whole, Long, Contents, firmware_cap, certificate_cap, peripherals_cap, assumption_cap, file_cap, Agrees, AgreesUnder, AllAgree}
use Rattle.replies.specs.Reply.{Reply, WithFile, WithBytes, WithOptional, WorkReply, IsReply}
use Rattle.replies.specs.Headline.{IsSeen, AreRead, Holds, HoldsAsRead, IsLeastCertificate, IsSimulated, WorkHeadline, AcceptsExactly, IsWorkExact}
use Rattle.stack_core.specs.Answer.{IsAnswered, IsReplyDue, IsReplyWritten, AreHeld, Judges, checks, reports, explains, clears, lists_premises, completes, HeldHeadline, IsHeldExact, HeldLeast, IsHeldEnd, HeldSimulated, AreHeldPeripherals, WrittenAnswersHold}

held_is : (h : Held) (cap : ℕ) (s : Seen) (a b : List ℕ) → Agrees h cap s → s ≡ Whole a → h ≡ Bytes b → a ≡ b
held_is h cap s a b agrees e is = let g : Agrees h cap (Whole a) = subst (Agrees h cap) e agrees in subst (λ x. Gives x a) is g.0

held_list : (holds : List ℕ → Held) (o : Option (List ℕ)) (s : Seen) (a b : Option (List ℕ)) → AgreesUnder holds assumption_cap o s → IsSeen o s a → AreHeld holds o b → a ≡ b
held_list holds None s a b agrees e is = e ∙ sym is
held_list holds (Some n) s None b agrees e is = absurd e
held_list holds (Some n) s (Some a) None agrees e is = absurd is
held_list holds (Some n) s (Some a) (Some b) agrees e is = ap Some (held_is (holds n) assumption_cap s a b agrees e is.0)

no_longer : (h : Held) (cap : ℕ) (bytes : List ℕ) → MayExceed h cap → h ≡ Bytes bytes → length bytes ≤ cap → ⊥
no_longer h cap bytes long is fits = let more : cap < length bytes = subst (λ x. MayExceed x cap) is long in omega (arith, more, fits)

-- the held bytes were read, and the reply continues
file_held : (n : List ℕ) (s : Seen) (h : Held) (cap : ℕ) (bytes : List ℕ) (next : List ℕ → Reply) (status : Status) (text : List ℕ) → WithFile n s next status text → Agrees h cap s → h ≡ Bytes bytes
    → length bytes ≤ cap → (s ≡ Whole bytes) × next bytes status text
file_held n Unread h cap bytes next status text reply agrees is fits = absurd reply
file_held n (Whole b) h cap bytes next status text reply agrees is fits =
    let e : b ≡ bytes = held_is h cap (Whole b) b bytes agrees refl is in (ap Whole e, subst (λ x. next x status text) e reply)
file_held n Long h cap bytes next status text reply agrees is fits = absurd (no_longer h cap bytes agrees is fits)

optional_held : (holds : List ℕ → Held) (o : Option (List ℕ)) (s : Seen) (list : Option (List ℕ)) (next : Option (List ℕ) → Reply) (status : Status) (text : List ℕ) → WithOptional o s next status text
    → AgreesUnder holds assumption_cap o s → AreHeld holds o list → IsSeen o s list
optional_held holds None s list next status text reply agrees held = held
optional_held holds (Some n) s None next status text reply agrees held = absurd held
optional_held holds (Some n) s (Some b) next status text reply agrees held =
    (file_held n s (holds n) assumption_cap b (λ x. next (Some x)) status text reply agrees held.0 held.1).0

abbrev request : Device → List ℕ → Option (List ℕ) → Work → Command
request device fw assume work = On (record { device = device; firmware = fw; assume = assume; work = work })

-- the answer to this command, if one is due
due_to : (o : Option Command) (c : Command) (holds : List ℕ → Held) (status : Status) (text : List ℕ) → o ≡ Some c → IsReplyDue o holds status text → IsAnswered c holds status text
due_to o c holds status text e h = subst (λ x. IsReplyDue x holds status text) e h

-- ---- commands that judge

judged_headline : (device : Device) (assume : Option (List ℕ)) (work : Work) (cert : List ℕ) (seen : Contents) (status : Status) (text : List ℕ) → Judges work cert → WorkHeadline device assume work seen status text
    → status ≡ exit.Done → HoldsAsRead device work (assume_of work assume) seen text
judged_headline device assume _ _ seen status text (checks cert) h zero = h zero
judged_headline device assume _ _ seen status text (reports cert json) h zero = h zero
judged_headline device assume _ _ seen status text (explains cert) h zero = h zero
judged_headline device assume _ _ seen status text (clears cert) h zero = h zero
judged_headline device assume _ _ seen status text (lists_premises cert why) h zero = h zero
judged_headline device assume _ _ seen status text (completes cert trials) h zero = (h zero).holds

judged_exact : (device : Device) (assume : Option (List ℕ)) (work : Work) (cert : List ℕ) (seen : Contents) (status : Status) → Judges work cert → IsWorkExact device assume work seen status
    → AcceptsExactly device work (assume_of work assume) seen status
judged_exact device assume _ _ seen status (checks cert) h = h
judged_exact device assume _ _ seen status (reports cert json) h = h
judged_exact device assume _ _ seen status (explains cert) h = h
judged_exact device assume _ _ seen status (clears cert) h = h
judged_exact device assume _ _ seen status (lists_premises cert why) h = h
judged_exact device assume _ _ seen status (completes cert trials) h = h

judged_names : (work : Work) (cert : List ℕ) → Judges work cert → (file_of work ≡ Some cert) × (file_cap work ≡ certificate_cap)
judged_names _ _ (checks cert) = (refl, refl)
judged_names _ _ (reports cert json) = (refl, refl)
judged_names _ _ (explains cert) = (refl, refl)
judged_names _ _ (clears cert) = (refl, refl)
judged_names _ _ (lists_premises cert why) = (refl, refl)
judged_names _ _ (completes cert trials) = (refl, refl)

agrees_as : (holds : List ℕ → Held) (cap cap' : ℕ) (o : Option (List ℕ)) (name : List ℕ) (s : Seen) → o ≡ Some name → cap ≡ cap' → AgreesUnder holds cap o s → Agrees (holds name) cap' s
agrees_as holds cap cap' o name s e caps h = subst (λ x. Agrees (holds name) x s) caps (subst (λ x. AgreesUnder holds cap x s) e h)

written_headline : (o : Option Command) (holds : List ℕ → Held) (status : Status) (before after : Option (List ℕ)) → IsReplyWritten o holds status before after → HeldHeadline o holds status before after
written_headline o holds status before after w judge firmware certificate list j zero =
    let d = due_to o (On judge) holds status w.text j.named w.due in
    let names = judged_names judge.work j.certificate_name j.judges in
    let h = judged_headline judge.device judge.assume judge.work j.certificate_name d.seen status w.text j.judges d.headline zero in
    let f : h.firmware ≡ firmware = held_is (holds judge.firmware) firmware_cap d.seen.firmware h.firmware firmware (d.agrees Firmware) h.read.loaded.firmware_read j.firmware_held in
    let k : h.certificate ≡ certificate =
    held_is (holds j.certificate_name) certificate_cap d.seen.second h.certificate certificate
    (agrees_as holds (file_cap judge.work) certificate_cap (file_of judge.work) j.certificate_name d.seen.second names.0 names.1 (d.agrees Second)) h.read.second_read j.certificate_held in
    let l : h.list ≡ list = held_list holds (assume_of judge.work judge.assume) d.seen.assumptions h.list list (d.agrees Assumptions) h.read.loaded.list_read j.list_held in (
      w.text,
      subst (λ x. Holds judge.device judge.work firmware certificate x w.text) l
          (subst (λ x. Holds judge.device judge.work firmware x h.list w.text) k (subst (λ x. Holds judge.device judge.work x h.certificate h.list w.text) f h.holds)),
      w.grew,
    )

-- held bytes were read, if the reply isn't that a file is too long
are_read : (c : Request) (holds : List ℕ → Held) (seen : Contents) (cert firmware certificate : List ℕ) (list : Option (List ℕ)) (cap : ℕ) (status : Status) (text : List ℕ)
    → file_of c.work ≡ Some cert → file_cap c.work ≡ cap → AllAgree (On c) holds seen → IsReply (On c) seen status text
    → holds c.firmware ≡ Bytes firmware → length firmware ≤ firmware_cap → holds cert ≡ Bytes certificate → length certificate ≤ cap → AreHeld holds (assume_of c.work c.assume) list
    → AreRead (assume_of c.work c.assume) seen firmware certificate list
are_read c holds seen cert firmware certificate list cap status text second caps agree reply fh ff ch cf lh =
    let assume : Option (List ℕ) = assume_of c.work c.assume in
    let work : List ℕ → List ℕ → Option (List ℕ) → Reply = λ f s l. WorkReply (On c) f s l in
    let whole : WithFile c.firmware seen.firmware (λ f. WithFile cert seen.second (λ s. WithOptional assume seen.assumptions (λ l. work f s l))) status text =
    subst (λ k. WithFile c.firmware seen.firmware (λ f. WithBytes k seen.second (λ s. WithOptional assume seen.assumptions (λ l. work f s l))) status text) second reply in
    let first = file_held c.firmware seen.firmware (holds c.firmware) firmware_cap firmware (λ f. WithFile cert seen.second (λ s. WithOptional assume seen.assumptions (λ l. work f s l))) status text whole
    (agree Firmware) fh ff in
    let next = file_held cert seen.second (holds cert) cap certificate (λ s. WithOptional assume seen.assumptions (λ l. work firmware s l)) status text first.1
    (agrees_as holds (file_cap c.work) cap (file_of c.work) cert seen.second second caps (agree Second)) ch cf in
    let last = optional_held holds assume seen.assumptions list (λ l. work firmware certificate l) status text next.1 (agree Assumptions) lh in
    record { loaded = record { firmware_read = first.0; list_read = last }; second_read = next.0 }

written_exact : (o : Option Command) (holds : List ℕ → Held) (status : Status) (before after : Option (List ℕ)) → IsReplyWritten o holds status before after → IsHeldExact o holds status
written_exact o holds status before after w judge firmware certificate list task claim j stand =
    let d = due_to o (On judge) holds status w.text j.named w.due in
    let names = judged_names judge.work j.certificate_name j.judges in
    judged_exact judge.device judge.assume judge.work j.certificate_name d.seen status j.judges d.exact firmware certificate list task claim
    (are_read judge holds d.seen j.certificate_name firmware certificate list certificate_cap status w.text names.0 names.1 d.agrees d.reply j.firmware_held j.firmware_fits j.certificate_held j.certificate_fits j.list_held) stand

-- ---- analyses

written_least : (o : Option Command) (holds : List ℕ → Held) (status : Status) (before after : Option (List ℕ)) → IsReplyWritten o holds status before after → HeldLeast o holds status before after
written_least o holds status before after w device steps firmware list a zero =
    let d = due_to o (request device a.firmware_name a.assume (Analyse steps)) holds status w.text a.named w.due in
    let h = d.headline zero in
    let f : h.firmware ≡ firmware = held_is (holds a.firmware_name) firmware_cap d.seen.firmware h.firmware firmware (d.agrees Firmware) h.read.firmware_read a.firmware_held in
    let l : h.list ≡ list = held_list holds a.assume d.seen.assumptions h.list list (d.agrees Assumptions) h.read.list_read a.list_held in
    (w.text, subst (λ x. IsLeastCertificate device firmware x w.text) l (subst (λ x. IsLeastCertificate device x h.list w.text) f h.certificate), w.grew)

written_end : (o : Option Command) (holds : List ℕ → Held) (status : Status) (before after : Option (List ℕ)) → IsReplyWritten o holds status before after → IsHeldEnd o holds status
written_end o holds status before after w device steps firmware list task a mean =
    let c = request device a.firmware_name a.assume (Analyse steps) in
    let d = due_to o (request device a.firmware_name a.assume (Analyse steps)) holds status w.text a.named w.due in
    let first = file_held a.firmware_name d.seen.firmware (holds a.firmware_name) firmware_cap firmware (λ f. WithOptional a.assume d.seen.assumptions (λ l. WorkReply c f [] l)) status w.text d.reply
    (d.agrees Firmware) a.firmware_held a.firmware_fits in
    let last = optional_held holds a.assume d.seen.assumptions list (λ l. WorkReply c firmware [] l) status w.text first.1 (d.agrees Assumptions) a.list_held in
    d.exact firmware list task (record { firmware_read = first.0; list_read = last }) mean

-- ---- simulations

written_simulated : (o : Option Command) (holds : List ℕ → Held) (status : Status) (before after : Option (List ℕ)) → IsReplyWritten o holds status before after → HeldSimulated o holds status before after
written_simulated o holds status before after w device steps firmware peripherals list a zero =
    let d = due_to o (request device a.firmware_name a.assume (Simulate a.peripherals_name steps)) holds status w.text a.named w.due in
    let h = d.headline zero in
    let f : h.firmware ≡ firmware = held_is (holds a.firmware_name) firmware_cap d.seen.firmware h.firmware firmware (d.agrees Firmware) h.read.loaded.firmware_read a.firmware_held in
    let k : h.peripherals ≡ peripherals = held_is (holds a.peripherals_name) peripherals_cap d.seen.second h.peripherals peripherals (d.agrees Second) h.read.second_read a.peripherals_held in
    let l : h.list ≡ list = held_list holds a.assume d.seen.assumptions h.list list (d.agrees Assumptions) h.read.loaded.list_read a.list_held in (
      w.text,
      subst (λ x. IsSimulated device steps firmware peripherals x w.text) l
          (subst (λ x. IsSimulated device steps firmware x h.list w.text) k (subst (λ x. IsSimulated device steps x h.peripherals h.list w.text) f h.simulated)),
      w.grew,
    )

written_peripherals : (o : Option Command) (holds : List ℕ → Held) (status : Status) (before after : Option (List ℕ)) → IsReplyWritten o holds status before after → AreHeldPeripherals o holds status
written_peripherals o holds status before after w device steps firmware peripherals list task a mean =
    let d = due_to o (request device a.firmware_name a.assume (Simulate a.peripherals_name steps)) holds status w.text a.named w.due in
    d.exact firmware peripherals list task
    (are_read (record { device = device; firmware = a.firmware_name; assume = a.assume; work = Simulate a.peripherals_name steps }) holds d.seen a.peripherals_name firmware peripherals list peripherals_cap status w.text refl refl d.agrees d.reply
    a.firmware_held a.firmware_fits a.peripherals_held a.peripherals_fit a.list_held) mean

pub written_hold : WrittenAnswersHold
written_hold = record { headline = written_headline; exact = written_exact; least = written_least; ends = written_end; simulated = written_simulated; peripherals = written_peripherals }
