-- Status 0 of a command that judges a certificate: what it says, and when it comes.
use Rattle.std.proofs.Common.{◌≡◌, ◌≤◌, ◌*◌, ◌%◌, ◌==◌, nat_lt, ℕ, Bool, true, false, List, [], length, take, Option, Some, None, Result, Ok, Err, if◌then◌else◌, IsOkAnd, inl, inr, refl, sym, ap, ap₂, ◌∙◌, subst, arith}
use Rattle.std.specs.Prelude.{◌⊎◌}
use Rattle.std.specs.Option.{option_map}
use Rattle.std.proofs.lemmas.Bool.Decides.{nat_tests}
use Rattle.basics.specs.Booleans.{left_of_and, right_of_and}
use Rattle.avr_model.specs.declared.assumption.Entry.{Entry}
use Rattle.avr_model.specs.declared.choice.Stop.{Stop}
use Rattle.avr_model.specs.declared.choice.Stop.TheVariants as stop
use Rattle.avr_model.specs.declared.device.Device.{Device}
use Rattle.avr_model.specs.Devices.{Image, words_of as count_of, limit_of, image_of, device_of}
use Rattle.avr_model.specs.Image.{IsRawImage, raw_words}
use Rattle.avr_model.specs.Run.{Bounded}
use Rattle.local_rules.specs.Machine.{AreWords}
use Rattle.elf_load.specs.Elf.{is_elf}
use Rattle.flash_image.specs.Narrowing.{NarrowingIsExact, outside_word}
use Rattle.assumption_files.specs.declared.fault.AssumeText.{AssumeText}
use Rattle.assumption_files.specs.Reading.{entries_in}
use Rattle.assumption_files.specs.Exact.{IsListDue, ReadingIsExact}
use Rattle.witness_replay.specs.Spelling.{Plan}
use Rattle.witness_replay.specs.Replay.{Report as Replayed, replay_of}
use Rattle.certificate.specs.Claims.{Claim, IsClaim}
use Rattle.certificate.specs.Valid.{IsSound, IsAttained, IsValid}
use Rattle.cert_format.specs.declared.fault.CertFault.{CertFault}
use Rattle.cert_format.specs.Reading.{certificate_in}
use Rattle.cert_format.specs.Exact.{ReadCertificateIsSpelled, SpelledCertificateIsRead}
use Rattle.cert_check.specs.Laws.{VerdictsAreOne, SoundCertificatesBoundEveryRun}
use Rattle.cert_check.specs.Verdict.{IsVerdict}
use Rattle.cert_check.specs.declared.verdict.Reason.{Reason}
use Rattle.cert_check.specs.declared.verdict.Judgement.{Judgement}
use Rattle.cert_check.specs.declared.verdict.Judgement.TheVariants.{Accepted, Rejected}
use Rattle.replies.specs.declared.status.Status.{Status}
use Rattle.replies.specs.declared.status.Status.TheVariants as exit
use Rattle.replies.specs.declared.raw.RawRefusal.TheVariants as raw
use Rattle.replies.specs.Firmware.{IsImageBy, IsFirmware, words_by, firmware_image, fault_by, outside_fault, fault_or, firmware_fault}
use Rattle.replies.specs.Texts.{elf_refused, raw_fault, firmware_outside, assumptions_refused, certificate_refused}
use Rattle.replies.specs.Reading.{Seen, Unread, Whole, Long, Contents}
use Rattle.replies.specs.Reply.{Reply, Refuses, WithFile, WithOptional, ImageBy, WithImage, ListBy, WithList, is_end, attains, AttainedBy, WitnessReply, VerdictReply, JudgedReply, CertificateReply}
use Rattle.replies.specs.Headline.{IsSeen, AreRead, IsListOf, StandFor}
use Rattle.replies.proofs.ElfWords.{one_elf, some_elf, no_refusal}
use Rattle.local_rules.specs.Site.{Task, task_with}

not_long : ◌≡◌ {A = Status} exit.Done exit.TooLong → ⊥
not_long e = cc

not_firmware : ◌≡◌ {A = Status} exit.Done exit.BadFirmware → ⊥
not_firmware e = cc

not_assumptions : ◌≡◌ {A = Status} exit.Done exit.BadAssumptions → ⊥
not_assumptions e = cc

not_certificate : ◌≡◌ {A = Status} exit.Done exit.BadCertificate → ⊥
not_certificate e = cc

pub not_rejected : ◌≡◌ {A = Status} exit.Done exit.Rejected → ⊥
not_rejected e = cc

no_true : ◌≡◌ {A = Bool} true false → ⊥
no_true e = cc

-- ---- files

pub zero_file : (name : List ℕ) (seen : Seen) (next : List ℕ → Reply) (text : List ℕ) → WithFile name seen next exit.Done text → (bytes : List ℕ) × (seen ≡ Whole bytes) × next bytes exit.Done text
zero_file name Unread next text h = absurd h
zero_file name (Whole bytes) next text h = (bytes, refl, h)
zero_file name Long next text h = absurd (not_long h.0)

pub file_zero : (name : List ℕ) (seen : Seen) (bytes : List ℕ) (next : List ℕ → Reply) (status : Status) (text : List ℕ) → seen ≡ Whole bytes → next bytes status text → WithFile name seen next status text
file_zero name seen bytes next status text e h = subst (λ s. WithFile name s next status text) (sym e) h

pub zero_optional : (o : Option (List ℕ)) (seen : Seen) (next : Option (List ℕ) → Reply) (text : List ℕ) → WithOptional o seen next exit.Done text → (list : Option (List ℕ)) × IsSeen o seen list × next list exit.Done text
zero_optional None seen next text h = (None, refl, h)
zero_optional (Some name) seen next text h = let f = zero_file name seen (λ bytes. next (Some bytes)) text h in (Some f.0, f.1, f.2)

pub optional_zero : (o : Option (List ℕ)) (seen : Seen) (list : Option (List ℕ)) (next : Option (List ℕ) → Reply) (status : Status) (text : List ℕ) → IsSeen o seen list → next list status text → WithOptional o seen next status text
optional_zero None seen list next status text e h = subst (λ l. next l status text) e h
optional_zero (Some name) seen None next status text e h = absurd e
optional_zero (Some name) seen (Some bytes) next status text e h = file_zero name seen bytes (λ b. next (Some b)) status text e h

-- ---- the image

zero_by : (o : Option (List ℕ)) (reply : Reply) (text : List ℕ) → ImageBy o reply exit.Done text → (o ≡ None) × reply exit.Done text
zero_by None reply text h = (refl, h)
zero_by (Some refusal) reply text h = absurd (not_firmware h.0)

pub by_none : (o : Option (List ℕ)) (reply : Reply) (status : Status) (text : List ℕ) → o ≡ None → reply status text → ImageBy o reply status text
by_none None reply status text e h = h
by_none (Some refusal) reply status text e h = absurd (let wrong = e in cc)

no_raw_fault : (cap n : ℕ) (odd long : Bool) → (n % 2 == 1) ≡ odd → nat_lt cap n ≡ long → (if odd then Some (raw_fault raw.OddLength) else (if long then Some (raw_fault raw.TooLong) else None)) ≡ None → (n % 2 ≡ 0) × (n ≤ cap)
no_raw_fault cap n true long e f h = absurd (let wrong = h in cc)
no_raw_fault cap n false true e f h = absurd (let wrong = h in cc)
no_raw_fault cap n false false e f h = (grind (arith, nat_tests), grind (arith, nat_tests))

raw_fault_none : (cap n : ℕ) → n % 2 ≡ 0 → n ≤ cap → (if n % 2 == 1 then Some (raw_fault raw.OddLength) else (if nat_lt cap n then Some (raw_fault raw.TooLong) else None)) ≡ None
raw_fault_none cap n even fits =
    let e : (n % 2 == 1) ≡ false = grind (arith, nat_tests) in
    let f : nat_lt cap n ≡ false = grind (arith, nat_tests) in
    rw (e, f) refl

-- there is neither fault
none_of : (a b : Option (List ℕ)) → fault_or a b ≡ None → (a ≡ None) × (b ≡ None)
none_of None b e = (refl, e)
none_of (Some text) b e = absurd (let wrong = e in cc)

no_word : (device : Device) (o : Option ℕ) → option_map (firmware_outside device) o ≡ None → o ≡ None
no_word device None e = refl
no_word device (Some word) e = absurd (let wrong = e in cc)

module _
    (one : (device : Device) (bytes words : List ℕ) → IsRawImage device bytes words → words ≡ raw_words device bytes)
    (images : (device : Device) (bytes : List ℕ) → length bytes % 2 ≡ 0 → length bytes ≤ 2 * limit_of device → IsRawImage device bytes (raw_words device bytes))
    (narrowing : NarrowingIsExact) where
  image_by : (device : Device) (elf : Bool) (bytes : List ℕ) → fault_by device elf bytes ≡ None → IsImageBy device elf bytes (words_by device elf bytes)
  image_by device true bytes e = some_elf device bytes (no_refusal device bytes e)
  image_by device false bytes e = let h = no_raw_fault (2 * limit_of device) (length bytes) (length bytes % 2 == 1) (nat_lt (2 * limit_of device) (length bytes)) refl refl e in images device bytes h.0 h.1

  all_of : (device : Device) (elf : Bool) (bytes all : List ℕ) → IsImageBy device elf bytes all → all ≡ words_by device elf bytes
  all_of device true bytes all h = one_elf device bytes all h
  all_of device false bytes all h = one device bytes all h

  image_fault : (device : Device) (elf : Bool) (bytes all : List ℕ) → IsImageBy device elf bytes all → fault_by device elf bytes ≡ None
  image_fault device true bytes all h = ap (option_map elf_refused) h.loads
  image_fault device false bytes all h = raw_fault_none (2 * limit_of device) (length bytes) h.even h.fits

  image_size : (device : Device) (elf : Bool) (bytes all : List ℕ) → IsImageBy device elf bytes all → length all ≡ limit_of device
  image_size device true bytes all h = h.size
  image_size device false bytes all h = h.size

  firmware_here : (device : Device) (bytes : List ℕ) → firmware_fault device bytes ≡ None → IsFirmware device bytes (firmware_image device bytes)
  firmware_here device bytes e =
      let all : List ℕ = words_by device (is_elf bytes) bytes in
      let none = none_of (fault_by device (is_elf bytes) bytes) (outside_fault device all) e in
      let image = image_by device (is_elf bytes) bytes none.0 in
      record { all = all; words = image; narrowed = narrowing.some device all (image_size device (is_elf bytes) bytes all image) (no_word device (outside_word device all) none.1) }

  pub words_of : (device : Device) (bytes : List ℕ) (image : Image) → IsFirmware device bytes image → image ≡ firmware_image device bytes
  words_of device bytes image h =
      narrowing.words device h.all image (image_size device (is_elf bytes) bytes h.all h.words) h.narrowed
      ∙ ap (λ (all : List ℕ). image_of device (take (count_of device) all)) (all_of device (is_elf bytes) bytes h.all h.words)

  pub fault_of : (device : Device) (bytes : List ℕ) (image : Image) → IsFirmware device bytes image → firmware_fault device bytes ≡ None
  fault_of device bytes image h =
      let none = narrowing.none device h.all image (image_size device (is_elf bytes) bytes h.all h.words) h.narrowed in
      ap (λ (o : Option (List ℕ)). fault_or o (outside_fault device (words_by device (is_elf bytes) bytes))) (image_fault device (is_elf bytes) bytes h.all h.words)
      ∙ ap (outside_fault device) (sym (all_of device (is_elf bytes) bytes h.all h.words))
      ∙ ap (option_map (firmware_outside device)) none

  pub zero_image : (device : Device) (bytes : List ℕ) (next : Image → Reply) (text : List ℕ) → WithImage device bytes next exit.Done text
      → IsFirmware device bytes (firmware_image device bytes) × next (firmware_image device bytes) exit.Done text
  zero_image device bytes next text h =
      let by = zero_by (firmware_fault device bytes) (next (firmware_image device bytes)) text h in
      (firmware_here device bytes by.0, by.1)

  pub image_zero : (device : Device) (bytes : List ℕ) (image : Image) (next : Image → Reply) (status : Status) (text : List ℕ) → IsFirmware device bytes image → next image status text → WithImage device bytes next status text
  image_zero device bytes image next status text firmware h =
      by_none (firmware_fault device bytes) (next (firmware_image device bytes)) status text (fault_of device bytes image firmware)
      (subst (λ ws. next ws status text) (words_of device bytes image firmware) h)

-- ---- the assumptions

pub zero_refused : (n : Status) → (◌≡◌ {A = Status} exit.Done n → ⊥) → (o : Option (List ℕ)) (text : List ℕ) → Refuses n o exit.Done text → ⊥
zero_refused n apart None text h = h
zero_refused n apart (Some t) text h = apart h.0

zero_read : (x : Result (List Entry) AssumeText) (next : List Entry → Reply) (text : List ℕ) → ListBy x next exit.Done text → (A : List Entry) × (x ≡ Ok A) × next A exit.Done text
zero_read (Ok A) next text h = (A, refl, h)
zero_read (Err fault) next text h = absurd (zero_refused exit.BadAssumptions not_assumptions (assumptions_refused fault) text h)

module _ (exact : ReadingIsExact) where
  pub zero_list : (device : Device) (list : Option (List ℕ)) (next : List Entry → Reply) (text : List ℕ) → WithList device list next exit.Done text → (A : List Entry) × IsListOf device list A × next A exit.Done text
  zero_list device None next text h = ([], refl, h)
  zero_list device (Some bytes) next text h =
      let r = zero_read (entries_in device bytes) next text h in
      (r.0, subst (IsListDue device bytes) r.1 (exact.read device bytes), r.2)

  pub list_zero : (device : Device) (list : Option (List ℕ)) (A : List Entry) (next : List Entry → Reply) (status : Status) (text : List ℕ) → IsListOf device list A → next A status text → WithList device list next status text
  list_zero device None A next status text e h = subst (λ l. next l status text) e h
  list_zero device (Some bytes) A next status text e h = subst (λ x. ListBy x next status text) (sym (exact.due device bytes (Ok A) e)) h

  pub same_list : (device : Device) (list : Option (List ℕ)) (A B : List Entry) → IsListOf device list A → IsListOf device list B → A ≡ B
  same_list device None A B h k = h ∙ sym k
  same_list device (Some bytes) A B h k = let e : ◌≡◌ {A = Result (List Entry) AssumeText} (Ok A) (Ok B) = sym (exact.due device bytes (Ok A) h) ∙ exact.due device bytes (Ok B) k in cc

-- ---- the schedule

is_end_end : (s : Stop) → is_end s ≡ true → s ≡ stop.End
is_end_end stop.End h = refl
is_end_end (stop.Flag f) h = absurd (let wrong = h in cc)
is_end_end (stop.Undefined pc) h = absurd (let wrong = h in cc)
is_end_end (stop.Overflow pc) h = absurd (let wrong = h in cc)

pub attained_by : (bound : ℕ) (x : Result Replayed ℕ) → attains bound x ≡ true → IsOkAnd x (λ r. (r.stop ≡ stop.End) × (r.depth ≡ bound))
attained_by bound (Err step) h = absurd (let wrong = h in cc)
attained_by bound (Ok r) h =
    let d : (r.depth == bound) ≡ true = right_of_and (is_end r.stop) (r.depth == bound) h in
    (is_end_end r.stop (left_of_and (is_end r.stop) (r.depth == bound) h), grind (arith, nat_tests))

pub attains_by : (bound : ℕ) (x : Result Replayed ℕ) → IsOkAnd x (λ r. (r.stop ≡ stop.End) × (r.depth ≡ bound)) → attains bound x ≡ true
attains_by bound (Err step) h = absurd h
attains_by bound (Ok r) h = let d : (r.depth == bound) ≡ true = (let e = h.1 in grind (arith, nat_tests)) in rw (h.0, d) refl

-- the schedule attains the bound, and the answer continues
pub record IsAttainmentTold (task : Task) (next : Reply) (bound : ℕ) (w : Option Plan) (text : List ℕ) : Type 0 where
  pub attained : IsAttained task bound w
  pub says : next exit.Done text

zero_attained : (task : Task) (next : Reply) (bound : ℕ) (plan : Plan) (attained : Bool) (text : List ℕ) → attains bound (replay_of task.flash task.assumptions plan) ≡ attained
    → AttainedBy next attained exit.Done text → IsAttainmentTold task next bound (Some plan) text
zero_attained task next bound plan true text e h = record { attained = attained_by bound (replay_of task.flash task.assumptions plan) e; says = h }
zero_attained task next bound plan false text e h = absurd (not_rejected h.0)

zero_witness : (task : Task) (next : Reply) (bound : ℕ) (w : Option Plan) (text : List ℕ) → WitnessReply task next bound w exit.Done text → IsAttainmentTold task next bound w text
zero_witness task next bound None text h = record { attained = tt; says = h }
zero_witness task next bound (Some plan) text h = zero_attained task next bound plan (attains bound (replay_of task.flash task.assumptions plan)) text refl h

pub witness_zero : (task : Task) (next : Reply) (bound : ℕ) (w : Option Plan) (status : Status) (text : List ℕ) → IsAttained task bound w → next status text
    → WitnessReply task next bound w status text
witness_zero task next bound None status text h k = k
witness_zero task next bound (Some plan) status text h k = subst (λ b. AttainedBy next b status text) (sym (attains_by bound (replay_of task.flash task.assumptions plan) h)) k

-- ---- the verdict and the certificate

-- the certificate is sound, its schedule attains its bound, and the answer continues
pub record IsAccepted (task : Task) (next : Claim → Reply) (c : Claim) (text : List ℕ) : Type 0 where
  pub sound : IsSound task c
  pub told : IsAttainmentTold task (next c) c.bound c.witness text

zero_verdict : (task : Task) (next : Claim → Reply) (c : Claim) (v : Judgement ℕ) (text : List ℕ) → IsVerdict task c v → VerdictReply task next c v exit.Done text → IsAccepted task next c text
zero_verdict task next c (Rejected reason) text is h = absurd (not_rejected h.0)
zero_verdict task next c (Accepted bound) text is h =
    record { sound = is.0; told = subst (λ b. IsAttainmentTold task (next c) b c.witness text) is.1 (zero_witness task (next c) bound c.witness text h) }

zero_certificate : (task : Task) (next : Claim → Reply) (x : Result Claim CertFault) (text : List ℕ) → CertificateReply task next x exit.Done text
    → (c : Claim) × (x ≡ Ok c) × IsAccepted task next c text
zero_certificate task next (Err fault) text h = absurd (zero_refused exit.BadCertificate not_certificate (certificate_refused fault) text h)
zero_certificate task next (Ok c) text h = (c, refl, zero_verdict task next c h.verdict text h.is h.reply)

certificate_zero : (task : Task) (next : Claim → Reply) (x : Result Claim CertFault) (c : Claim) (status : Status) (text : List ℕ) → x ≡ Ok c → IsSound task c → IsAttained task c.bound c.witness
    → next c status text → CertificateReply task next x status text
certificate_zero task next x c status text e sound attained k =
    subst (λ y. CertificateReply task next y status text) (sym e)
    (record { verdict = Accepted c.bound; is = (sound, refl); reply = witness_zero task (next c) c.bound c.witness status text attained k })

-- ---- where a verdict is given

-- the certificate is valid and the answer continues, or it isn't valid
abbrev pub IsJudged : Task → (Claim → Reply) → Claim → Reply
IsJudged task next c status text = (IsValid task c × next c status text) ⊎ ((IsValid task c → ⊥) × (status ≡ exit.Rejected))

by_attained : (task : Task) (next : Claim → Reply) (c : Claim) (plan : Plan) (attained : Bool) (status : Status) (text : List ℕ) → IsSound task c → c.witness ≡ Some plan
    → attains c.bound (replay_of task.flash task.assumptions plan) ≡ attained → AttainedBy (next c) attained status text → IsJudged task next c status text
by_attained task next c plan true status text sound is e h =
    inl (record { sound = sound; attained = subst (IsAttained task c.bound) (sym is) (attained_by c.bound (replay_of task.flash task.assumptions plan) e) }, h)
by_attained task next c plan false status text sound is e h =
    inr (λ v. no_true (sym (attains_by c.bound (replay_of task.flash task.assumptions plan) (subst (IsAttained task c.bound) is v.attained)) ∙ e), h.0)

by_witness : (task : Task) (next : Claim → Reply) (c : Claim) (w : Option Plan) (status : Status) (text : List ℕ) → IsSound task c → c.witness ≡ w
    → WitnessReply task (next c) c.bound w status text → IsJudged task next c status text
by_witness task next c None status text sound is h = inl (record { sound = sound; attained = subst (IsAttained task c.bound) (sym is) tt }, h)
by_witness task next c (Some plan) status text sound is h = by_attained task next c plan (attains c.bound (replay_of task.flash task.assumptions plan)) status text sound is refl h

rejected_apart : (reason : Reason) (bound : ℕ) → Rejected reason ≡ Accepted bound → ⊥
rejected_apart reason bound e = cc

by_verdict : VerdictsAreOne → (task : Task) (next : Claim → Reply) (c : Claim) → IsClaim c → (v : Judgement ℕ) (status : Status) (text : List ℕ) → IsVerdict task c v
    → VerdictReply task next c v status text → IsJudged task next c status text
by_verdict verdicts task next c claim (Rejected reason) status text is h =
    inr (λ v. rejected_apart reason c.bound (verdicts task c (Rejected reason) (Accepted c.bound) claim is (v.sound, refl)), h.0)
by_verdict verdicts task next c claim (Accepted bound) status text is h =
    by_witness task next c c.witness status text is.0 refl (subst (λ b. WitnessReply task (next c) b c.witness status text) is.1 h)

-- ---- what follows files that were read

pub file_read : (name : List ℕ) (seen : Seen) (bytes : List ℕ) (next : List ℕ → Reply) (status : Status) (text : List ℕ) → seen ≡ Whole bytes → WithFile name seen next status text → next bytes status text
file_read name seen bytes next status text e h = subst (λ s. WithFile name s next status text) e h

pub optional_read : (o : Option (List ℕ)) (seen : Seen) (list : Option (List ℕ)) (next : Option (List ℕ) → Reply) (status : Status) (text : List ℕ) → IsSeen o seen list → WithOptional o seen next status text → next list status text
optional_read None seen list next status text e h = subst (λ l. next l status text) (sym e) h
optional_read (Some name) seen None next status text e h = absurd e
optional_read (Some name) seen (Some bytes) next status text e h = file_read name seen bytes (λ b. next (Some b)) status text e h

fault_none : (o : Option (List ℕ)) (reply : Reply) (status : Status) (text : List ℕ) → o ≡ None → ImageBy o reply status text → reply status text
fault_none o reply status text e h = subst (λ x. ImageBy x reply status text) e h

-- ---- all

-- the answer to an accepted certificate, for a firmware of these bytes with these words, under these assumptions
abbrev pub Accepting : Type 1
Accepting = List ℕ → Task → Claim → Reply

-- the answer of a command that judges, by the bytes of its files
abbrev JudgeReply : Device → Accepting → List ℕ → List ℕ → Option (List ℕ) → Reply
JudgeReply device next firmware second list = WithImage device firmware (λ words. WithList device list (λ A. CertificateReply (task_with words A) (next firmware (task_with words A)) (certificate_in (device_of words) second)))

-- the answer of a command that judges this certificate for this firmware, and how it continues if it accepts
abbrev pub IsReplyJudged : Device → Accepting → List ℕ → List ℕ → Option (List ℕ) → Contents → Reply
IsReplyJudged device next fw cert assume seen = WithFile fw seen.firmware (λ firmware. WithFile cert seen.second (λ s. WithOptional assume seen.assumptions (λ list. JudgeReply device next firmware s list)))

module _
    (one : (device : Device) (bytes words : List ℕ) → IsRawImage device bytes words → words ≡ raw_words device bytes)
    (images : (device : Device) (bytes : List ℕ) → length bytes % 2 ≡ 0 → length bytes ≤ 2 * limit_of device → IsRawImage device bytes (raw_words device bytes))
    (narrowing : NarrowingIsExact)
    (lists : ReadingIsExact)
    (read : ReadCertificateIsSpelled)
    (spelled : SpelledCertificateIsRead)
    (bounds : SoundCertificatesBoundEveryRun)
    (device : Device)
    (next : Accepting) where
  -- the premises of status 0
  record IsZero (assume : Option (List ℕ)) (seen : Contents) (text : List ℕ) : Type 0 where
    firmware : List ℕ
    certificate : List ℕ
    list : Option (List ℕ)
    are_read : AreRead assume seen firmware certificate list
    A : List Entry
    claim : Claim
    image : IsFirmware device firmware (firmware_image device firmware)
    assumptions : IsListOf device list A
    is : certificate_in device certificate ≡ Ok claim
    accepted : IsAccepted (task_with (firmware_image device firmware) A) (next firmware (task_with (firmware_image device firmware) A)) claim text

  zero_judgement : (fw cert : List ℕ) (assume : Option (List ℕ)) (seen : Contents) (text : List ℕ) → IsReplyJudged device next fw cert assume seen exit.Done text → IsZero assume seen text
  zero_judgement fw cert assume seen text h =
      let first = zero_file fw seen.firmware _ text h in
      let second = zero_file cert seen.second _ text first.2 in
      let third = zero_optional assume seen.assumptions (λ list. JudgeReply device next first.0 second.0 list) text second.2 in
      let image = zero_image one images narrowing device first.0 (λ ws. WithList device third.0 (λ B. CertificateReply (task_with ws B) (next first.0 (task_with ws B)) (certificate_in (device_of ws) second.0))) text third.2 in
      let list = zero_list lists device third.0 (λ B. CertificateReply (task_with (firmware_image device first.0) B) (next first.0 (task_with (firmware_image device first.0) B)) (certificate_in device second.0)) text image.1 in
      let judged = zero_certificate (task_with (firmware_image device first.0) list.0) (next first.0 (task_with (firmware_image device first.0) list.0)) (certificate_in device second.0) text list.2 in
      record {
        firmware = first.0;
        certificate = second.0;
        list = third.0;
        are_read = record { loaded = record { firmware_read = first.1; list_read = third.1 }; second_read = second.1 };
        A = list.0;
        claim = judged.0;
        image = image.0;
        assumptions = list.1;
        is = judged.1;
        accepted = judged.2;
      }

  -- the bound holds of what was read
  pub record HoldsOf (assume : Option (List ℕ)) (seen : Contents) (text : List ℕ) : Type 0 where
    pub firmware : List ℕ
    pub certificate : List ℕ
    pub list : Option (List ℕ)
    pub are_read : AreRead assume seen firmware certificate list
    pub task : Task
    pub claim : Claim
    pub stand : StandFor device firmware certificate list task claim
    pub fit : AreWords task.flash
    pub valid : IsValid task claim
    pub bounded : Bounded task.flash task.assumptions claim.bound
    pub told : next firmware task claim exit.Done text

  pub judgement_holds : (fw cert : List ℕ) (assume : Option (List ℕ)) (seen : Contents) (text : List ℕ) → ((firmware : List ℕ) → seen.firmware ≡ Whole firmware → AreWords (firmware_image device firmware))
      → IsReplyJudged device next fw cert assume seen exit.Done text → HoldsOf assume seen text
  judgement_holds fw cert assume seen text has h =
      let z = zero_judgement fw cert assume seen text h in
      let spelling = read device z.certificate z.claim z.is in
      record {
        firmware = z.firmware;
        certificate = z.certificate;
        list = z.list;
        are_read = z.are_read;
        task = task_with (firmware_image device z.firmware) z.A;
        claim = z.claim;
        stand = record { mean = record { image = z.image; assumptions = z.assumptions }; made_for = spelling.0; fits = spelling.2; bytes = spelling.1 };
        fit = has z.firmware z.are_read.loaded.firmware_read;
        valid = record { sound = z.accepted.sound; attained = z.accepted.told.attained };
        bounded = bounds (task_with (firmware_image device z.firmware) z.A) z.claim (has z.firmware z.are_read.loaded.firmware_read) spelling.2.claim z.accepted.sound;
        told = z.accepted.told.says;
      }

  -- ---- exactness

  pub image_read : (bytes : List ℕ) (image : Image) (later : Image → Reply) (status : Status) (text : List ℕ) → IsFirmware device bytes image → WithImage device bytes later status text → later image status text
  image_read bytes image later status text firmware h =
      subst (λ ws. later ws status text) (sym (words_of one images narrowing device bytes image firmware))
      (fault_none (firmware_fault device bytes) (later (firmware_image device bytes)) status text (fault_of one images narrowing device bytes image firmware) h)

  pub list_read : (list : Option (List ℕ)) (A : List Entry) (later : List Entry → Reply) (status : Status) (text : List ℕ) → IsListOf device list A → WithList device list later status text → later A status text
  list_read None A later status text e h = subst (λ l. later l status text) (sym e) h
  list_read (Some bytes) A later status text e h = subst (λ x. ListBy x later status text) (lists.due device bytes (Ok A) e) h

  -- all files are well-formed
  module _ (fw cert : List ℕ) (assume : Option (List ℕ)) (seen : Contents) (firmware certificate : List ℕ) (list : Option (List ℕ)) (task : Task) (claim : Claim)
      (are : AreRead assume seen firmware certificate list) (stand : StandFor device firmware certificate list task claim) where
    -- the answer by the verdict on the certificate
    judged_so : (status : Status) (text : List ℕ) → IsReplyJudged device next fw cert assume seen status text → JudgedReply task (next firmware task) claim status text
    judged_so status text h =
        let first = file_read fw seen.firmware firmware _ status text are.loaded.firmware_read h in
        let second = file_read cert seen.second certificate _ status text are.second_read first in
        let third = optional_read assume seen.assumptions list (λ l. JudgeReply device next firmware certificate l) status text are.loaded.list_read second in
        let image = image_read firmware task.flash (λ ws. WithList device list (λ B. CertificateReply (task_with ws B) (next firmware (task_with ws B)) (certificate_in (device_of ws) certificate))) status text stand.mean.image third in
        subst (λ x. CertificateReply task (next firmware task) x status text) (ap₂ certificate_in (stand.mean.image.narrowed.is ∙ sym stand.made_for) stand.bytes ∙ spelled claim stand.fits)
        (list_read list task.assumptions (λ B. CertificateReply (task_with task.flash B) (next firmware (task_with task.flash B)) (certificate_in (device_of task.flash) certificate)) status text stand.mean.assumptions image)

    -- the certificate is valid and the answer continues, or it isn't valid
    pub judged_by : VerdictsAreOne → (status : Status) (text : List ℕ) → IsReplyJudged device next fw cert assume seen status text → IsJudged task (next firmware task) claim status text
    judged_by verdicts status text h =
        let j = judged_so status text h in by_verdict verdicts task (next firmware task) claim stand.fits.claim j.verdict status text j.is j.reply

    pub valid_judged : (status : Status) (text : List ℕ) → IsValid task claim → next firmware task claim status text → IsReplyJudged device next fw cert assume seen status text
    valid_judged status text v says =
        file_zero fw seen.firmware firmware _ status text are.loaded.firmware_read
        (file_zero cert seen.second certificate _ status text are.second_read
        (optional_zero assume seen.assumptions list (λ l. JudgeReply device next firmware certificate l) status text are.loaded.list_read
        (image_zero one images narrowing device firmware task.flash (λ ws. WithList device list (λ B. CertificateReply (task_with ws B) (next firmware (task_with ws B)) (certificate_in (device_of ws) certificate))) status text stand.mean.image
        (list_zero lists device list task.assumptions (λ B. CertificateReply (task_with task.flash B) (next firmware (task_with task.flash B)) (certificate_in (device_of task.flash) certificate)) status text stand.mean.assumptions
        (certificate_zero task (next firmware task) (certificate_in (device_of task.flash) certificate) claim status text (ap₂ certificate_in (stand.mean.image.narrowed.is ∙ sym stand.made_for) stand.bytes ∙ spelled claim stand.fits) v.sound v.attained says)))))
