-- The top call.
use Rattle.std.specs.Prelude.{◌≡◌, ◌≢◌, ◌⊎◌, ◌↔◌, ◌≤◌, ℕ, Bool, List, length, Option, Some, None, Result, MatchResult}
use Rattle.avr_model.specs.declared.device.Device.{Device}
use Rattle.text_base.specs.Outside.{Held, Bytes, Blamed, Rose, grown, GrewByPrefix}
use Rattle.certificate.specs.Claims.{Claim}
use Rattle.peripherals.specs.Spelling.{Setup}
use Rattle.peripherals.specs.Exact.{IsSetupReading as ArePeripherals}
use Rattle.commands.specs.Commands.{Work, Check, Analyse, Report, Explain, Clear, Premises, Attain, Simulate, Request, Command, On, assume_of}
use Rattle.replies.specs.declared.status.Status.{Status}
use Rattle.replies.specs.declared.status.Status.TheVariants as exit
use Rattle.replies.specs.Texts.{usage, read_fault}
use Rattle.replies.specs.Reading.{Contents, AllAgree, IsFirstFailed, firmware_cap, certificate_cap, peripherals_cap, assumption_cap}
use Rattle.replies.specs.Reply.{IsReply}
use Rattle.replies.specs.Headline.{Mean, StandFor, Holds, IsLeastCertificate, IsSimulated, SaysWhether, SaysHowRoundsEnd, Headline, IsExact}
use Rattle.local_rules.specs.Site.{Task}
use Rattle.stack_core.specs.declared.reply.Reply.{Reply}
use Rattle.stack_core.specs.Reading.{FilesReport}

-- ---- the answer where no call failed and memory sufficed

-- Each file of a command has one value, by its position, which agrees with what the files object reports, also if one name occurs twice.
-- The answer is the one reply to these values. A reply that accepts a certificate says that the bound holds, and comes exactly if the
-- certificate is valid. One that writes a certificate says that it is the least, and its status says how the rounds end.
pub record IsAnswered (command : Command) (holds : List ℕ → Held) (status : Status) (text : List ℕ) : Type 0 where
  pub seen : Contents
  pub agrees : AllAgree command holds seen
  pub reply : IsReply command seen status text
  pub headline : Headline command seen status text
  pub exact : IsExact command seen status

-- the answer to words that are this command, or none
abbrev pub IsReplyDue : Option Command → (List ℕ → Held) → Status → List ℕ → Type 0
IsReplyDue None holds status text = (status ≡ exit.Usage) × (text ≡ usage)
IsReplyDue (Some command) holds status text = IsAnswered command holds status text

-- the reply is due, and its text was written
pub record IsReplyWritten (command : Option Command) (holds : List ℕ → Held) (status : Status) (before after : Option (List ℕ)) : Type 0 where
  pub text : List ℕ
  pub due : IsReplyDue command holds status text
  pub grew : after ≡ grown before text

-- exactly the words that are no command get the usage, unless the answer could not be written or memory ran out
abbrev pub GetsUsage : Option Command → Status → Type 0
GetsUsage command status = status ≢ exit.WriteFault → status ≢ exit.OutOfMemory → (status ≡ exit.Usage) ↔ (command ≡ None)

-- ---- a read that failed

-- The count of faults rose, and this is the command's first file that could not be read.
abbrev pub IsReadFault : Option Command → (List ℕ → Held) → ℕ → ℕ → Blamed → List ℕ → Type 0
IsReadFault None holds before after blamed name = ⊥
IsReadFault (Some command) holds before after blamed name = IsFirstFailed command holds blamed name × Rose before after

-- ---- before anything is written

-- an answer before which no read failed
pub record IsSettledAnswer (command : Option Command) (holds : List ℕ → Held) (before after : ℕ) (status : Status) (text : List ℕ) : Type 0 where
  pub quiet : after ≡ before
  pub due : IsReplyDue command holds status text
  pub usage_alone : (status ≡ exit.Usage) ↔ (command ≡ None)
  pub read : status ≢ exit.ReadFault
  pub write : status ≢ exit.WriteFault
  pub ample : status ≢ exit.OutOfMemory

-- the answer names the read that failed
pub record IsFaultTold (command : Option Command) (holds : List ℕ → Held) (before after : ℕ) (blamed : Blamed) (status : Status) (text : List ℕ) : Type 0 where
  pub is_fault : status ≡ exit.ReadFault
  pub name : List ℕ
  pub fault : IsReadFault command holds before after blamed name
  pub text_is : text ≡ read_fault name

abbrev pub IsOutcome : Option Command → (List ℕ → Held) → ℕ → ℕ → Blamed → Status → List ℕ → Type 0
IsOutcome command holds before after blamed status text = IsSettledAnswer command holds before after status text ⊎ IsFaultTold command holds before after blamed status text

-- when memory runs out: no read failed, or one did whose fault is due
abbrev pub IsCutOff : Option Command → (List ℕ → Held) → ℕ → ℕ → Blamed → Type 0
IsCutOff command holds before after blamed = (after ≡ before) ⊎ ((name : List ℕ) × IsReadFault command holds before after blamed name)

-- an answer, or want of memory
abbrev pub GivesOutcome : {E : Type 0} → FilesReport → Option Command → Result Reply E → Type 0
GivesOutcome r command result =
    MatchResult result (λ reply. IsOutcome command r.holds r.before r.after r.blamed reply.status reply.text.items) (λ e. IsCutOff command r.holds r.before r.after r.blamed)

-- the read fault of some name was written
abbrev pub WritesReadFault : FilesReport → Option Command → Option (List ℕ) → Option (List ℕ) → Type 0
WritesReadFault r command old new = (name : List ℕ) × IsReadFault command r.holds r.before r.after r.blamed name × (new ≡ grown old (read_fault name))

-- ---- a write fault, and want of memory

-- A prefix of the due text was written: that of the answer if no read failed, else that of the read fault.
abbrev pub Cuts : Option Command → (List ℕ → Held) → ℕ → ℕ → Blamed → Option (List ℕ) → Option (List ℕ) → Type 0
Cuts command holds before after blamed old new =
    ((after ≡ before) × ((new ≡ old) ⊎ ((status : Status) × (text : List ℕ) × IsReplyDue command holds status text × GrewByPrefix old new text)))
    ⊎ ((name : List ℕ) × IsReadFault command holds before after blamed name × GrewByPrefix old new (read_fault name))

abbrev pub CutsOff : FilesReport → Option Command → Option (List ℕ) → Option (List ℕ) → Type 0
CutsOff r command old new = Cuts command r.holds r.before r.after r.blamed old new

-- ---- over files that tell what they hold

abbrev pub AreHeld : (List ℕ → Held) → Option (List ℕ) → Option (List ℕ) → Type 0
AreHeld holds None list = list ≡ None
AreHeld holds (Some name) None = ⊥
AreHeld holds (Some name) (Some bytes) = (holds name ≡ Bytes bytes) × (length bytes ≤ assumption_cap)

-- the work judges the certificate of this name
pub data Judges : Work → (certificate : List ℕ) → Type 0 where
  checks : (certificate : List ℕ) → Judges (Check certificate) certificate
  reports : (certificate : List ℕ) (json : Bool) → Judges (Report certificate json) certificate
  clears : (certificate : List ℕ) → Judges (Clear certificate) certificate
  lists_premises : (certificate : List ℕ) (why : Bool) → Judges (Premises certificate why) certificate
  explains : (certificate : List ℕ) → Judges (Explain certificate) certificate
  completes : (certificate : List ℕ) (trials : ℕ) → Judges (Attain certificate trials) certificate

-- The words are this request, which judges, and these bytes are held under its names, within the caps.
pub record IsJudging (command : Option Command) (judge : Request) (holds : List ℕ → Held) (firmware certificate : List ℕ) (list : Option (List ℕ)) : Type 0 where
  pub certificate_name : List ℕ
  pub named : command ≡ Some (On judge)
  pub judges : Judges judge.work certificate_name
  pub firmware_held : holds judge.firmware ≡ Bytes firmware
  pub firmware_fits : length firmware ≤ firmware_cap
  pub certificate_held : holds certificate_name ≡ Bytes certificate
  pub certificate_fits : length certificate ≤ certificate_cap
  pub list_held : AreHeld holds (assume_of judge.work judge.assume) list

-- if a command on held bytes accepts a certificate, the bound holds of them and is printed
abbrev pub HeldHeadline : Option Command → (List ℕ → Held) → Status → Option (List ℕ) → Option (List ℕ) → Type 0
HeldHeadline command holds status before after =
    (judge : Request) (firmware certificate : List ℕ) (list : Option (List ℕ)) → IsJudging command judge holds firmware certificate list → status ≡ exit.Done
    → (text : List ℕ) × Holds judge.device judge.work firmware certificate list text × (after ≡ grown before text)

-- if held bytes are well-formed, it accepts exactly if the certificate is valid, and for `clear` all nodes are clear
abbrev pub IsHeldExact : Option Command → (List ℕ → Held) → Status → Type 0
IsHeldExact command holds status =
    (judge : Request) (firmware certificate : List ℕ) (list : Option (List ℕ)) (task : Task) (claim : Claim)
    → IsJudging command judge holds firmware certificate list → StandFor judge.device firmware certificate list task claim → SaysWhether judge.work task claim status

-- The words are an analysis for this device with this budget, and these bytes are held under its names, within the caps.
pub record IsAnalysing (command : Option Command) (device : Device) (steps : Option ℕ) (holds : List ℕ → Held) (firmware : List ℕ) (list : Option (List ℕ)) : Type 0 where
  pub firmware_name : List ℕ
  pub assume : Option (List ℕ)
  pub named : command ≡ Some (On (record { device = device; firmware = firmware_name; assume = assume; work = Analyse steps }))
  pub firmware_held : holds firmware_name ≡ Bytes firmware
  pub firmware_fits : length firmware ≤ firmware_cap
  pub list_held : AreHeld holds assume list

-- if an analysis of held bytes answers 0, it has written exactly the text of their least certificate
abbrev pub HeldLeast : Option Command → (List ℕ → Held) → Status → Option (List ℕ) → Option (List ℕ) → Type 0
HeldLeast command holds status before after =
    (device : Device) (steps : Option ℕ) (firmware : List ℕ) (list : Option (List ℕ)) → IsAnalysing command device steps holds firmware list → status ≡ exit.Done
    → (text : List ℕ) × IsLeastCertificate device firmware list text × (after ≡ grown before text)

-- if held bytes are well-formed, the status says how the rounds end
abbrev pub IsHeldEnd : Option Command → (List ℕ → Held) → Status → Type 0
IsHeldEnd command holds status =
    (device : Device) (steps : Option ℕ) (firmware : List ℕ) (list : Option (List ℕ)) (task : Task)
    → IsAnalysing command device steps holds firmware list → Mean device firmware list task → SaysHowRoundsEnd task steps status

-- The words are a simulation for this device of this many choices, and these bytes are held under its names, within the caps.
pub record IsSimulating (command : Option Command) (device : Device) (steps : ℕ) (holds : List ℕ → Held) (firmware peripherals : List ℕ) (list : Option (List ℕ)) : Type 0 where
  pub firmware_name : List ℕ
  pub peripherals_name : List ℕ
  pub assume : Option (List ℕ)
  pub named : command ≡ Some (On (record { device = device; firmware = firmware_name; assume = assume; work = Simulate peripherals_name steps }))
  pub firmware_held : holds firmware_name ≡ Bytes firmware
  pub firmware_fits : length firmware ≤ firmware_cap
  pub peripherals_held : holds peripherals_name ≡ Bytes peripherals
  pub peripherals_fit : length peripherals ≤ peripherals_cap
  pub list_held : AreHeld holds assume list

-- if a simulation of held bytes answers 0, it has printed the run that the peripherals choose, which stays within each bound that `check`
-- accepts
abbrev pub HeldSimulated : Option Command → (List ℕ → Held) → Status → Option (List ℕ) → Option (List ℕ) → Type 0
HeldSimulated command holds status before after =
    (device : Device) (steps : ℕ) (firmware peripherals : List ℕ) (list : Option (List ℕ)) → IsSimulating command device steps holds firmware peripherals list → status ≡ exit.Done
    → (text : List ℕ) × IsSimulated device steps firmware peripherals list text × (after ≡ grown before text)

-- if held firmware and assumptions are well-formed, it answers 0 exactly if the peripherals' text is well-formed
abbrev pub AreHeldPeripherals : Option Command → (List ℕ → Held) → Status → Type 0
AreHeldPeripherals command holds status =
    (device : Device) (steps : ℕ) (firmware peripherals : List ℕ) (list : Option (List ℕ)) (task : Task)
    → IsSimulating command device steps holds firmware peripherals list → Mean device firmware list task → (status ≡ exit.Done) ↔ ((setup : Setup) × ArePeripherals device peripherals setup)

-- ---- laws

-- what holds of an answer whose text was written, if the files object reports what it holds
pub record WrittenAnswersHold : Type 0 where
  pub headline : (command : Option Command) (holds : List ℕ → Held) (status : Status) (before after : Option (List ℕ)) → IsReplyWritten command holds status before after
      → HeldHeadline command holds status before after
  pub exact : (command : Option Command) (holds : List ℕ → Held) (status : Status) (before after : Option (List ℕ)) → IsReplyWritten command holds status before after → IsHeldExact command holds status
  pub least : (command : Option Command) (holds : List ℕ → Held) (status : Status) (before after : Option (List ℕ)) → IsReplyWritten command holds status before after
      → HeldLeast command holds status before after
  pub ends : (command : Option Command) (holds : List ℕ → Held) (status : Status) (before after : Option (List ℕ)) → IsReplyWritten command holds status before after → IsHeldEnd command holds status
  pub simulated : (command : Option Command) (holds : List ℕ → Held) (status : Status) (before after : Option (List ℕ)) → IsReplyWritten command holds status before after
      → HeldSimulated command holds status before after
  pub peripherals : (command : Option Command) (holds : List ℕ → Held) (status : Status) (before after : Option (List ℕ)) → IsReplyWritten command holds status before after → AreHeldPeripherals command holds status
