-- Printed texts, each one line of words. `line_writing` of text_base writes a line of words as their text with one space between each two
-- and a line feed at the end.
use Rattle.std.specs.Option.{option_map}
use Rattle.std.specs.Prelude.{ℕ, List, [], ◌∷◌, length, codes, decimal, Bool, true, false, ◌≡◌, Option, Some, None, ◌++◌}
use Rattle.text_base.specs.Digits.{hex_digits}
use Rattle.text_base.specs.Writing.{Written, with_words, with_end}
use Rattle.avr_model.specs.declared.instruction.Instr.{Instr}
use Rattle.avr_model.specs.Image.{word_at}
use Rattle.avr_model.specs.Sites.{instruction_at}
use Rattle.avr_model.specs.Text as instruction
use Rattle.avr_model.specs.declared.choice.Flag.TheVariants.{Live, Protected, Transfer, Moved}
use Rattle.avr_model.specs.declared.choice.Stop.{Stop}
use Rattle.avr_model.specs.declared.choice.Stop.TheVariants as stop
use Rattle.avr_model.specs.declared.device.Device.{Device}
use Rattle.avr_model.specs.Devices.{Image, device_of}
use Rattle.avr_model.specs.Names.{class_of}
use Rattle.assumption_files.specs.Spelling.{word_address_text}
use Rattle.assumption_files.specs.declared.fault.AssumeText.{AssumeText}
use Rattle.assumption_files.specs.declared.fault.AssumeText.TheVariants as assume
use Rattle.local_rules.specs.declared.local.NodeFault.{NodeFault}
use Rattle.local_rules.specs.declared.local.NodeFault.TheVariants as fault
use Rattle.local_rules.specs.Faults.{cause_of}
use Rattle.certificate.specs.Claims.{Claim}
use Rattle.round_rules.specs.declared.refusal.Refusal.{Refusal}
use Rattle.round_rules.specs.declared.refusal.Refusal.TheVariants as refusal
use Rattle.cert_words.specs.KeySpelling.{node_key_words}
use Rattle.certificate.specs.declared.limit.Limit.{Limit}
use Rattle.certificate.specs.declared.limit.Limit.TheVariants as limit
use Rattle.cert_format.specs.declared.fault.CertFault.{CertFault}
use Rattle.cert_format.specs.declared.fault.CertFault.TheVariants as cert
use Rattle.peripherals.specs.declared.peripherals.PeripheralsFault.{PeripheralsFault}
use Rattle.peripherals.specs.declared.peripherals.PeripheralsFault.TheVariants as peripherals
use Rattle.cert_check.specs.declared.verdict.Reason.{Reason}
use Rattle.cert_check.specs.declared.verdict.Reason.TheVariants.{Device as OtherDevice, Root, Node, Edge, Rank, Need, Bound, Assumptions, Expansion}
use Rattle.elf_load.specs.Elf.{ElfRefusal, Short, NotElf32Little, NotExecutable, NotAvr, EntrySize, SegmentOutside, Overlap}
use Rattle.witness_replay.specs.Replay.{Report}
use Rattle.replies.specs.declared.status.Status.{Status}
use Rattle.replies.specs.declared.status.Status.TheVariants as exit
use Rattle.replies.specs.declared.raw.RawRefusal.{RawRefusal}
use Rattle.replies.specs.declared.raw.RawRefusal.TheVariants as raw

-- the line of these words
abbrev pub told : List (List ℕ) → List ℕ
told words = (with_end (with_words (record { bytes = []; begun = false }) words)).bytes

abbrev pub usage : List ℕ
usage = told (codes "usage" ∷ [])

abbrev pub read_fault : List ℕ → List ℕ
read_fault name = told (codes "read" ∷ codes "fault" ∷ name ∷ [])

abbrev pub too_long : List ℕ → List ℕ
too_long name = told (codes "too" ∷ codes "long" ∷ name ∷ [])

-- the number of a raw file's refusal
abbrev pub raw_number : RawRefusal → ℕ
raw_number raw.OddLength = 1
raw_number raw.TooLong = 2

abbrev pub raw_fault : RawRefusal → List ℕ
raw_fault refusal = told (codes "firmware" ∷ codes "raw" ∷ decimal (raw_number refusal) ∷ [])

-- the number of the test that fails, and what it names
abbrev pub refusal_words : ElfRefusal → List (List ℕ)
refusal_words (Short at) = codes "1" ∷ codes "at" ∷ decimal at ∷ []
refusal_words NotElf32Little = codes "2" ∷ []
refusal_words NotExecutable = codes "3" ∷ []
refusal_words (NotAvr machine) = codes "4" ∷ codes "machine" ∷ decimal machine ∷ []
refusal_words EntrySize = codes "5" ∷ []
refusal_words (SegmentOutside i) = codes "6" ∷ codes "segment" ∷ decimal i ∷ []
refusal_words (Overlap j i) = codes "7" ∷ codes "segments" ∷ decimal j ∷ decimal i ∷ []

-- the words of a refusal were written; nothing is claimed without a refusal
abbrev pub IsRefusalWritten : Written → Written → Option ElfRefusal → Type 0
IsRefusalWritten before after None = ⊥
IsRefusalWritten before after (Some refusal) = after ≡ with_words before (refusal_words refusal)

-- these words were written; nothing is claimed without words
abbrev pub AreWritten : Written → Written → Option (List (List ℕ)) → Type 0
AreWritten before after None = ⊥
AreWritten before after (Some words) = after ≡ with_words before words

abbrev pub elf_refused : ElfRefusal → List ℕ
elf_refused refusal = told (codes "firmware" ∷ codes "elf" ∷ refusal_words refusal)

-- the first word behind the device's flash that the firmware fills
abbrev pub firmware_outside : Device → ℕ → List ℕ
firmware_outside device word = told (codes "firmware" ∷ codes "outside" ∷ codes "at" ∷ word_address_text device word ∷ [])

-- the line of an assumption file that is refused, from 1; running out of memory has no text
abbrev pub assumption_words : AssumeText → Option (List (List ℕ))
assumption_words (assume.Malformed line) = Some (codes "malformed" ∷ codes "line" ∷ decimal line ∷ [])
assumption_words (assume.Order line) = Some (codes "order" ∷ codes "line" ∷ decimal line ∷ [])
assumption_words assume.Memory = None

abbrev pub assumptions_refused : AssumeText → Option (List ℕ)
assumptions_refused fault = option_map (λ words. told (codes "assumptions" ∷ words)) (assumption_words fault)

abbrev pub limit_word : Limit → List ℕ
limit_word limit.Nodes = codes "nodes"
limit_word limit.Cells = codes "cells"

-- the offset of the line of a certificate that is refused, the limit that is passed, or the device that it is for; running out of memory
-- has no text
abbrev pub certificate_words : CertFault → Option (List (List ℕ))
certificate_words (cert.Malformed at) = Some (codes "malformed" ∷ codes "at" ∷ decimal at ∷ [])
certificate_words (cert.Order at) = Some (codes "order" ∷ codes "at" ∷ decimal at ∷ [])
certificate_words (cert.Limit l) = Some (codes "limit" ∷ limit_word l ∷ [])
certificate_words (cert.Other device) = Some (codes "device" ∷ class_of device ∷ [])
certificate_words cert.Memory = None

abbrev pub certificate_refused : CertFault → Option (List ℕ)
certificate_refused fault = option_map (λ words. told (codes "certificate" ∷ words)) (certificate_words fault)

abbrev pub schedule_malformed : ℕ → List ℕ
schedule_malformed at = told (codes "schedule" ∷ codes "malformed" ∷ codes "at" ∷ decimal at ∷ [])

abbrev pub schedule_illegal : ℕ → List ℕ
schedule_illegal step = told (codes "schedule" ∷ codes "illegal" ∷ codes "step" ∷ decimal step ∷ [])

-- the offset of the line of the peripherals' text that is refused; running out of memory has no text
abbrev pub peripherals_refused : PeripheralsFault → Option (List ℕ)
peripherals_refused (peripherals.Malformed at) = Some (told (codes "devices" ∷ codes "malformed" ∷ codes "at" ∷ decimal at ∷ []))
peripherals_refused peripherals.Memory = None

-- attained, if the certificate has a schedule
abbrev pub witness_word : Bool → List ℕ
witness_word true = codes "attained"
witness_word false = codes "open"

abbrev pub accepted : ℕ → Bool → List ℕ
accepted bound attained = told (codes "accepted" ∷ codes "bound" ∷ decimal bound ∷ witness_word attained ∷ [])

-- the number of an instance, a word and a number
abbrev pub inst_told : ℕ → List ℕ → ℕ → List (List ℕ)
inst_told at word number = codes "inst" ∷ decimal at ∷ word ∷ decimal number ∷ []

-- the words after `rejected`, the first one the reason's number
abbrev pub reason_words : Device → Reason → List (List ℕ)
reason_words device Root = codes "1" ∷ codes "root" ∷ []
reason_words device (Node at cause) = codes "2" ∷ codes "node" ∷ decimal at ∷ codes "cause" ∷ decimal cause ∷ []
reason_words device (Edge at key) = codes "3" ∷ codes "node" ∷ decimal at ∷ codes "to" ∷ node_key_words device key
reason_words device (Rank at entered) = codes "4" ∷ inst_told at (codes "inst") entered
reason_words device (Need at least) = codes "5" ∷ inst_told at (codes "least") least
reason_words device (Bound least) = codes "6" ∷ codes "least" ∷ decimal least ∷ []
reason_words device Assumptions = codes "7" ∷ codes "assumptions" ∷ []
reason_words device (Expansion at) = codes "9" ∷ codes "node" ∷ decimal at ∷ []
reason_words device OtherDevice = codes "10" ∷ codes "device" ∷ []

abbrev pub rejected : Device → Reason → List ℕ
rejected device reason = told (codes "rejected" ∷ reason_words device reason)

abbrev pub witness_rejected : List ℕ
witness_rejected = told (codes "rejected" ∷ codes "8" ∷ codes "witness" ∷ [])

-- the place of a write and the address that it wrote
abbrev pub write_words : Device → List ℕ → ℕ → ℕ → List (List ℕ)
write_words device name pc address = name ∷ word_address_text device pc ∷ hex_digits address 4 ∷ []

-- how a run on a device ended
abbrev pub stop_words : Device → Stop → List (List ℕ)
stop_words device stop.End = codes "end" ∷ []
stop_words device (stop.Flag (Live pc a)) = write_words device (codes "live") pc a
stop_words device (stop.Flag (Protected pc a)) = write_words device (codes "protected") pc a
stop_words device (stop.Flag (Transfer pc target)) = codes "transfer" ∷ word_address_text device pc ∷ word_address_text device target ∷ []
stop_words device (stop.Flag (Moved pc)) = codes "moved" ∷ word_address_text device pc ∷ []
stop_words device (stop.Undefined pc) = codes "undefined" ∷ word_address_text device pc ∷ []
stop_words device (stop.Overflow pc) = codes "overflow" ∷ word_address_text device pc ∷ []

abbrev pub run_text : Device → Report → List ℕ
run_text device r =
    told (codes "steps" ∷ decimal r.steps ∷ codes "depth" ∷ decimal r.depth ∷ codes "stop" ∷ stop_words device r.stop)

-- ---- instead of a certificate

-- the text of the instruction, or the word in digits if it is no instruction of the device
abbrev pub instruction_words : Device → Option Instr → ℕ → ℕ → List (List ℕ)
instruction_words device (Some instr) word at = instruction.text_of device instr at ∷ []
instruction_words device None word at = codes "opcode" ∷ hex_digits word 4 ∷ []

-- the instruction at a word address, or the word in digits
abbrev pub instruction_told : Image → ℕ → List (List ℕ)
instruction_told words at = instruction_words (device_of words) (instruction_at words at) (word_at words at) at

-- the number and name of a cause, and its word
abbrev pub refused_words : Device → ℕ → List ℕ → ℕ → List (List ℕ)
refused_words device number name at = codes "refused" ∷ decimal number ∷ name ∷ codes "at" ∷ word_address_text device at ∷ []

abbrev pub cause_at : Device → ℕ → List ℕ → ℕ → List (List ℕ) → Option (List (List ℕ))
cause_at device number name at more = Some (refused_words device number name at ++ more)

-- a node's fault, told of a word with what stands there; running out of memory is none
abbrev pub fault_words : Image → NodeFault → Option (List (List ℕ))
fault_words words (fault.UnresolvedJump at) = cause_at (device_of words) (cause_of (fault.UnresolvedJump at)) (codes "unresolved-jump") at (instruction_told words at)
fault_words words (fault.UntrackedSp at) = cause_at (device_of words) (cause_of (fault.UntrackedSp at)) (codes "untracked-sp") at (instruction_told words at)
fault_words words (fault.Unsupported at) = cause_at (device_of words) (cause_of (fault.Unsupported at)) (codes "unsupported") at (codes "opcode" ∷ hex_digits (word_at words at) 4 ∷ [])
fault_words words (fault.TooDeep at need) = cause_at (device_of words) (cause_of (fault.TooDeep at need)) (codes "too-deep") at (codes "need" ∷ decimal need ∷ [])
fault_words words (fault.UnknownPointer at) = cause_at (device_of words) (cause_of (fault.UnknownPointer at)) (codes "unknown-pointer") at (instruction_told words at)
fault_words words fault.Memory = None

-- The words instead of a certificate: the assumption that does not fit the device, the cause with what it names, or the number of rounds
-- that did not suffice. Running out of memory has none.
abbrev pub why_not_words : Image → Refusal → Option (List (List ℕ))
why_not_words words (refusal.Misfit at) = Some (codes "entry" ∷ decimal at ∷ [])
why_not_words words (refusal.Node x) = fault_words words x
why_not_words words (refusal.Recursion at) = cause_at (device_of words) 2 (codes "recursion") at []
why_not_words words (refusal.ReEntry v at) = Some (codes "refused" ∷ codes "3" ∷ codes "re-entry" ∷ codes "of" ∷ decimal v ∷ codes "at" ∷ word_address_text (device_of words) at ∷ [])
why_not_words words (refusal.TooLarge limit) = Some (codes "refused" ∷ codes "7" ∷ codes "too-large" ∷ limit_word limit ∷ [])
why_not_words words (refusal.Spent n) = Some (codes "spent" ∷ decimal n ∷ [])
why_not_words words refusal.Memory = None

abbrev pub why_not_text : Image → Refusal → Option (List ℕ)
why_not_text words r = option_map told (why_not_words words r)

abbrev pub why_not_status : Refusal → Status
why_not_status (refusal.Spent n) = exit.Spent
why_not_status r = exit.NoCertificate

-- ---- demo

-- the size of an image, and the numbers of its certificate
abbrev pub demo_text : ℕ → Claim → List ℕ
demo_text n c =
    told (codes "demo" ∷ decimal n ∷ codes "nodes" ∷ decimal (length c.nodes) ∷ codes "instances" ∷ decimal (length c.instances) ∷ codes "bound" ∷ decimal c.bound ∷ [])
