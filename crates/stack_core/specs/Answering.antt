-- Intermediate values for a firmware and an assumption file, and their answers.
use Rattle.std.specs.Prelude.{ℕ, ◌≡◌, List, [], Bool, length, Option, Some, None, Result, Ok}
use Rattle.avr_model.specs.declared.assumption.Entry.{Entry}
use Rattle.avr_model.specs.declared.device.Device.{Device}
use Rattle.avr_model.specs.Image.{IsNarrowed}
use Rattle.avr_model.specs.Devices.{device_of, limit_of}
use Rattle.flash_image.specs.Naming.{SayTheSame}
use Rattle.elf_load.specs.Elf.{is_elf}
use Rattle.elf_load.specs.declared.Loaded.{Loaded as Firmware}
use Rattle.assumption_files.specs.Reading.{entries_in}
use Rattle.witness_replay.specs.Spelling.{Plan}
use Rattle.certificate.specs.Claims.{Claim}
use Rattle.certificate.specs.Valid.{IsAttained, IsValid}
use Rattle.cert_check.specs.Verdict.{IsFamilyOf}
use Rattle.cert_words.specs.Text.{text_of}
use Rattle.cert_format.specs.declared.fault.CertFault.{CertFault}
use Rattle.commands.specs.Commands.{Work, Report, Explain, Premises}
use Rattle.replies.specs.declared.status.Status.TheVariants as exit
use Rattle.replies.specs.Firmware.{words_by, fault_by, names_by, end_by, outside_fault, firmware_image, firmware_fault, firmware_names, firmware_end}
use Rattle.replies.specs.Analysis.{TrialsFind}
use Rattle.replies.specs.Reply.{Reply, WithImage, WithList, ExplainReply, PlacesReply, CertificateReply, FlashReply, TextReply, ReportReply}
use Rattle.stack_core.specs.declared.loading.Loading.{Loading}
use Rattle.stack_core.specs.declared.loading.Loading.TheVariants.{Loaded, Refused}
use Rattle.stack_core.specs.declared.loading.Prepared.{Prepared}
use Rattle.stack_core.specs.declared.loading.Prepared.TheVariants.{Ready}
use Rattle.stack_core.specs.declared.loading.Prepared.TheVariants as prepared
use Rattle.stack_core.specs.declared.judging.Judged.{Judged}
use Rattle.stack_core.specs.declared.judging.Judged.TheVariants.{Accepted}
use Rattle.stack_core.specs.declared.judging.Judged.TheVariants as judged
use Rattle.local_rules.specs.Site.{Task, task_with}

-- a firmware for a device, before it is narrowed, has the words, names and static data of the file's bytes
pub record GivesAs (device : Device) (elf : Bool) (bytes : List ℕ) (loaded : Firmware) : Type 0 where
  pub loads : fault_by device elf bytes ≡ None
  pub size : length loaded.flash.words ≡ limit_of device
  pub words : loaded.flash.words ≡ words_by device elf bytes
  pub names : SayTheSame loaded.names (names_by device elf bytes)
  pub static_end : loaded.static_end ≡ end_by device elf bytes

-- a firmware that was loaded, or its refusal
abbrev pub LoadsBy : Device → Bool → List ℕ → Loading → Type 0
LoadsBy device elf bytes (Loaded loaded) = GivesAs device elf bytes loaded
LoadsBy device elf bytes (Refused r) = (r.status ≡ exit.BadFirmware) × (fault_by device elf bytes ≡ Some r.text.items)

abbrev pub LoadsAs : Device → List ℕ → Loading → Type 0
LoadsAs device bytes image = LoadsBy device (is_elf bytes) bytes image

-- both have the same image, names and static data
abbrev pub IsSameFirmware : Firmware → Firmware → Type 0
IsSameFirmware before after = (after.flash ≡ before.flash) × ((after.names ≡ before.names) × (after.static_end ≡ before.static_end))

-- the same firmware on a device, or its refusal if it has a word behind the device's flash
abbrev pub NarrowedTo : Device → Firmware → Loading → Type 0
NarrowedTo device before (Loaded after) =
    IsNarrowed device before.flash.words after.flash × ((after.names ≡ before.names) × (after.static_end ≡ before.static_end))
NarrowedTo device before (Refused r) = (r.status ≡ exit.BadFirmware) × (outside_fault device before.flash.words ≡ Some r.text.items)

-- a firmware on a device has the words, names and static data of the file's bytes there
pub record GivesOn (device : Device) (bytes : List ℕ) (loaded : Firmware) : Type 0 where
  pub loads : firmware_fault device bytes ≡ None
  pub words : loaded.flash ≡ firmware_image device bytes
  pub names : SayTheSame loaded.names (firmware_names device bytes)
  pub static_end : loaded.static_end ≡ firmware_end device bytes

-- a firmware that was loaded for a device, or its refusal
abbrev pub LoadsOn : Device → List ℕ → Loading → Type 0
LoadsOn device bytes (Loaded loaded) = GivesOn device bytes loaded
LoadsOn device bytes (Refused r) = (r.status ≡ exit.BadFirmware) × (firmware_fault device bytes ≡ Some r.text.items)

-- no answer
abbrev pub nothing : {A : Type 0} → A → Reply
nothing x status text = ⊥

-- the assumptions of an optional file, or none without it
abbrev pub AreGivenAssumptions : Device → Option (List ℕ) → List Entry → Type 0
AreGivenAssumptions device None A = A ≡ []
AreGivenAssumptions device (Some bytes) A = entries_in device bytes ≡ Ok A

-- the same firmware under the assumptions of an optional file, or the answer to a list that is refused
abbrev pub ListsAs : Firmware → Option (List ℕ) → Prepared → Type 0
ListsAs before list (Ready loaded A) =
    IsSameFirmware before loaded × AreGivenAssumptions (device_of before.flash) list A
ListsAs before list (prepared.Refused r) = WithList (device_of before.flash) list nothing r.status r.text.items

-- the firmware of a file for a device under the assumptions of an optional file, or the answer to the file that is refused
abbrev pub PreparesAs : Device → List ℕ → Option (List ℕ) → Prepared → Type 0
PreparesAs device bytes list (Ready loaded A) = GivesOn device bytes loaded × AreGivenAssumptions device list A
PreparesAs device bytes list (prepared.Refused r) = WithImage device bytes (λ image. WithList device list nothing) r.status r.text.items

-- a valid certificate with its family, or the answer to one that isn't valid or isn't read
abbrev pub IsJudgedAs : Task → Result Claim CertFault → Judged → Type 0
IsJudgedAs task x (Accepted c family) = ((x ≡ Ok c) × IsValid task c) × IsFamilyOf task c family
IsJudgedAs task x (judged.Refused r) = CertificateReply task nothing x r.status r.text.items

-- the certificate is the least one with the schedule that the trials find, which attains its bound
pub record IsWitnessed (task : Task) (least c : Claim) : Type 0 where
  pub found : Option Plan
  pub trials : TrialsFind task least found
  pub attained : IsAttained task least.bound found
  pub is : c ≡ record least { witness = found }

-- the text is that of the certificate with this schedule
pub record IsWitnessedText (task : Task) (least : Claim) (text : List ℕ) : Type 0 where
  pub claim : Claim
  pub witnessed : IsWitnessed task least claim
  pub is : text ≡ text_of claim

-- the answer for a loaded firmware, with its names and static data
abbrev pub LoadedReply : Device → Work → Firmware → List ℕ → List Entry → Reply
LoadedReply device (Report certificate json) loaded bytes A =
    TextReply (task_with loaded.flash A) (ReportReply json device loaded) bytes
LoadedReply device (Explain certificate) loaded bytes A = TextReply (task_with loaded.flash A) (ExplainReply loaded.names (task_with loaded.flash A)) bytes
LoadedReply device (Premises certificate why) loaded bytes A = TextReply (task_with loaded.flash A) (PlacesReply why loaded.names (task_with loaded.flash A)) bytes
LoadedReply device work loaded bytes A = FlashReply device work [] bytes (task_with loaded.flash A)
