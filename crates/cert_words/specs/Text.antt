-- The one text of a certificate. For four devices it does not say the device, which its reader has to know. Source: own.
use Rattle.std.specs.Prelude.{ℕ, Bool, true, false, ◌+◌, List, [], ◌∷◌, ◌++◌, map, length, codes, Option, Some, None, if◌then◌else◌}
use Rattle.std.specs.List.{flat_map}
use Rattle.std.specs.Fmt.{decimal}
use Rattle.avr_model.specs.declared.assumption.Entry.{Entry}
use Rattle.avr_model.specs.declared.device.Device.{Device}
use Rattle.avr_model.specs.Devices.{has_elpm}
use Rattle.avr_model.specs.Names.{class_of}
use Rattle.text_base.specs.Lines.{line}
use Rattle.node_keys.specs.declared.keys.InstKey.{InstKey}
use Rattle.node_keys.specs.declared.keys.NodeKey.{NodeKey}
use Rattle.node_keys.specs.Order.{same_inst}
use Rattle.edge_rules.specs.declared.seeded.NodeForm.{NodeForm}
use Rattle.edge_rules.specs.Expansion.{Seeds}
use Rattle.assumption_files.specs.Spelling.{entry_words}
use Rattle.witness_replay.specs.Spelling.{Plan, schedule_lines}
use Rattle.certificate.specs.declared.instance.Inst.{Inst}
use Rattle.certificate.specs.Claims.{Claim}
use Rattle.certificate.specs.Versions.{says_device}
use Rattle.certificate.specs.declared.version.Version.{Version}
use Rattle.certificate.specs.declared.version.Version.TheVariants.{One, Two, Three}
use Rattle.cert_words.specs.KeySpelling.{inst_key_words, point_words, form_words}

-- ---- lines

-- a name and a number
abbrev pub numbered : List ℕ → ℕ → List (List ℕ)
numbered name n = name ∷ decimal n ∷ []

-- the words of an instance's line
abbrev pub inst_words : Device → Inst → List (List ℕ)
inst_words device x = codes "inst" ∷ inst_key_words device x.key ++ codes "rank" ∷ decimal x.rank ∷ codes "need" ∷ decimal x.need ∷ []

-- the number of an instance's line, from 0
abbrev pub inst_number : InstKey → List Inst → ℕ
inst_number key [] = 0
inst_number key (x ∷ xs) = if same_inst x.key key then 0 else inst_number key xs + 1

-- the words of the line of a node whose instance has this number
abbrev pub node_words_at : Device → Version → ℕ → NodeKey × NodeForm → List (List ℕ)
node_words_at device version number n = codes "node" ∷ decimal number ∷ point_words device version n.0 ++ form_words device version n.1

abbrev pub node_words : Device → Version → List Inst → NodeKey × NodeForm → List (List ℕ)
node_words device version insts n = node_words_at device version (inst_number n.0.inst insts) n

-- ---- parts

-- The number in the first line: of a text that says its device 5 if the device has RAMPZ, else 4; of others that of the version.
abbrev pub version_word : Bool → Bool → Version → List ℕ
version_word true true version = codes "5"
version_word true false version = codes "4"
version_word false banked One = codes "1"
version_word false banked Two = codes "2"
version_word false banked Three = codes "3"

abbrev pub version_line : Device → Version → List (List ℕ)
version_line device version = codes "stackcert" ∷ version_word (says_device device) (has_elpm device) version ∷ []

abbrev pub device_line : List ℕ → List (List ℕ)
device_line name = codes "device" ∷ name ∷ []

-- the line that says the device, if there is one
abbrev pub device_lines : Bool → Device → List (List (List ℕ))
device_lines true device = device_line (class_of device) ∷ []
device_lines false device = []

abbrev pub heading : Device → Version → ℕ → List (List (List ℕ))
heading device version bound = version_line device version ∷ (device_lines (says_device device) device ++ numbered (codes "bound") bound ∷ [])

abbrev pub entry_lines : Device → List Entry → List (List (List ℕ))
entry_lines device entries = numbered (codes "assume") (length entries) ∷ map (entry_words device) entries

abbrev pub inst_lines : Device → List Inst → List (List (List ℕ))
inst_lines device insts = numbered (codes "instances") (length insts) ∷ map (inst_words device) insts

abbrev pub node_lines : Device → Version → List Inst → Seeds → List (List (List ℕ))
node_lines device version insts nodes = numbered (codes "nodes") (length nodes) ∷ map (node_words device version insts) nodes

abbrev pub open_line : List (List ℕ)
open_line = codes "witness" ∷ codes "open" ∷ []

abbrev pub attained_line : List (List ℕ)
attained_line = codes "witness" ∷ codes "attained" ∷ []

-- the lines of a schedule, or of its absence
abbrev pub witness_lines : Option Plan → List (List (List ℕ))
witness_lines None = open_line ∷ []
witness_lines (Some plan) = attained_line ∷ schedule_lines plan

abbrev pub end_line : List (List ℕ)
end_line = codes "end" ∷ []

-- ---- the whole

-- the lines before the schedule
abbrev pub front_lines : Claim → List (List (List ℕ))
front_lines c =
    heading c.device c.version c.bound ++ (entry_lines c.device c.assumptions ++ (inst_lines c.device c.instances ++ node_lines c.device c.version c.instances c.nodes))

-- the lines of a certificate, each by its words
abbrev pub certificate_lines : Claim → List (List (List ℕ))
certificate_lines c = front_lines c ++ (witness_lines c.witness ++ end_line ∷ [])

abbrev pub text_of : Claim → List ℕ
text_of c = flat_map line (certificate_lines c)
