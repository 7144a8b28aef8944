-- A report of a certificate as one JSON object. Source: own; JSON is RFC 8259.
use Rattle.std.specs.Prelude.{ℕ, nat_le, List, [], ◌∷◌, ◌++◌, map, codes, decimal, Option, Some, None, if◌then◌else◌}
use Rattle.std.specs.List.{flat_map}
use Rattle.std.specs.Str.Lossy.{utf8_lossy}
use Rattle.serde_json.specs.Data.{Data, null, number, unsigned, string, array, object, member, no_members}
use Rattle.serde_json.specs.View.{items_of}
use Rattle.serde_json.specs.Written.{compact_text}
use Rattle.avr_model.specs.declared.device.Device.{Device}
use Rattle.flash_image.specs.Naming.{Named, least_name}
use Rattle.witness_replay.specs.Spelling.{Plan}
use Rattle.certificate.specs.declared.instance.Inst.{Inst}
use Rattle.certificate.specs.Claims.{Claim}
use Rattle.cert_words.specs.KeySpelling.{kind_word}
use Rattle.reports.specs.Report.{room, fits_word}

abbrev pub count : ℕ → Data
count n = number (unsigned n)

-- ---- members

-- the greatest number that each reader of JSON keeps
abbrev pub most_exact : ℕ
most_exact = 9007199254740991

-- enable bits; a number that some readers would round is a text
abbrev pub enables_data : ℕ → Data
enables_data enables = if nat_le enables most_exact then count enables else string (decimal enables)

-- true or false, and null without static data
abbrev pub fits_data : Device → ℕ → Option ℕ → Data
fits_data device bound None = null
fits_data device bound (Some end) = string (fits_word device bound end)

abbrev pub room_data : Device → Option ℕ → Data
room_data device None = null
room_data device (Some end) = count (room device end)

abbrev pub static_data : Option ℕ → Data
static_data None = null
static_data (Some end) = count end

abbrev pub witness_data : Option Plan → Data
witness_data None = string (codes "open")
witness_data (Some plan) = string (codes "attained")

-- A name, or null if there is none. Bytes that are no UTF-8, which names of an ELF file never have, are replaced.
abbrev pub name_data : Option (List ℕ) → Data
name_data None = null
name_data (Some name) = string (utf8_lossy name)

-- ---- the whole

-- an instance, the name of its entry, and its need; keys ascend
abbrev pub inst_data : List Named → Inst → Data
inst_data names x = object
    (member (codes "enables") (enables_data x.key.masks)
    (member (codes "entry") (count x.key.entry)
    (member (codes "i") (count (if x.key.i then 1 else 0))
    (member (codes "kind") (string (kind_word x.key.kind))
    (member (codes "name") (name_data (least_name names x.key.entry))
    (member (codes "need") (count x.need) no_members))))))

abbrev pub insts_data : List Named → List Inst → Data
insts_data names insts = array (items_of (map (inst_data names) insts))

-- the texts of instances after another, each after a comma
abbrev pub others_text : List Named → List Inst → List ℕ
others_text names insts = flat_map (λ x. 44 ∷ compact_text (inst_data names x)) insts

-- the texts of instances, separated by commas
abbrev pub insts_text : List Named → List Inst → List ℕ
insts_text names [] = []
insts_text names (x ∷ xs) = compact_text (inst_data names x) ++ others_text names xs

-- A report of a certificate for a device, with names for words of flash, and static data that ends at this data address. Keys ascend.
abbrev pub report_data : Device → Claim → List Named → Option ℕ → Data
report_data device c names static_end = object
    (member (codes "bound") (count c.bound)
    (member (codes "fits") (fits_data device c.bound static_end)
    (member (codes "instances") (insts_data names c.instances)
    (member (codes "room") (room_data device static_end)
    (member (codes "static") (static_data static_end)
    (member (codes "witness") (witness_data c.witness) no_members))))))

-- the line of the object, without spaces
abbrev pub json_text : Device → Claim → List Named → Option ℕ → List ℕ
json_text device c names static_end = compact_text (report_data device c names static_end) ++ 10 ∷ []
