-- A report of a certificate as lines of words. Source: own.
use Rattle.std.specs.Prelude.{ℕ, ◌+◌, ◌-◌, nat_le, Bool, List, [], ◌∷◌, ◌++◌, map, codes, decimal, Option, Some, None, if◌then◌else◌}
use Rattle.std.specs.List.{flat_map}
use Rattle.avr_model.specs.declared.device.Device.{Device}
use Rattle.avr_model.specs.Devices.{ramend}
use Rattle.text_base.specs.Digits.{hex_digits}
use Rattle.text_base.specs.Lines.{line}
use Rattle.flash_image.specs.Naming.{Named, least_name}
use Rattle.witness_replay.specs.Spelling.{Plan}
use Rattle.certificate.specs.declared.instance.Inst.{Inst}
use Rattle.certificate.specs.Claims.{Claim}
use Rattle.cert_words.specs.KeySpelling.{inst_key_words}
use Rattle.cert_words.specs.Text.{numbered, open_line, attained_line}

-- ---- the room of the stack

-- the data address behind a device's SRAM
abbrev pub sram_end : Device → ℕ
sram_end device = ramend device + 1

-- the bytes of SRAM behind the static data that ends at this data address
abbrev pub room : Device → ℕ → ℕ
room device static_end = sram_end device - static_end

-- a stack of this many bytes does not reach the static data
abbrev pub fits : Device → ℕ → ℕ → Bool
fits device bound static_end = nat_le (static_end + bound) (sram_end device)

abbrev pub fits_word : Device → ℕ → ℕ → List ℕ
fits_word device bound static_end = if fits device bound static_end then codes "yes" else codes "no"

-- ---- lines

abbrev pub witness_line : Option Plan → List (List ℕ)
witness_line None = open_line
witness_line (Some plan) = attained_line

abbrev pub static_line : Device → ℕ → Option ℕ → List (List ℕ)
static_line device bound None = codes "static" ∷ codes "none" ∷ []
static_line device bound (Some end) =
    codes "static" ∷ hex_digits end 4 ∷ codes "room" ∷ decimal (room device end) ∷ codes "fits" ∷ fits_word device bound end ∷ []

-- a name, or a hyphen if there is none
abbrev pub name_word : Option (List ℕ) → List ℕ
name_word None = codes "-"
name_word (Some name) = name

-- an instance, the name of its entry, and its need
abbrev pub inst_line : Device → List Named → Inst → List (List ℕ)
inst_line device names x =
    codes "inst" ∷ inst_key_words device x.key ++ name_word (least_name names x.key.entry) ∷ codes "need" ∷ decimal x.need ∷ []

-- ---- the whole

-- the lines before those of instances
abbrev pub heading : Device → Claim → Option ℕ → List (List (List ℕ))
heading device c static_end = numbered (codes "bound") c.bound ∷ witness_line c.witness ∷ static_line device c.bound static_end ∷ []

-- The lines of a report of a certificate for a device, each by its words, with names for words of flash, and static data that ends at
-- this data address.
abbrev pub text_lines : Device → Claim → List Named → Option ℕ → List (List (List ℕ))
text_lines device c names static_end = heading device c static_end ++ map (inst_line device names) c.instances

abbrev pub plain_text : Device → Claim → List Named → Option ℕ → List ℕ
plain_text device c names static_end = flat_map line (text_lines device c names static_end)
