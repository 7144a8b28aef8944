-- Laws of reports. Source: own.
use Rattle.std.specs.Prelude.{ℕ, ◌≡◌, List, Option, Some}
use Rattle.std.specs.Str.{IsAscii}
use Rattle.serde_json.specs.Data.{string}
use Rattle.avr_model.specs.declared.device.Device.{Device}
use Rattle.flash_image.specs.Naming.{Named, SayTheSame}
use Rattle.certificate.specs.Claims.{Claim}
use Rattle.chain_explain.specs.declared.explanation.Explanation.{Explanation}
use Rattle.reports.specs.Report.{plain_text}
use Rattle.reports.specs.Json.{name_data, json_text}
use Rattle.reports.specs.Explained.{explanation_text}

-- A report depends on the name of each word, not on the order of the list.
abbrev pub NamesThatSayTheSame : Type 0
NamesThatSayTheSame =
    (device : Device) (c : Claim) (names others : List Named) (static_end : Option ℕ) → SayTheSame names others
    → (plain_text device c names static_end ≡ plain_text device c others static_end) × (json_text device c names static_end ≡ json_text device c others static_end)

-- So does the text of an explanation.
abbrev pub ExplanationsSayTheSame : Type 0
ExplanationsSayTheSame = (device : Device) (bound : ℕ) (names others : List Named) (x : Explanation) → SayTheSame names others → explanation_text device bound names x ≡ explanation_text device bound others x

-- A name of ASCII characters, as all names of an ELF file are, is unchanged in JSON.
abbrev pub AsciiNamesStay : Type 0
AsciiNamesStay = (name : List ℕ) → IsAscii name → name_data (Some name) ≡ string name
