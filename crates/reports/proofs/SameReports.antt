-- The laws of reports.
use Rattle.std.proofs.Common.{◌≡◌, ℕ, List, [], ◌∷◌, ◌++◌, map, codes, decimal, Option, refl, ap, ap₂}
use Rattle.std.specs.List.{flat_map}
use Rattle.std.proofs.lemmas.Str.{IsUtf8-from_ascii, utf8_lossy-IsUtf8}
use Rattle.serde_json.specs.Data.{string}
use Rattle.text_base.specs.Lines.{line}
use Rattle.avr_model.specs.declared.device.Device.{Device}
use Rattle.flash_image.specs.Naming.{Named, SayTheSame}
use Rattle.certificate.specs.declared.instance.Inst.{Inst}
use Rattle.chain_explain.specs.declared.explanation.Part.{Part}
use Rattle.cert_words.specs.KeySpelling.{inst_key_words}
use Rattle.reports.specs.Report.{inst_line, name_word}
use Rattle.reports.specs.Json.{inst_data}
use Rattle.reports.specs.Explained.{explain_line, point_words, path_text, part_text}
use Rattle.reports.specs.Laws.{NamesThatSayTheSame, ExplanationsSayTheSame, AsciiNamesStay}

same_line : (device : Device) (names others : List Named) (x : Inst) → SayTheSame names others → inst_line device names x ≡ inst_line device others x
same_line device names others x same = rw (same x.key.entry) refl

same_data : (names others : List Named) (x : Inst) → SayTheSame names others → inst_data names x ≡ inst_data others x
same_data names others x same = rw (same x.key.entry) refl

same_lines : (device : Device) (names others : List Named) (xs : List Inst) → SayTheSame names others → map (inst_line device names) xs ≡ map (inst_line device others) xs
same_lines device names others [] same = refl
same_lines device names others (x ∷ xs) same = rw (same_line device names others x same, same_lines device names others xs same) refl

same_items : (names others : List Named) (xs : List Inst) → SayTheSame names others → map (inst_data names) xs ≡ map (inst_data others) xs
same_items names others [] same = refl
same_items names others (x ∷ xs) same = rw (same_data names others x same, same_items names others xs same) refl

pub same_reports : NamesThatSayTheSame
same_reports device c names others static_end same =
    (rw (same_lines device names others c.instances same) refl, rw (same_items names others c.instances same) refl)

same_part : (device : Device) (names others : List Named) (p : Part) → SayTheSame names others → part_text device names p ≡ part_text device others p
same_part device names others p same =
    ap (λ (o : Option (List ℕ)). line (codes "link" ∷ inst_key_words device p.inst ++ name_word o ∷ point_words device p.point ++ codes "adds" ∷ decimal p.adds ∷ []) ++ path_text device p.point) (same p.inst.entry)

same_parts : (device : Device) (names others : List Named) (ps : List Part) → SayTheSame names others → flat_map (part_text device names) ps ≡ flat_map (part_text device others) ps
same_parts device names others [] same = refl
same_parts device names others (p ∷ ps) same = ap₂ (λ (xs ys : List ℕ). xs ++ ys) (same_part device names others p same) (same_parts device names others ps same)

pub same_explanations : ExplanationsSayTheSame
same_explanations device bound names others x same = ap (λ (ys : List ℕ). line (explain_line bound x) ++ ys) (same_parts device names others x.parts same)

pub ascii_names_stay : AsciiNamesStay
ascii_names_stay name h = ap string (utf8_lossy-IsUtf8 name (IsUtf8-from_ascii name h))
