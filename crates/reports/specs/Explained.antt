-- The text of an explanation as lines of words. Source: own.
use Rattle.std.specs.Prelude.{ℕ, List, [], ◌∷◌, ◌++◌, map, codes, decimal}
use Rattle.std.specs.List.{flat_map}
use Rattle.text_base.specs.Lines.{line}
use Rattle.avr_model.specs.declared.device.Device.{Device}
use Rattle.flash_image.specs.Naming.{Named, least_name}
use Rattle.assumption_files.specs.Spelling.{word_address_text}
use Rattle.cert_words.specs.KeySpelling.{inst_key_words}
use Rattle.chain_explain.specs.declared.explanation.Explanation.{Explanation}
use Rattle.chain_explain.specs.declared.explanation.Part.{Part}
use Rattle.chain_explain.specs.declared.explanation.PartPoint.{PartPoint}
use Rattle.chain_explain.specs.declared.explanation.PartPoint.TheVariants as point
use Rattle.reports.specs.Report.{name_word}

-- the bound of the certificate, and the sum of the links
abbrev pub explain_line : ℕ → Explanation → List (List ℕ)
explain_line bound x = codes "explain" ∷ codes "bound" ∷ decimal bound ∷ codes "least" ∷ decimal x.least ∷ []

-- the word of a link's point, or the word that calls enter by its recur edge
abbrev pub point_words : Device → PartPoint → List (List ℕ)
point_words device (point.Node pc walk) = codes "at" ∷ word_address_text device pc ∷ []
point_words device (point.Recur word) = codes "recur" ∷ word_address_text device word ∷ []

-- a link: its instance, the name of the entry, the word of its point, and its bytes
abbrev pub link_line : Device → List Named → Part → List (List ℕ)
link_line device names part =
    codes "link" ∷ inst_key_words device part.inst ++ name_word (least_name names part.inst.entry) ∷ point_words device part.point ++ codes "adds" ∷ decimal part.adds ∷ []

-- the line of the words of the path to a point; a recur edge has none
abbrev pub path_line : Device → List ℕ → List (List ℕ)
path_line device walk = codes "path" ∷ map (word_address_text device) walk

abbrev pub path_text : Device → PartPoint → List ℕ
path_text device (point.Node pc walk) = line (path_line device walk)
path_text device (point.Recur word) = []

abbrev pub part_text : Device → List Named → Part → List ℕ
part_text device names part = line (link_line device names part) ++ path_text device part.point

-- the text of an explanation of a certificate with this bound, for a device
abbrev pub explanation_text : Device → ℕ → List Named → Explanation → List ℕ
explanation_text device bound names x = line (explain_line bound x) ++ flat_map (part_text device names) x.parts
