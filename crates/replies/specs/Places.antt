-- The texts of the words at which a step may be flagged. Source: own.
use Rattle.std.specs.Prelude.{ℕ, zero, suc, ◌+◌, Bool, true, false, nat_lt, List, [], ◌∷◌, ◌++◌, length, map, take, codes, decimal, Option, Some, None}
use Rattle.std.specs.List.{flat_map}
use Rattle.text_base.specs.Digits.{hex_digits}
use Rattle.text_base.specs.Lines.{line}
use Rattle.flash_image.specs.Naming.{Named, least_name}
use Rattle.reports.specs.Report.{name_word}
use Rattle.clear_laws.specs.declared.place.FlaggedPlace.{FlaggedPlace}
use Rattle.clear_laws.specs.declared.stores.PointerNumbers.{PointerNumbers}
use Rattle.clear_laws.specs.declared.stores.PointerPair.{PointerPair}
use Rattle.clear_laws.specs.declared.stores.PointerPair.TheVariants as pair
use Rattle.replies.specs.Texts.{told, instruction_told}
use Rattle.avr_model.specs.declared.device.Device.{Device}
use Rattle.avr_model.specs.Devices.{Image, device_of}
use Rattle.assumption_files.specs.Spelling.{word_address_text}

-- no node may flag a step
abbrev pub clear_text : ℕ → List ℕ
clear_text bound = told (codes "clear" ∷ codes "bound" ∷ decimal bound ∷ [])

-- a word, and the instruction there
abbrev pub place_words : Image → ℕ → List (List ℕ)
place_words image pc = codes "at" ∷ word_address_text (device_of image) pc ∷ instruction_told image pc

-- the number of the first node that may, and its place
abbrev pub unclear_text : Image → ℕ → ℕ → List ℕ
unclear_text image node pc = told (codes "unclear" ∷ codes "node" ∷ decimal node ∷ place_words image pc)

-- ---- all words at which one may be flagged

abbrev pub name_or : Option (List ℕ) → Option (List ℕ) → Option (List ℕ)
name_or None other = other
name_or (Some name) other = Some name

-- the name of this word, or else of the nearest named word before it
unfoldable pub name_up_to : List Named → ℕ → Option (List ℕ)
name_up_to names zero = least_name names zero
name_up_to names (suc pc) = name_or (least_name names (suc pc)) (name_up_to names pc)

-- a word, the instruction there, and the name of its function
abbrev pub place_line : Image → List Named → ℕ → List (List ℕ)
place_line image names pc = place_words image pc ++ codes "in" ∷ name_word (name_up_to names pc) ∷ []

abbrev pub place_text : Image → List Named → ℕ → List ℕ
place_text image names pc = line (place_line image names pc)

-- the word of a vector that may be taken although it is assumed never to be
abbrev pub never_line : Device → ℕ → List (List ℕ)
never_line device word = codes "never" ∷ word_address_text device word ∷ []

abbrev pub never_text : Device → ℕ → List ℕ
never_text device word = line (never_line device word)

-- the bound of the certificate, and the number of words of both kinds
abbrev pub count_line : ℕ → ℕ → List (List ℕ)
count_line bound count = codes "bound" ∷ decimal bound ∷ codes "places" ∷ decimal count ∷ []

abbrev pub premises_text : Image → List Named → ℕ → List ℕ → List ℕ → List ℕ
premises_text image names bound sites nevers =
    line (count_line bound (length sites + length nevers)) ++ (flat_map (place_text image names) sites ++ flat_map (never_text (device_of image)) nevers)

-- ---- what may happen there

abbrev pub word_where : Bool → List ℕ → List (List ℕ)
word_where true word = word ∷ []
word_where false word = []

abbrev pub address_text : ℕ → List ℕ
address_text address = hex_digits address 4

-- the first eight data addresses, and dots if there are more
abbrev pub first_addresses : List ℕ → List (List ℕ)
first_addresses addresses = map address_text (take 8 addresses) ++ word_where (nat_lt 8 (length addresses)) (codes "..")

abbrev pub protected_words : List ℕ → List (List ℕ)
protected_words [] = []
protected_words (address ∷ addresses) = codes "protected" ∷ first_addresses (address ∷ addresses)

-- the protected addresses that a store may write, whether it may write a pushed byte, whether a transfer may go to an unlisted word or a
-- call enters a word that has a `recur` line, and whether IVSEL may be set
abbrev pub cause_words : FlaggedPlace → List (List ℕ)
cause_words place =
    protected_words place.protected
    ++ (word_where place.live (codes "live") ++ (word_where place.transfer (codes "transfer") ++ word_where place.moves (codes "moves")))

abbrev pub pair_text : PointerPair → List ℕ
pair_text pair.X = codes "X"
pair_text pair.Y = codes "Y"
pair_text pair.Z = codes "Z"

-- the register pair of the pointer, and the least and the greatest number that it may have
abbrev pub pointer_words : Option PointerNumbers → List (List ℕ)
pointer_words None = []
pointer_words (Some p) = pair_text p.pair ∷ address_text p.numbers.first ∷ address_text p.numbers.last ∷ []

-- a word with its causes, and the numbers of its pointer
abbrev pub why_line : Image → List Named → FlaggedPlace → List (List ℕ)
why_line image names place = place_line image names place.word ++ (cause_words place ++ pointer_words place.pointer)

abbrev pub why_text : Image → List Named → ℕ → List FlaggedPlace → List ℕ → List ℕ
why_text image names bound places nevers =
    line (count_line bound (length places + length nevers)) ++ (flat_map line (map (why_line image names) places) ++ flat_map (never_text (device_of image)) nevers)
