-- The one text of an assumption list. Source: own.
use Rattle.std.specs.Prelude.{ℕ, List, [], ◌∷◌, map, codes, decimal}
use Rattle.std.specs.List.{flat_map}
use Rattle.avr_model.specs.declared.device.Device.{Device}
use Rattle.avr_model.specs.Devices.{word_digits}
use Rattle.avr_model.specs.declared.assumption.Entry.{Entry}
use Rattle.avr_model.specs.declared.assumption.Entry.TheVariants.{Pairs, Masks, Jump, Store, Prove, Free, Never, Frame, Recur, Scratch}
use Rattle.text_base.specs.Digits.{hex_digits}
use Rattle.text_base.specs.Lines.{line}

-- a word address in texts of a device
abbrev pub word_address_text : Device → ℕ → List ℕ
word_address_text device address = hex_digits address (word_digits device)

-- each number as a word of this many digits
abbrev pub number_words : ℕ → List ℕ → List (List ℕ)
number_words digits numbers = map (λ n. hex_digits n digits) numbers

-- a site and word addresses, and a site and data addresses
abbrev pub jump_words : Device → ℕ → List ℕ → List (List ℕ)
jump_words device site words = word_address_text device site ∷ number_words (word_digits device) words

abbrev pub store_words : Device → ℕ → List ℕ → List (List ℕ)
store_words device site addresses = word_address_text device site ∷ number_words 4 addresses

-- the words of an entry's line in a text of a device: its kind, its site and its items; `pairs` and `masks` are one word; a depth is
-- decimal
abbrev pub entry_words : Device → Entry → List (List ℕ)
entry_words device Pairs = codes "pairs" ∷ []
entry_words device Masks = codes "masks" ∷ []
entry_words device (Jump site words) = codes "jump" ∷ jump_words device site words
entry_words device (Store site addresses) = codes "store" ∷ store_words device site addresses
entry_words device (Prove site) = codes "prove" ∷ word_address_text device site ∷ []
entry_words device (Free site) = codes "free" ∷ word_address_text device site ∷ []
entry_words device (Never site) = codes "never" ∷ word_address_text device site ∷ []
entry_words device (Frame site) = codes "frame" ∷ word_address_text device site ∷ []
entry_words device (Recur word depth) = codes "recur" ∷ word_address_text device word ∷ decimal depth ∷ []
entry_words device (Scratch site) = codes "scratch" ∷ word_address_text device site ∷ []

-- the line of an entry, with its line feed
abbrev pub line_of : Device → Entry → List ℕ
line_of device entry = line (entry_words device entry)

-- the text of a list: a line for each entry
abbrev pub text_of : Device → List Entry → List ℕ
text_of device entries = flat_map (line_of device) entries
