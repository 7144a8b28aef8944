-- Reads an assumption list of a device forward, line by line. A refusal has the number of the first line with which no list continues.
use Rattle.std.specs.Prelude.{ℕ, ◌+◌, ◌&&◌, nat_lt, Bool, List, [], ◌∷◌, ◌++◌, length, codes, Option, Some, None, Result, Ok, Err, if◌then◌else◌}
use Rattle.std.specs.Option.{option_map}
use Rattle.std.specs.Str.{bytes_eq}
use Rattle.avr_model.specs.declared.device.Device.{Device}
use Rattle.avr_model.specs.Devices.{word_digits}
use Rattle.avr_model.specs.declared.assumption.Entry.{Entry}
use Rattle.avr_model.specs.declared.assumption.Entry.TheVariants.{Pairs, Masks, Jump, Store, Prove, Free, Never, Frame, Recur, Scratch}
use Rattle.text_base.specs.Lines.{TextLine, lines_of, words_of}
use Rattle.avr_model.specs.State.{SIZE}
use Rattle.line_reading.specs.Reading.{◌>>=◌, hex_at, dec_at, is_over, then_at}
use Rattle.vector_table.specs.Entries.{is_entry, fits_device, is_above_last, most_entries}
use Rattle.assumption_files.specs.declared.fault.AssumeText.{AssumeText}
use Rattle.assumption_files.specs.declared.fault.AssumeText.TheVariants.{Malformed, Order}

-- ---- the words of a line

-- a word address in texts of a device
abbrev pub word_address_at : Device → List (List ℕ) → Option (ℕ × List (List ℕ))
word_address_at device ws = hex_at (word_digits device) ws

-- all words, each a number of this many digits
abbrev pub numbers_in : ℕ → List (List ℕ) → Option (List ℕ)
numbers_in digits [] = Some []
numbers_in digits (w ∷ ws) = hex_at digits (w ∷ ws) >>= λ n. option_map (λ ns. n.0 ∷ ns) (numbers_in digits ws)

-- a site, and the numbers of this many digits after it
abbrev pub listed_in : Device → ℕ → List (List ℕ) → Option (ℕ × List ℕ)
listed_in device digits ws = word_address_at device ws >>= λ site. option_map (λ ns. (site.0, ns)) (numbers_in digits site.1)

-- a site alone
abbrev pub alone_in : Device → List (List ℕ) → Option ℕ
alone_in device ws = word_address_at device ws >>= λ site. if is_over site.1 then Some site.0 else None

-- a word, and a depth of some device
abbrev pub depth_in : Device → List (List ℕ) → Option (ℕ × ℕ)
depth_in device ws = word_address_at device ws >>= λ word. dec_at SIZE word.1 >>= λ depth. if is_over depth.1 then Some (word.0, depth.0) else None

-- the entry of a line that is one word
abbrev pub bare_in : Entry → List (List ℕ) → Option Entry
bare_in entry ws = if is_over ws then Some entry else None

-- the entry of a kind that has a site and nothing else
unfoldable pub alone_by : Device → List ℕ → List (List ℕ) → Option Entry
alone_by device kind ws =
    if bytes_eq kind (codes "prove") then option_map (λ site. Prove site) (alone_in device ws)
    else (if bytes_eq kind (codes "free") then option_map (λ site. Free site) (alone_in device ws)
    else (if bytes_eq kind (codes "never") then option_map (λ site. Never site) (alone_in device ws)
    else (if bytes_eq kind (codes "frame") then option_map (λ site. Frame site) (alone_in device ws)
    else (if bytes_eq kind (codes "scratch") then option_map (λ site. Scratch site) (alone_in device ws) else None))))

-- the entry of these words, whatever its numbers; `jump` lists word addresses, and `store` data addresses of four digits
unfoldable pub numbered_in : Device → List (List ℕ) → Option Entry
numbered_in device [] = None
numbered_in device (w ∷ ws) =
    if bytes_eq w (codes "pairs") then bare_in Pairs ws
    else (if bytes_eq w (codes "masks") then bare_in Masks ws
    else (if bytes_eq w (codes "jump") then option_map (λ l. Jump l.0 l.1) (listed_in device (word_digits device) ws)
    else (if bytes_eq w (codes "store") then option_map (λ l. Store l.0 l.1) (listed_in device 4 ws)
    else (if bytes_eq w (codes "recur") then option_map (λ l. Recur l.0 l.1) (depth_in device ws)
    else alone_by device w ws))))

-- a list of the device may have the entry
abbrev pub is_entry_of : Device → Entry → Bool
is_entry_of device e = is_entry e && fits_device device e

-- the entry, if a list of the device may have it
abbrev pub admitted : Device → Entry → Option Entry
admitted device e = if is_entry_of device e then Some e else None

-- the entry of these words
unfoldable pub entry_in : Device → List (List ℕ) → Option Entry
entry_in device ws = numbered_in device ws >>= admitted device

-- ---- lines

-- the entry of a line, which must have a line feed
abbrev pub entry_by : Device → TextLine → Option Entry
entry_by device l = if l.whole then entry_in device (words_of l.text) else None

-- the entry of a line after this many lines: no list has a line 4,097
unfoldable pub next_by : Device → ℕ → TextLine → Option Entry
next_by device count l = if nat_lt count most_entries then entry_by device l else None

-- these entries with the one of the next line; refused if that is malformed, or not above the last
abbrev pub placed : List Entry → Option Entry → Result (List Entry) AssumeText
placed es None = Err (Malformed (length es + 1))
placed es (Some e) = if is_above_last es e then Ok (es ++ e ∷ []) else Err (Order (length es + 1))

-- these entries with the one of the next line, or the refusal
unfoldable pub with_line : Device → List Entry → TextLine → Result (List Entry) AssumeText
with_line device es l = placed es (next_by device (length es) l)

-- these entries with those of all lines, or the refusal
unfoldable pub entries_from : Device → List Entry → List TextLine → Result (List Entry) AssumeText
entries_from device es [] = Ok es
entries_from device es (l ∷ ls) = then_at (with_line device es l) (λ more. entries_from device more ls)

-- the entries of a text
abbrev pub entries_in : Device → List ℕ → Result (List Entry) AssumeText
entries_in device text = entries_from device [] (lines_of text)
