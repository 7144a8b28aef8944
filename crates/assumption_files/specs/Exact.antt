-- The texts that are assumption lists of a device, and the refusals of others, by the spelling alone.
use Rattle.std.specs.Prelude.{◌≡◌, ◌≢◌, ◌<◌, ◌+◌, ◌++◌, ◌⊎◌, ℕ, List, [], ◌∷◌, length, true, false, Some, Result, Ok, Err, ⊤}
use Rattle.std.specs.List.{All}
use Rattle.avr_model.specs.declared.device.Device.{Device}
use Rattle.avr_model.specs.declared.assumption.Entry.{Entry}
use Rattle.vector_table.specs.Entries.{AreEntries, fits_device, is_above_last, most_entries}
use Rattle.assumption_files.specs.declared.fault.AssumeText.{AssumeText}
use Rattle.assumption_files.specs.declared.fault.AssumeText.TheVariants.{Malformed, Order, Memory}
use Rattle.assumption_files.specs.Spelling.{entry_words, line_of, text_of}
use Rattle.assumption_files.specs.Reading.{is_entry_of, entry_in, entries_in}

-- The entries are those of a list, and fit the device.
pub record AreEntriesOf (device : Device) (entries : List Entry) : Type 0 where
  pub are : AreEntries entries
  pub fit : All (λ e. fits_device device e ≡ true) entries

-- The text is the spelling of this list.
pub record IsListReading (device : Device) (text : List ℕ) (entries : List Entry) : Type 0 where
  pub fits : AreEntriesOf device entries
  pub bytes : text ≡ text_of device entries

-- The lines before this one, counted from 1, are those of a list, and `here` is the text from it on.
pub record StandsAt (device : Device) (text : List ℕ) (line : ℕ) (before : List Entry) (here : List ℕ) : Type 0 where
  pub fits : AreEntriesOf device before
  pub bytes : text ≡ text_of device before ++ here
  pub number : line ≡ length before + 1

-- the text begins with the line of no entry of the device
abbrev pub BeginsWithNone : Device → List ℕ → Type 0
BeginsWithNone device here = (e : Entry) (rest : List ℕ) → is_entry_of device e ≡ true → here ≢ line_of device e ++ rest

-- After the lines of a list more text follows. It begins with no entry's line, or the list is full.
pub record IsListMalformed (device : Device) (text : List ℕ) (line : ℕ) : Type 0 where
  pub before : List Entry
  pub here : List ℕ
  pub at : StandsAt device text line before here
  pub some : here ≢ []
  pub stop : (length before ≡ most_entries) ⊎ BeginsWithNone device here

-- After the lines of a list with room for an entry follows the line of an entry that is not above the last.
pub record IsListOutOfOrder (device : Device) (text : List ℕ) (line : ℕ) : Type 0 where
  pub before : List Entry
  pub entry : Entry
  pub rest : List ℕ
  pub at : StandsAt device text line before (line_of device entry ++ rest)
  pub formed : is_entry_of device entry ≡ true
  pub room : length before < most_entries
  pub low : is_above_last before entry ≡ false

-- the answer that is due for a text
abbrev pub IsListDue : Device → List ℕ → Result (List Entry) AssumeText → Type 0
IsListDue device text (Ok entries) = IsListReading device text entries
IsListDue device text (Err (Malformed line)) = IsListMalformed device text line
IsListDue device text (Err (Order line)) = IsListOutOfOrder device text line
IsListDue device text (Err Memory) = ⊥

-- the answer is the one that is due, or memory ran out
abbrev pub IsListDueUnlessMemory : Device → List ℕ → Result (List Entry) AssumeText → Type 0
IsListDueUnlessMemory device text (Err Memory) = ⊤
IsListDueUnlessMemory device text answer = IsListDue device text answer

-- The lines before this one are those of a list, another line follows, and no list continues with it.
pub record IsListStuck (device : Device) (text : List ℕ) (line : ℕ) : Type 0 where
  pub before : List Entry
  pub here : List ℕ
  pub at : StandsAt device text line before here
  pub some : here ≢ []
  pub stop : (e : Entry) (more : List Entry) (rest : List ℕ) → AreEntriesOf device (before ++ e ∷ more) → here ≢ line_of device e ++ rest

-- ---- laws

-- the result of reading a text is due
abbrev pub ReadListIsDue : Type 0
ReadListIsDue = (device : Device) (text : List ℕ) → IsListDue device text (entries_in device text)

-- the due answer is the result of reading, so it is unique
abbrev pub DueIsRead : Type 0
DueIsRead = (device : Device) (text : List ℕ) (due : Result (List Entry) AssumeText) → IsListDue device text due → entries_in device text ≡ due

pub record ReadingIsExact : Type 0 where
  pub read : ReadListIsDue
  pub due : DueIsRead

-- a refusal names the first line with which no list continues
pub record RefusedListIsStuck : Type 0 where
  pub malformed : (device : Device) (text : List ℕ) (line : ℕ) → IsListMalformed device text line → IsListStuck device text line
  pub out_of_order : (device : Device) (text : List ℕ) (line : ℕ) → IsListOutOfOrder device text line → IsListStuck device text line

-- no text of a device is the spelling of two of its lists
abbrev pub ListsHaveOneText : Type 0
ListsHaveOneText = (device : Device) (a b : List Entry) → AreEntriesOf device a → AreEntriesOf device b → text_of device a ≡ text_of device b → a ≡ b

-- reading the words of an entry gives the entry, and words that are read are those of the entry
pub record EntryWords : Type 0 where
  pub read : (device : Device) (e : Entry) → is_entry_of device e ≡ true → entry_in device (entry_words device e) ≡ Some e
  pub spelled : (device : Device) (ws : List (List ℕ)) (e : Entry) → entry_in device ws ≡ Some e → (ws ≡ entry_words device e) × (is_entry_of device e ≡ true)
