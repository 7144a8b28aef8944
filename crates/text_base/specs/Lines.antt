-- Lines of a text, and the words of a line.
use Rattle.std.specs.Prelude.{◌≡◌, ◌<◌, ℕ, ◌+◌, ◌==◌, List, [], ◌∷◌, ◌++◌, length, Bool, true, false, ⊤, if◌then◌else◌, Option, Some, None}
use Rattle.std.specs.List.{slice_split, join_with_byte, flat_map, AllByRecursion}

-- a line without its line feed, and whether a line feed ended it
pub record TextLine : Type 0 where
  pub text : List ℕ
  pub whole : Bool

-- one byte in front of the first line
abbrev pub onto_line : ℕ → List TextLine → List TextLine
onto_line b [] = record { text = b ∷ []; whole = false } ∷ []
onto_line b (l ∷ ls) = record { text = b ∷ l.text; whole = l.whole } ∷ ls

-- the lines of a text
abbrev pub lines_of : List ℕ → List TextLine
lines_of [] = []
lines_of (b ∷ bs) = if b == 10 then record { text = []; whole = true } ∷ lines_of bs else onto_line b (lines_of bs)

-- the byte does not occur in the text
abbrev pub Lacks : ℕ → List ℕ → Type 0
Lacks c text = AllByRecursion (λ b. (b == c) ≡ false) text

-- the bytes of a line, with its line feed
abbrev pub bytes_of : TextLine → List ℕ
bytes_of l = if l.whole then l.text ++ 10 ∷ [] else l.text

abbrev pub size_of : TextLine → ℕ
size_of l = if l.whole then length l.text + 1 else length l.text

-- the text of these lines
abbrev pub joined : List TextLine → List ℕ
joined ls = flat_map bytes_of ls

-- the line ends with a line feed; only a last line that is not empty may lack it
abbrev pub IsEnded : TextLine → List TextLine → Type 0
IsEnded l [] = l.whole ≡ false → 0 < length l.text
IsEnded l (m ∷ ms) = l.whole ≡ true

-- these are the lines of some text
abbrev pub AreLines : List TextLine → Type 0
AreLines [] = ⊤
AreLines (l ∷ ls) = Lacks 10 l.text × IsEnded l ls × AreLines ls

abbrev pub first_line : List TextLine → Option TextLine
first_line [] = None
first_line (l ∷ ls) = Some l

-- the position of a reader of lines: the offset of the next line, and the lines from there on
pub record Position : Type 0 where
  pub at : ℕ
  pub rest : List TextLine

-- the words of a line: the bytes between single spaces
abbrev pub words_of : List ℕ → List (List ℕ)
words_of line = slice_split (λ b. b == 32) line

-- words with one space between each two
abbrev pub spaced : List (List ℕ) → List ℕ
spaced ws = join_with_byte 32 ws

-- the text of a whole line of words
abbrev pub line : List (List ℕ) → List ℕ
line ws = spaced ws ++ 10 ∷ []
