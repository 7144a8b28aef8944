-- Words and lines as they are written, and the readings of them.
use Rattle.std.specs.Prelude.{◌≡◌, ◌≤◌, ◌<◌, ◌^◌, ◌+◌, ◌++◌, ℕ, List, [], ◌∷◌, length, Some, true, decimal, map}
use Rattle.std.specs.List.{AllByRecursion, flat_map}
use Rattle.text_base.specs.Digits.{hex_digits}
use Rattle.text_base.specs.Lines.{TextLine, Position, size_of, AreLines, joined, words_of, spaced, line, Lacks}
use Rattle.text_base.specs.Spelling.{LinesMakeText, LinesOfTextAreLines}
use Rattle.line_reading.specs.Reading.{hex_at, dec_at}

-- a word of a line: it has no space and no line feed
abbrev pub IsWord : List ℕ → Type 0
IsWord w = Lacks 32 w × Lacks 10 w

-- the line of these words, with its line feed
abbrev pub whole : List (List ℕ) → TextLine
whole ws = record { text = spaced ws; whole = true }

-- the number of bytes of these lines
abbrev pub sizes : List TextLine → ℕ
sizes [] = 0
sizes (l ∷ ls) = size_of l + sizes ls

-- These lines are at the first position, and the second position is after them.
pub record Passes (p : Position) (ls : List TextLine) (q : Position) : Type 0 where
  pub lines : p.rest ≡ ls ++ q.rest
  pub offset : q.at ≡ p.at + sizes ls

-- ---- laws

-- digits that are read are those written for their number, which needs no more digits
abbrev pub HexTakes : Type 0
HexTakes = (digits n : ℕ) (ws rest : List (List ℕ)) → hex_at digits ws ≡ Some (n, rest) → (ws ≡ hex_digits n digits ∷ rest) × (n < 16 ^ digits)

-- the digits written for a number are read as it
abbrev pub HexIsTaken : Type 0
HexIsTaken = (digits n : ℕ) (rest : List (List ℕ)) → n < 16 ^ digits → hex_at digits (hex_digits n digits ∷ rest) ≡ Some (n, rest)

abbrev pub DecTakes : Type 0
DecTakes = (most n : ℕ) (ws rest : List (List ℕ)) → most < 2 ^ 64 → dec_at most ws ≡ Some (n, rest) → (ws ≡ decimal n ∷ rest) × (n ≤ most)

abbrev pub DecIsTaken : Type 0
DecIsTaken = (most n : ℕ) (rest : List (List ℕ)) → most < 2 ^ 64 → n ≤ most → dec_at most (decimal n ∷ rest) ≡ Some (n, rest)

abbrev pub HexIsWord : Type 0
HexIsWord = (n digits : ℕ) → n < 16 ^ digits → IsWord (hex_digits n digits)

abbrev pub DecIsWord : Type 0
DecIsWord = (n : ℕ) → n < 2 ^ 64 → IsWord (decimal n)

-- a line is read as its words
abbrev pub WordsStand : Type 0
WordsStand = (w : List ℕ) (ws : List (List ℕ)) → AllByRecursion IsWord (w ∷ ws) → words_of (spaced (w ∷ ws)) ≡ w ∷ ws

-- a line has one list of words
abbrev pub LineIsWords : Type 0
LineIsWords = (text : List ℕ) → spaced (words_of text) ≡ text

-- the lines of a text that begins with lines of words begin with these lines
abbrev pub LinesStand : Type 0
LinesStand = (wss : List (List (List ℕ))) (ls : List TextLine) → AllByRecursion (AllByRecursion IsWord) wss → AreLines ls → AreLines (map whole wss ++ ls)

-- the text from the position on begins with the text of these lines of words
pub record PassesText (p : Position) (wss : List (List (List ℕ))) (q : Position) : Type 0 where
  pub bytes : joined p.rest ≡ flat_map line wss ++ joined q.rest
  pub offset : q.at ≡ p.at + length (flat_map line wss)

-- lines are at a position exactly when the text there begins with theirs
abbrev pub LinesAreText : Type 0
LinesAreText = (p : Position) (wss : List (List (List ℕ))) (q : Position) → Passes p (map whole wss) q → PassesText p wss q

abbrev pub TextIsLines : Type 0
TextIsLines = (p : Position) (wss : List (List (List ℕ))) (q : Position) → AllByRecursion (AllByRecursion IsWord) wss → AreLines p.rest → AreLines q.rest → PassesText p wss q → Passes p (map whole wss) q

-- all laws of words
pub record WordLaws : Type 0 where
  pub hex_takes : HexTakes
  pub hex_taken : HexIsTaken
  pub hex_word : HexIsWord
  pub dec_takes : DecTakes
  pub dec_taken : DecIsTaken
  pub dec_word : DecIsWord
  pub words_stand : WordsStand
  pub line_words : LineIsWords
  pub lines_stand : LinesStand
  pub lines_text : LinesAreText
  pub text_lines : TextIsLines
  pub text_joined : LinesMakeText
  pub are_lines : LinesOfTextAreLines
