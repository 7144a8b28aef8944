-- One text for each number, and one list of lines and of words for each text.
use Rattle.std.specs.Prelude.{◌≡◌, ◌≤◌, ◌<◌, ◌^◌, ℕ, List, ◌∷◌, length, decimal, Ok}
use Rattle.std.specs.List.{AllByRecursion}
use Rattle.text_base.specs.Digits.{hex_answer, dec_answer, hex_digits}
use Rattle.text_base.specs.Lines.{TextLine, lines_of, joined, AreLines, size_of, bytes_of, words_of, spaced, Lacks}

-- reading the digits of a number gives the number
abbrev pub HexIsRead : Type 0
HexIsRead = (n digits : ℕ) → n < 16 ^ digits → hex_answer (hex_digits n digits) digits ≡ Ok n

-- digits that are read as a number are the digits of that number
abbrev pub HexIsSpelled : Type 0
HexIsSpelled = (text : List ℕ) (n digits : ℕ) → hex_answer text digits ≡ Ok n → text ≡ hex_digits n digits

abbrev pub DecimalIsRead : Type 0
DecimalIsRead = (n most : ℕ) → most < 2 ^ 64 → n ≤ most → dec_answer (decimal n) most ≡ Ok n

abbrev pub DecimalIsSpelled : Type 0
DecimalIsSpelled = (text : List ℕ) (n most : ℕ) → most < 2 ^ 64 → dec_answer text most ≡ Ok n → text ≡ decimal n

-- reading the text of lines gives the lines
abbrev pub LinesAreRead : Type 0
LinesAreRead = (ls : List TextLine) → AreLines ls → lines_of (joined ls) ≡ ls

-- the lines of a text make up the text
abbrev pub LinesMakeText : Type 0
LinesMakeText = (text : List ℕ) → joined (lines_of text) ≡ text

-- no line has a line feed in it, and only the last one may lack the one at its end
abbrev pub LinesOfTextAreLines : Type 0
LinesOfTextAreLines = (text : List ℕ) → AreLines (lines_of text)

-- a reader's offset moves by the number of the line's bytes
abbrev pub SizesAreLengths : Type 0
SizesAreLengths = (l : TextLine) → size_of l ≡ length (bytes_of l)

-- reading the line of one or more words without spaces gives the words
abbrev pub WordsAreRead : Type 0
WordsAreRead = (w : List ℕ) (ws : List (List ℕ)) → AllByRecursion (Lacks 32) (w ∷ ws) → words_of (spaced (w ∷ ws)) ≡ w ∷ ws
