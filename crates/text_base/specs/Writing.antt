-- The output of a writer of lines.
use Rattle.std.specs.Prelude.{◌≡◌, ℕ, List, [], ◌∷◌, ◌++◌, Bool, true, false, if◌then◌else◌}
use Rattle.text_base.specs.Lines.{line}

-- the bytes so far, and whether a line has begun
pub record Written : Type 0 where
  pub bytes : List ℕ
  pub begun : Bool

-- one more word, with a space before it unless it begins the line
abbrev pub with_word : Written → List ℕ → Written
with_word w text = record { bytes = w.bytes ++ (if w.begun then 32 ∷ text else text); begun = true }

-- the line's end
abbrev pub with_end : Written → Written
with_end w = record { bytes = w.bytes ++ 10 ∷ []; begun = false }

-- several more words
abbrev pub with_words : Written → List (List ℕ) → Written
with_words w [] = w
with_words w (text ∷ texts) = with_words (with_word w text) texts

-- writing the words of a line and its end appends the text of the line
abbrev pub WritesLines : Type 0
WritesLines = (w : Written) (ws : List (List ℕ)) → w.begun ≡ false → with_end (with_words w ws) ≡ record { bytes = w.bytes ++ line ws; begun = false }
