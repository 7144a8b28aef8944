-- What a writer of lines has written after a call, also after one that failed.
use Rattle.std.specs.Prelude.{◌≡◌, ◌⊎◌, ◌++◌, ℕ, List, [], ◌∷◌, false}
use Rattle.text_base.specs.Lines.{line}
use Rattle.text_base.specs.Writing.{Written, with_word, with_words, with_end}

-- a text appended at the beginning of a line
abbrev pub with_text : Written → List ℕ → Written
with_text w text = record { bytes = w.bytes ++ text; begun = false }

-- a prefix of the text was appended
pub record AppendedPart (before text after : List ℕ) : Type 0 where
  pub done : List ℕ
  pub missing : List ℕ
  pub parts : text ≡ done ++ missing
  pub bytes : after ≡ before ++ done

-- a prefix of these words was written
abbrev pub WroteWords : Written → List (List ℕ) → Written → Type 0
WroteWords old [] new = new ≡ old
WroteWords old (w ∷ ws) new = (new ≡ old) ⊎ WroteWords (with_word old w) ws new

-- ---- laws

-- writing the words of a line and its end appends the line
abbrev pub LineIsAppended : Type 0
LineIsAppended = (old new : Written) (ws : List (List ℕ)) → old.begun ≡ false → new ≡ with_end (with_words old ws) → new ≡ with_text old (line ws)

-- writing some of the words appends a prefix of the line
abbrev pub LineIsPart : Type 0
LineIsPart = (old new : Written) (ws : List (List ℕ)) → old.begun ≡ false → WroteWords old ws new → AppendedPart old.bytes (line ws) new.bytes

-- a prefix of a text is a prefix of a longer one
abbrev pub PartOfMore : Type 0
PartOfMore = (before text more after : List ℕ) → AppendedPart before text after → AppendedPart before (text ++ more) after

-- a text and a prefix of another is a prefix of both
abbrev pub PartBehind : Type 0
PartBehind = (before text more after : List ℕ) → AppendedPart (before ++ text) more after → AppendedPart before (text ++ more) after

pub record AppendingLaws : Type 0 where
  pub line : LineIsAppended
  pub part : LineIsPart
  pub longer : PartOfMore
  pub behind : PartBehind
