-- Reads the words of a line, and lines. A reading gives a value and the rest, or nothing.
use Rattle.std.specs.Prelude.{◌≡◌, ℕ, ◌+◌, List, [], ◌∷◌, Bool, true, false, Option, Some, None, Result, Ok, Err, if◌then◌else◌}
use Rattle.std.specs.Option.{option_map}
use Rattle.std.specs.Str.{bytes_eq}
use Rattle.text_base.specs.Lines.{TextLine, Position, size_of}
use Rattle.text_base.specs.Digits.{hex_answer, dec_answer}
use Rattle.text_base.specs.declared.digits.DigitFault.{DigitFault}
use Rattle.line_reading.specs.declared.Malformed.{Malformed}

-- ---- words

infixl 10 ◌>>=◌
abbrev pub ◌>>=◌ : {A B : Type 0} → Option A → (A → Option B) → Option B
None >>= f = None
(Some x) >>= f = f x

abbrev pub number_and : Result ℕ DigitFault → List (List ℕ) → Option (ℕ × List (List ℕ))
number_and (Ok n) ws = Some (n, ws)
number_and (Err e) ws = None

-- a number in this many hexadecimal digits
abbrev pub hex_at : ℕ → List (List ℕ) → Option (ℕ × List (List ℕ))
hex_at digits [] = None
hex_at digits (w ∷ ws) = number_and (hex_answer w digits) ws

-- a decimal number of at most `most`
abbrev pub dec_at : ℕ → List (List ℕ) → Option (ℕ × List (List ℕ))
dec_at most [] = None
dec_at most (w ∷ ws) = number_and (dec_answer w most) ws

-- exactly this word
abbrev pub word_at : List ℕ → List (List ℕ) → Option (Unit {0} × List (List ℕ))
word_at text [] = None
word_at text (w ∷ ws) = if bytes_eq w text then Some (tt, ws) else None

-- the next word, by a reading of its bytes
abbrev pub word_by : {A : Type 0} → (List ℕ → Option A) → List (List ℕ) → Option (A × List (List ℕ))
word_by f [] = None
word_by f (w ∷ ws) = option_map (λ x. (x, ws)) (f w)

-- no word is left
abbrev pub is_over : List (List ℕ) → Bool
is_over [] = true
is_over (w ∷ ws) = false

-- ---- one reading after another

abbrev pub then_at : {A B E : Type 0} → Result A E → (A → Result B E) → Result B E
then_at (Ok x) f = f x
then_at (Err at) f = Err at

-- ---- lines whose refusal leaves the reader at the refused line: a refusal gives that position

-- the text of the first line, which must have a line feed
abbrev pub text_in : List TextLine → Option (List ℕ)
text_in [] = None
text_in (l ∷ ls) = if l.whole then Some l.text else None

-- the first line, which must have a line feed, by a reading of its text
abbrev pub first_by : {A : Type 0} → (List ℕ → Option A) → List TextLine → Option A
first_by f ls = text_in ls >>= f

-- exactly this text
abbrev pub this_by : List ℕ → List ℕ → Option (Unit {0})
this_by text t = if bytes_eq t text then Some tt else None

abbrev pub passed_from : ℕ → List TextLine → Position
passed_from at [] = record { at = at; rest = [] }
passed_from at (l ∷ ls) = record { at = at + size_of l; rest = ls }

-- the position after the next line
abbrev pub passed : Position → Position
passed p = passed_from p.at p.rest

abbrev pub taken : {A : Type 0} → Option A → Position → Position → Result (A × Position) Position
taken None here next = Err here
taken (Some x) here next = Ok (x, next)

-- the next line, by a reading of its text, and the position after it
unfoldable pub line_by : {A : Type 0} → (List ℕ → Option A) → Position → Result (A × Position) Position
line_by f p = taken (first_by f p.rest) p (passed p)

-- a call's result, and the reader's position after it, are those of the reading
abbrev pub ReadsAt : {X Y : Type 0} → (X → Y) → Position → Result X Malformed → Result (Y × Position) Position → Type 0
ReadsAt view after (Ok x) due = due ≡ Ok (view x, after)
ReadsAt view after (Err fault) due = (due ≡ Err after) × (fault.0 ≡ after.at)
