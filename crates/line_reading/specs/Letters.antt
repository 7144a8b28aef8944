-- Reads the bytes of a word from its front. A reading gives a value and the bytes behind it, or nothing.
use Rattle.std.specs.Prelude.{ℕ, nat_lt, Bool, true, false, List, [], ◌∷◌, length, take, drop, Option, Some, None, Result, Ok, Err, if◌then◌else◌}
use Rattle.text_base.specs.Digits.{hex_answer}
use Rattle.text_base.specs.declared.digits.DigitFault.{DigitFault}

-- the first byte
abbrev pub letter_at : List ℕ → Option (ℕ × List ℕ)
letter_at [] = None
letter_at (b ∷ bs) = Some (b, bs)

abbrev pub number_before : Result ℕ DigitFault → List ℕ → Option (ℕ × List ℕ)
number_before (Ok n) bs = Some (n, bs)
number_before (Err e) bs = None

-- a number in this many hexadecimal digits
unfoldable pub digits_at : ℕ → List ℕ → Option (ℕ × List ℕ)
digits_at count bs = if nat_lt (length bs) count then None else number_before (hex_answer (take count bs) count) (drop count bs)

-- no byte is left
abbrev pub is_end : List ℕ → Bool
is_end [] = true
is_end (b ∷ bs) = false
