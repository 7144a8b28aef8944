-- Numbers as decimal and hexadecimal digits.
use Rattle.std.specs.Prelude.{ℕ, zero, suc, ◌+◌, ◌-◌, ◌*◌, ◌/◌, ◌%◌, ◌==◌, ◌&&◌, ◌||◌, not, nat_le, nat_lt, List, [], ◌∷◌, ◌++◌, length, Bool, Option, Some, None, Result, Ok, Err, if◌then◌else◌, slice_index}
use Rattle.std.specs.List.{position}
use Rattle.text_base.specs.declared.digits.DigitFault.{DigitFault}
use Rattle.text_base.specs.declared.digits.DigitFault.TheVariants.{WrongLength, BadDigit, TooGreat}

-- 0 to 9
abbrev pub is_dec : ℕ → Bool
is_dec b = nat_le 48 b && nat_le b 57

-- 0 to 9, A to F
abbrev pub is_hex : ℕ → Bool
is_hex b = is_dec b || (nat_le 65 b && nat_le b 70)

-- the value of a digit
abbrev pub digit_of : ℕ → ℕ
digit_of b = if nat_le 65 b then b - 55 else b - 48

-- the value of digits appended to a number
abbrev pub number_from : ℕ → ℕ → List ℕ → ℕ
number_from base n [] = n
number_from base n (b ∷ bs) = number_from base (base * n + digit_of b) bs

-- this answer, unless there is a first bad byte
abbrev pub unless_bad : Option ℕ → Result ℕ DigitFault → Result ℕ DigitFault
unless_bad None answer = answer
unless_bad (Some at) answer = Err (BadDigit at)

-- the answer of `read_hex`
abbrev pub hex_answer : List ℕ → ℕ → Result ℕ DigitFault
hex_answer text digits =
    if length text == digits then unless_bad (position (λ b. not (is_hex b)) text) (Ok (number_from 16 0 text))
    else Err (WrongLength (length text))

-- the number, if it is at most `most`
abbrev pub capped : ℕ → ℕ → Result ℕ DigitFault
capped n most = if nat_lt most n then Err TooGreat else Ok n

-- several bytes, the first of which is the digit 0
abbrev pub has_extra_zero : List ℕ → Bool
has_extra_zero text = nat_lt 1 (length text) && (slice_index text 0 == 48)

-- the answer of `read_dec`
abbrev pub dec_answer : List ℕ → ℕ → Result ℕ DigitFault
dec_answer text most =
    if length text == 0 then Err (WrongLength 0)
    else (if has_extra_zero text then Err (BadDigit 0)
    else unless_bad (position (λ b. not (is_dec b)) text) (capped (number_from 10 0 text) most))

-- an upper-case hexadecimal digit
abbrev pub hex_digit : ℕ → ℕ
hex_digit n = if nat_lt n 10 then 48 + n else 55 + n

-- a number in this many upper-case hexadecimal digits
unfoldable pub hex_digits : ℕ → ℕ → List ℕ
hex_digits n zero = []
hex_digits n (suc k) = hex_digits (n / 16) k ++ hex_digit (n % 16) ∷ []
