-- Worked values of the definitions.
use Rattle.std.specs.Prelude.{◌≡◌, ℕ, [], ◌∷◌, ◌++◌, codes, Ok, Err, None, true, false, refl}
use Rattle.text_base.specs.declared.digits.DigitFault.TheVariants.{WrongLength, BadDigit, TooGreat}
use Rattle.text_base.specs.declared.outside.FileFault.TheVariants as read
use Rattle.text_base.specs.declared.outside.SinkFault.TheVariants as put
use Rattle.text_base.specs.Digits.{hex_answer, dec_answer, hex_digits}
use Rattle.text_base.specs.Lines.{lines_of, words_of}
use Rattle.text_base.specs.Memory.{FileStore, Taken, read_answer, put_answer, after_put}
use Rattle.text_base.specs.Writing.{with_words, with_end}

hex_value : hex_answer (codes "0F2A") 4 ≡ Ok 3882
hex_value = refl

hex_short : hex_answer (codes "F2A") 4 ≡ Err (WrongLength 3)
hex_short = refl

hex_lower_case : hex_answer (codes "0F2a") 4 ≡ Err (BadDigit 3)
hex_lower_case = refl

hex_text : hex_digits 3882 4 ≡ codes "0F2A"
unfolding hex_digits
hex_text = refl

dec_value : dec_answer (codes "2047") 2048 ≡ Ok 2047
dec_value = refl

dec_zero : dec_answer (codes "0") 0 ≡ Ok 0
dec_zero = refl

dec_empty : dec_answer [] 9 ≡ Err (WrongLength 0)
dec_empty = refl

dec_leading_zero : dec_answer (codes "07") 9 ≡ Err (BadDigit 0)
dec_leading_zero = refl

dec_sign : dec_answer (codes "+7") 9 ≡ Err (BadDigit 0)
dec_sign = refl

dec_bad_before_great : dec_answer (codes "99x") 9 ≡ Err (BadDigit 2)
dec_bad_before_great = refl

dec_great : dec_answer (codes "10") 9 ≡ Err TooGreat
dec_great = refl

two_lines : lines_of (codes "a b" ++ 10 ∷ 10 ∷ codes "c") ≡ record { text = codes "a b"; whole = true } ∷ record { text = []; whole = true } ∷ record { text = codes "c"; whole = false } ∷ []
two_lines = refl

two_spaces : words_of (codes "a  b") ≡ codes "a" ∷ [] ∷ codes "b" ∷ []
two_spaces = refl

empty_line : words_of [] ≡ [] ∷ []
empty_line = refl

go_line : with_end (with_words (record { bytes = []; begun = false }) (codes "go" ∷ codes "4" ∷ codes "00" ∷ [])) ≡ record { bytes = codes "go 4 00" ++ 10 ∷ []; begun = false }
go_line = refl

-- a name that was added twice, and a store whose second read fails
store : ℕ → FileStore
store calls = record {
  files = record { name = codes "a"; bytes = codes "new" } ∷ record { name = codes "a"; bytes = codes "older" } ∷ [];
  calls = calls;
  failing = 1 ∷ [];
  faults = 0;
  blamed = None;
}

last_added : read_answer (store 0) (codes "a") 3 ≡ Ok (codes "new")
unfolding store
last_added = refl

too_long : read_answer (store 0) (codes "a") 2 ≡ Err read.TooLong
unfolding store
too_long = refl

listed : read_answer (store 1) (codes "a") 3 ≡ Err read.Failed
unfolding store
listed = refl

missing : read_answer (store 0) (codes "b") 3 ≡ Err read.Failed
unfolding store
missing = refl

-- a put that fails, one that takes at most two bytes, one that takes none
sink : ℕ → Taken
sink calls = record { bytes = codes "x"; calls = calls; failing = 0 ∷ []; shorts = (1, 2) ∷ (2, 0) ∷ []; faults = 0 }

refused : put_answer (sink 0) 3 ≡ Err put.Failed
unfolding sink
refused = refl

two_of_three : put_answer (sink 1) 3 ≡ Ok 2
unfolding sink
two_of_three = refl

stuck : (after_put (sink 2) (codes "abc") (Ok 0)).faults ≡ 1
unfolding sink
stuck = refl

all_three : put_answer (sink 3) 3 ≡ Ok 3
unfolding sink
all_three = refl
