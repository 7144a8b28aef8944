-- Reading and spelling of the bytes of a word are inverse.
use Rattle.std.proofs.Common.{ℕ, zero, suc, ◌/◌, ◌%◌, ◌<◌, ◌^◌, ◌≡◌, inl, inr, List, [], ◌∷◌, ◌++◌, length, take, drop, true, false, refl, ap, ap₂, sym, ◌∙◌, arith, Some, Result, Ok, Err, nat_lt, length-append}
use Rattle.std.proofs.lemmas.Bool.Decides.{nat_tests}
use Rattle.std.proofs.lemmas.List.{take-append-drop}
use Rattle.std.proofs.Math.Seq.{take-append_seam, drop-append_seam}
use Rattle.std.proofs.lemmas.Option.{same_Some, none-some}
use Rattle.basics.specs.Lists.{chosen, same_head_and_tail}
use Rattle.text_base.specs.Digits.{hex_digits, hex_digit, hex_answer}
use Rattle.text_base.specs.declared.digits.DigitFault.{DigitFault}
use Rattle.line_reading.specs.Reading.{number_and}
use Rattle.line_reading.specs.Letters.{letter_at, number_before, digits_at, is_end}
use Rattle.line_reading.specs.Words.{WordLaws}

-- ---- the end and one byte

pub end_is : (bs : List ℕ) → is_end bs ≡ true → bs ≡ []
end_is [] e = refl
end_is (b ∷ bs) e = cc

pub letter_take : (bs : List ℕ) (z : ℕ × List ℕ) → letter_at bs ≡ Some z → bs ≡ z.0 ∷ z.1
letter_take [] z e = absurd (none-some z e)
letter_take (b ∷ bs) z e = let same = same_Some {A = ℕ × List ℕ} (b, bs) z e in ap (λ (y : ℕ × List ℕ). y.0 ∷ y.1) same

-- ---- digits

pub length_hex : (n k : ℕ) → length (hex_digits n k) ≡ k
unfolding hex_digits
length_hex n zero = refl
length_hex n (suc k) = length-append (hex_digits (n / 16) k) (hex_digit (n % 16) ∷ []) ∙ omega (arith, length_hex (n / 16) k)

number_is : (r : Result ℕ DigitFault) (bs : List ℕ) (z : ℕ × List ℕ) → number_before r bs ≡ Some z → (r ≡ Ok z.0) × (bs ≡ z.1)
number_is (Ok n) bs z e = let same = same_Some {A = ℕ × List ℕ} (n, bs) z e in (ap (λ (y : ℕ × List ℕ). Ok y.0) same, ap (λ (y : ℕ × List ℕ). y.1) same)
number_is (Err f) bs z e = absurd (none-some z e)

pub number_of : (r : Result ℕ DigitFault) (n : ℕ) → number_and r [] ≡ Some (n, []) → r ≡ Ok n
number_of (Ok m) n e = let same = same_Some {A = ℕ × List (List ℕ)} (m, []) (n, []) e in ap (λ (y : ℕ × List (List ℕ)). Ok y.0) same
number_of (Err f) n e = absurd (none-some {A = ℕ × List (List ℕ)} (n, []) e)

pub digits_take : WordLaws → (count : ℕ) (bs : List ℕ) (z : ℕ × List ℕ) → digits_at count bs ≡ Some z → (bs ≡ hex_digits z.0 count ++ z.1) × (z.0 < 16 ^ count)
unfolding digits_at
digits_take k count bs z e = elim (chosen (nat_lt (length bs) count) _ _ (Some z) e) [
  | inl h ↦ absurd (none-some z h.1)
  | inr h ↦
      let t = number_is (hex_answer (take count bs) count) (drop count bs) z h.1 in
      let w = k.hex_takes count z.0 (take count bs ∷ []) [] (ap (λ (r : Result ℕ DigitFault). number_and r []) t.0) in
      (sym (take-append-drop count bs) ∙ ap₂ (λ (xs ys : List ℕ). xs ++ ys) (same_head_and_tail (take count bs) (hex_digits z.0 count) [] [] w.0).0 t.1, w.1)
]

pub digits_again : WordLaws → (count n : ℕ) (rest : List ℕ) → n < 16 ^ count → digits_at count (hex_digits n count ++ rest) ≡ Some (n, rest)
unfolding digits_at
digits_again k count n rest h =
    let cs = hex_digits n count in
    let size = length_hex n count in
    let all = length-append cs rest in
    let long : nat_lt (length (cs ++ rest)) count ≡ false = grind (arith, nat_tests, size, all) in
    let front : take count (cs ++ rest) ≡ cs = ap (λ (i : ℕ). take i (cs ++ rest)) (sym size) ∙ take-append_seam cs rest in
    let back : drop count (cs ++ rest) ≡ rest = ap (λ (i : ℕ). drop i (cs ++ rest)) (sym size) ∙ drop-append_seam cs rest in
    let read : hex_answer cs count ≡ Ok n = number_of (hex_answer cs count) n (k.hex_taken count n [] h) in
    rw (long, front, back, read) refl
