-- Reading and writing are inverse.
use Rattle.std.proofs.Common.{ℕ, ◌+◌, ◌*◌, ◌^◌, ◌<◌, ◌≤◌, ◌≡◌, ◌==◌, List, [], ◌∷◌, ◌++◌, length, length-append, append_assoc, map, Bool, true, false, not, refl, ap, sym, ◌∙◌, arith, Err, Ok, Result, Option, Some, inl, inr, nat_lt, add-one}
use Rattle.std.proofs.Math.Nat.{pow-suc}
use Rattle.std.proofs.lemmas.Bool.Decides.{nat_tests}
use Rattle.std.proofs.lemmas.List.Splits.{join_with_byte-slice_split}
use Rattle.std.specs.List.{position, AllByRecursion, flat_map}
use Rattle.std.specs.Fmt.{decimal}
use Rattle.basics.specs.Lists.{all_pass_if_none_fails, chosen}
use Rattle.text_base.proofs.Spelling.{not_ok, same_number, unless_bad_ok}
use Rattle.text_base.specs.declared.digits.DigitFault.{DigitFault}
use Rattle.text_base.specs.declared.digits.DigitFault.TheVariants.{WrongLength, BadDigit, TooGreat}
use Rattle.text_base.specs.Digits.{is_dec, is_hex, digit_of, number_from, hex_answer, dec_answer, capped, has_extra_zero, hex_digits}
use Rattle.text_base.specs.Lines.{TextLine, lines_of, joined, line, spaced, Lacks, IsEnded}
use Rattle.text_base.specs.Spelling.{HexIsRead, HexIsSpelled, DecimalIsRead, DecimalIsSpelled, WordsAreRead, LinesAreRead}
use Rattle.line_reading.specs.Reading.{number_and}
use Rattle.line_reading.specs.Words.{IsWord, whole, HexTakes, HexIsTaken, HexIsWord, DecTakes, DecIsTaken, DecIsWord, WordsStand, LineIsWords, LinesStand, sizes, LinesAreText, TextIsLines}

-- ---- what a number that is read says of its digits

pub record IsHexText (w : List ℕ) (n k : ℕ) : Type 0 where
  pub size : length w ≡ k
  pub digits : AllByRecursion (λ b. is_hex b ≡ true) w
  pub value : number_from 16 0 w ≡ n

hex_text : (w : List ℕ) (n k : ℕ) → hex_answer w k ≡ Ok n → IsHexText w n k
hex_text w n k e = elim (chosen (length w == k) _ _ (Ok n) e) [
  | inl h ↦
      let r = unless_bad_ok (position (λ b. not (is_hex b)) w) (Ok (number_from 16 0 w)) n h.1 in
      record { size = grind (arith, nat_tests, h.0); digits = all_pass_if_none_fails is_hex w r.0; value = same_number (number_from 16 0 w) n r.1 }
  | inr h ↦ absurd (not_ok (WrongLength (length w)) n h.1)
]

digit_small : (b : ℕ) → is_hex b ≡ true → digit_of b < 16
digit_small b h = grind (arith, nat_tests)

number_small : (w : List ℕ) (n i k : ℕ) → n < 16 ^ i → k ≡ i + length w → AllByRecursion (λ b. is_hex b ≡ true) w → number_from 16 n w < 16 ^ k
number_small [] n i k small e h = let same : k ≡ i = omega arith in rw same small
number_small (b ∷ bs) n i k small e h =
    let d = digit_small b h.0 in
    let more : 16 * n + digit_of b < 16 ^ (i + 1) = rw (add-one, pow-suc) (omega (arith, d)) in
    number_small bs (16 * n + digit_of b) (i + 1) k more (omega arith) h.1

hex_small : (w : List ℕ) (n k : ℕ) → hex_answer w k ≡ Ok n → n < 16 ^ k
hex_small w n k e =
    let t = hex_text w n k e in
    rw t.value at (number_small w 0 0 k (omega arith) (omega (arith, t.size)) t.digits)

capped_ok : (n m most : ℕ) → capped n most ≡ Ok m → m ≤ most
capped_ok n m most e = elim (chosen (nat_lt most n) _ _ (Ok m) e) [
  | inl h ↦ absurd (not_ok TooGreat m h.1)
  | inr h ↦ let same = same_number n m h.1 in grind (arith, nat_tests, h.0, same)
]

dec_text : (w : List ℕ) (n most : ℕ) → dec_answer w most ≡ Ok n → AllByRecursion (λ b. is_dec b ≡ true) w × (n ≤ most)
dec_text w n most e = elim (chosen (length w == 0) _ _ (Ok n) e) [
  | inl h ↦ absurd (not_ok (WrongLength 0) n h.1)
  | inr h ↦ elim (chosen (has_extra_zero w) _ _ (Ok n) h.1) [
    | inl g ↦ absurd (not_ok (BadDigit 0) n g.1)
    | inr g ↦
        let r = unless_bad_ok (position (λ b. not (is_dec b)) w) (capped (number_from 10 0 w) most) n g.1 in
        (all_pass_if_none_fails is_dec w r.0, capped_ok (number_from 10 0 w) n most r.1)
  ]
]

lacks_from : (p : ℕ → Bool) (c : ℕ) (xs : List ℕ) → ((b : ℕ) → p b ≡ true → (b == c) ≡ false) → AllByRecursion (λ b. p b ≡ true) xs → Lacks c xs
lacks_from p c [] f h = tt
lacks_from p c (x ∷ xs) f h = (f x h.0, lacks_from p c xs f h.1)

-- ---- numbers at the front of words

some_pair : (a b : ℕ) (v w : List (List ℕ)) → ◌≡◌ {A = Option (ℕ × List (List ℕ))} (Some (a, v)) (Some (b, w)) → (a ≡ b) × (v ≡ w)
some_pair a b v w e =
    let some_is : (x y : ℕ × List (List ℕ)) → Some x ≡ Some y → x ≡ y = λ x y f. cc in
    let p = some_is (a, v) (b, w) e in
    (ap (λ (z : ℕ × List (List ℕ)). z.0) p, ap (λ (z : ℕ × List (List ℕ)). z.1) p)

number_some : (r : Result ℕ DigitFault) (ws rest : List (List ℕ)) (n : ℕ) → number_and r ws ≡ Some (n, rest) → (r ≡ Ok n) × (ws ≡ rest)
number_some (Ok m) ws rest n e = let p = some_pair m n ws rest e in (ap Ok p.0, p.1)
number_some (Err f) ws rest n e = cc

headed : (w v : List ℕ) (ws rest : List (List ℕ)) → w ≡ v → ws ≡ rest → w ∷ ws ≡ v ∷ rest
headed w v ws rest e f = rw (e, f) refl

pub hex_takes : HexIsSpelled → HexTakes
hex_takes spelled digits n [] rest e = cc
hex_takes spelled digits n (w ∷ ws) rest e =
    let r = number_some (hex_answer w digits) ws rest n e in
    (headed w (hex_digits n digits) ws rest (spelled w n digits r.0) r.1, hex_small w n digits r.0)

pub hex_is_taken : HexIsRead → HexIsTaken
hex_is_taken read digits n rest small = rw (read n digits small) refl

pub dec_takes : DecimalIsSpelled → DecTakes
dec_takes spelled most n [] rest room e = cc
dec_takes spelled most n (w ∷ ws) rest room e =
    let r = number_some (dec_answer w most) ws rest n e in
    (headed w (decimal n) ws rest (spelled w n most room r.0) r.1, (dec_text w n most r.0).1)

pub dec_is_taken : DecimalIsRead → DecIsTaken
dec_is_taken read most n rest room small = rw (read n most room small) refl

-- ---- numbers as words

pub hex_is_word : HexIsRead → HexIsWord
hex_is_word read n digits small =
    let t = hex_text (hex_digits n digits) n digits (read n digits small) in
    (lacks_from is_hex 32 (hex_digits n digits) (λ b e. grind (arith, nat_tests, e)) t.digits, lacks_from is_hex 10 (hex_digits n digits) (λ b e. grind (arith, nat_tests, e)) t.digits)

pub dec_is_word : DecimalIsRead → DecIsWord
dec_is_word read n small =
    let t = dec_text (decimal n) n n (read n n small (omega arith)) in
    (lacks_from is_dec 32 (decimal n) (λ b e. grind (arith, nat_tests, e)) t.0, lacks_from is_dec 10 (decimal n) (λ b e. grind (arith, nat_tests, e)) t.0)

-- ---- lines

lack_spaces : (ws : List (List ℕ)) → AllByRecursion IsWord ws → AllByRecursion (Lacks 32) ws
lack_spaces [] h = tt
lack_spaces (w ∷ ws) h = (h.0.0, lack_spaces ws h.1)

pub words_stand : WordsAreRead → WordsStand
words_stand read w ws h = read w ws (lack_spaces (w ∷ ws) h)

pub line_is_words : LineIsWords
line_is_words text = join_with_byte-slice_split 32 text

pub lacks_append : (c : ℕ) (xs ys : List ℕ) → Lacks c xs → Lacks c ys → Lacks c (xs ++ ys)
lacks_append c [] ys h k = k
lacks_append c (x ∷ xs) ys h k = (h.0, lacks_append c xs ys h.1 k)

spaced_lacks : (ws : List (List ℕ)) → AllByRecursion IsWord ws → Lacks 10 (spaced ws)
spaced_lacks [] h = tt
spaced_lacks (w ∷ []) h = h.0.1
spaced_lacks (w ∷ v ∷ ws) h = lacks_append 10 w (32 ∷ spaced (v ∷ ws)) h.0.1 (refl, spaced_lacks (v ∷ ws) h.1)

ended : (ws : List (List ℕ)) (ls : List TextLine) → IsEnded (whole ws) ls
ended ws [] = λ e. absurd (let bad : true ≡ false = e in cc)
ended ws (l ∷ ls) = refl

pub lines_stand : LinesStand
lines_stand [] ls h t = t
lines_stand (ws ∷ wss) ls h t = (spaced_lacks ws h.0, ended ws (map whole wss ++ ls), lines_stand wss ls h.1 t)

joined_lines : (wss : List (List (List ℕ))) (ls : List TextLine) → joined (map whole wss ++ ls) ≡ flat_map line wss ++ joined ls
joined_lines [] ls = refl
joined_lines (ws ∷ wss) ls = ap (λ (xs : List ℕ). line ws ++ xs) (joined_lines wss ls) ∙ sym (append_assoc (line ws) (flat_map line wss) (joined ls))

size_lines : (wss : List (List (List ℕ))) → sizes (map whole wss) ≡ length (flat_map line wss)
size_lines [] = refl
size_lines (ws ∷ wss) = simp length-append (omega (arith, size_lines wss))

pub lines_are_text : LinesAreText
lines_are_text p wss q h = record { bytes = ap joined h.lines ∙ joined_lines wss q.rest; offset = omega (arith, h.offset, size_lines wss) }

pub text_is_lines : LinesAreRead → TextIsLines
text_is_lines read p wss q words here there h = record {
  lines = sym (read p.rest here) ∙ ap lines_of (h.bytes ∙ sym (joined_lines wss q.rest)) ∙ read (map whole wss ++ q.rest) (lines_stand wss q.rest words there);
  offset = omega (arith, h.offset, size_lines wss);
}
