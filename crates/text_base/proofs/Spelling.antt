-- One text for each number.
use Rattle.std.proofs.Common.{ℕ, ◌+◌, ◌*◌, ◌/◌, ◌%◌, ◌^◌, ◌<◌, ◌≤◌, ◌≡◌, ◌==◌, List, [], ◌∷◌, ◌++◌, length, length-append, append_assoc, append-nil, Bool, true, false, not, refl, ap, sym, ◌∙◌, arith, suc, zero, Err, Ok, Result, Option, Some, None, inl, inr, nat_lt, lit<, add-one, subst}
use Rattle.std.proofs.Math.Nat.{pow-suc}
use Rattle.std.proofs.lemmas.Bool.Decides.{nat_tests}
use Rattle.std.proofs.lemmas.Str.Parse.{IsNumeralModel, numerals_by_fold}
use Rattle.std.proofs.lemmas.Fmt.{decimal-digits_value, digits_decimal, digits_value-decimal, decimal_nonempty, first_decimal, decimal_digit}
use Rattle.std.specs.List.{position, position_or_len, AllByRecursion}
use Rattle.std.specs.Fmt.{decimal}
use Rattle.basics.specs.Lists.{chosen, all_pass_if_none_fails}
use Rattle.text_base.specs.declared.digits.DigitFault.{DigitFault}
use Rattle.text_base.specs.declared.digits.DigitFault.TheVariants.{WrongLength, BadDigit, TooGreat}
use Rattle.text_base.specs.Digits.{is_dec, is_hex, digit_of, number_from, hex_answer, dec_answer, unless_bad, capped, has_extra_zero, hex_digit, hex_digits}

pub hex_digits_none : (n : ℕ) → hex_digits n 0 ≡ []
unfolding hex_digits
hex_digits_none n = refl

hex_digits_suc : (n k : ℕ) → hex_digits n (suc k) ≡ hex_digits (n / 16) k ++ hex_digit (n % 16) ∷ []
unfolding hex_digits
hex_digits_suc n k = refl

pub hex_digits_more : (n k : ℕ) → hex_digits n (k + 1) ≡ hex_digits (n / 16) k ++ hex_digit (n % 16) ∷ []
hex_digits_more n k = rw (add-one k) (hex_digits_suc n k)

pub not_ok : (f : DigitFault) (n : ℕ) → ◌≡◌ {A = Result ℕ DigitFault} (Err f) (Ok n) → ⊥
not_ok f n e = cc

pub same_number : (a b : ℕ) → ◌≡◌ {A = Result ℕ DigitFault} (Ok a) (Ok b) → a ≡ b
same_number a b e = cc

all_pass : (p : ℕ → Bool) (xs : List ℕ) → AllByRecursion (λ b. p b ≡ true) xs → position_or_len (λ b. not (p b)) xs ≡ length xs
all_pass p [] h = refl
all_pass p (x ∷ xs) h = rw (h.0, all_pass p xs h.1) (omega arith)

no_position : (p : ℕ → Bool) (xs : List ℕ) → AllByRecursion (λ b. p b ≡ true) xs → position (λ b. not (p b)) xs ≡ None
no_position p xs h = let e = all_pass p xs h in let t : nat_lt (position_or_len (λ b. not (p b)) xs) (length xs) ≡ false = grind (arith, nat_tests, e) in rw t refl

pub unless_bad_ok : (o : Option ℕ) (r : Result ℕ DigitFault) (n : ℕ) → unless_bad o r ≡ Ok n → (o ≡ None) × (r ≡ Ok n)
unless_bad_ok None r n e = (refl, e)
unless_bad_ok (Some at) r n e = cc

-- hexadecimal: what is written is read
pub record IsHexOf (n k : ℕ) (w : List ℕ) : Type 0 where
  pub size : length w ≡ k
  pub all : AllByRecursion (λ b. is_hex b ≡ true) w
  pub value : number_from 16 0 w ≡ n

glyph_hex : (d : ℕ) → d < 16 → is_hex (hex_digit d) ≡ true
glyph_hex d h = grind (arith, nat_tests)

glyph_digit : (d : ℕ) → d < 16 → digit_of (hex_digit d) ≡ d
glyph_digit d h = grind (arith, nat_tests)

number_last : (n : ℕ) (xs : List ℕ) (b : ℕ) → number_from 16 n (xs ++ b ∷ []) ≡ 16 * number_from 16 n xs + digit_of b
number_last n [] b = refl
number_last n (x ∷ xs) b = number_last (16 * n + digit_of x) xs b

all_last : (xs : List ℕ) (b : ℕ) → AllByRecursion (λ x. is_hex x ≡ true) xs → is_hex b ≡ true → AllByRecursion (λ x. is_hex x ≡ true) (xs ++ b ∷ [])
all_last [] b h e = (e, tt)
all_last (x ∷ xs) b h e = (h.0, all_last xs b h.1 e)

hex_more : (n k : ℕ) (w : List ℕ) → IsHexOf (n / 16) k w → IsHexOf n (k + 1) (w ++ hex_digit (n % 16) ∷ [])
hex_more n k w h =
    let d = glyph_digit (n % 16) (omega arith) in
    record {
      size = simp length-append (omega (arith, h.size));
      all = all_last w (hex_digit (n % 16)) h.all (glyph_hex (n % 16) (omega arith));
      value = number_last 0 w (hex_digit (n % 16)) ∙ omega (arith, d, h.value);
    }

hex_of : (n k : ℕ) → n < 16 ^ k → IsHexOf n k (hex_digits n k)
hex_of n zero h = let P : List ℕ → Type 0 = λ w. IsHexOf n 0 w in subst P (sym (hex_digits_none n)) (record { size = refl; all = tt; value = omega arith })
hex_of n (suc k) h =
    let P : List ℕ → Type 0 = λ w. IsHexOf n (suc k) w in
    let small : n / 16 < 16 ^ k = omega (arith, pow-suc 16 k) in
    subst P (sym (hex_digits_suc n k)) (rw (add-one k) at (hex_more n k (hex_digits (n / 16) k) (hex_of (n / 16) k small)))

-- hexadecimal: what is read was written so
digit_back : (b : ℕ) → is_hex b ≡ true → (hex_digit (digit_of b) ≡ b) × (digit_of b < 16)
digit_back b h = (grind (arith, nat_tests), grind (arith, nat_tests))

-- digits after a number so far, of which `j` count
spelled_from : (w : List ℕ) (n j k : ℕ) → AllByRecursion (λ b. is_hex b ≡ true) w → k ≡ j + length w → hex_digits (number_from 16 n w) k ≡ hex_digits n j ++ w
spelled_from [] n j k h e = let same : k ≡ j = omega arith in rw same (sym (append-nil (hex_digits n j)))
spelled_from (b ∷ bs) n j k h e =
    let d = digit_back b h.0 in
    let high : (16 * n + digit_of b) / 16 ≡ n = omega (arith, d.1) in
    let low : (16 * n + digit_of b) % 16 ≡ digit_of b = omega (arith, d.1) in
    spelled_from bs (16 * n + digit_of b) (j + 1) k h.1 (omega arith)
    ∙ ap (λ (xs : List ℕ). xs ++ bs) (hex_digits_more (16 * n + digit_of b) j)
    ∙ rw (high, low, d.0) (append_assoc (hex_digits n j) (b ∷ []) bs)

-- the facts on this many digits
hex_facts : (w : List ℕ) (k n : ℕ) → hex_answer w k ≡ Ok n → (length w ≡ k) × AllByRecursion (λ b. is_hex b ≡ true) w × (number_from 16 0 w ≡ n)
hex_facts w k n e = elim (chosen (length w == k) _ _ (Ok n) e) [
  | inl h ↦ let r = unless_bad_ok (position (λ b. not (is_hex b)) w) (Ok (number_from 16 0 w)) n h.1 in
      (grind (arith, nat_tests, h.0), all_pass_if_none_fails is_hex w r.0, same_number (number_from 16 0 w) n r.1)
  | inr h ↦ absurd (not_ok (WrongLength (length w)) n h.1)
]

pub hex_spelled : (w : List ℕ) (n k : ℕ) → hex_answer w k ≡ Ok n → w ≡ hex_digits n k
hex_spelled w n k e =
    let facts = hex_facts w k n e in
    sym (rw (facts.2, hex_digits_none) at (spelled_from w 0 0 k facts.1 (omega (arith, facts.0))))

pub hex_read : (n k : ℕ) → n < 16 ^ k → hex_answer (hex_digits n k) k ≡ Ok n
hex_read n k h =
    let own = hex_of n k h in
    let size : (length (hex_digits n k) == k) ≡ true = grind (arith, nat_tests, own.size) in
    rw (size, no_position is_hex (hex_digits n k) own.all, own.value) refl

-- decimal
pub own : IsNumeralModel (λ ds. AllByRecursion (λ b. is_dec b ≡ true) ds) (number_from 10 0)
own = numerals_by_fold _ (record { empty = tt; parts = λ c cs h. (grind (arith, nat_tests, h.0), h.1); more = λ c cs r h. (grind (arith, nat_tests, r), h) }) (number_from 10)
    (record { empty = λ n. refl; more = λ n c cs r. ap (λ m. number_from 10 m cs) (grind (arith, nat_tests, r)) })

plain_zero : (n : ℕ) → n < 2 ^ 64 → has_extra_zero (decimal n) ≡ false
plain_zero zero h = rw (decimal_digit 0 (lit< tt)) refl
plain_zero (suc n) h = let first = first_decimal (suc n) (omega arith) h in grind (arith, nat_tests, first)

capped_in : (n most : ℕ) → n ≤ most → capped n most ≡ Ok n
capped_in n most h = let t : nat_lt most n ≡ false = grind (arith, nat_tests) in rw t refl

pub dec_is_read : (n most : ℕ) → most < 2 ^ 64 → n ≤ most → dec_answer (decimal n) most ≡ Ok n
dec_is_read n most room small =
    let some : (length (decimal n) == 0) ≡ false = grind (arith, nat_tests, decimal_nonempty n (omega arith)) in
    let plain = plain_zero n (omega arith) in
    let all = no_position is_dec (decimal n) (digits_decimal own n (omega arith)) in
    let value = digits_value-decimal own n (omega arith) in
    rw (some, plain, all, value, capped_in n most small) refl

capped_ok : (n m most : ℕ) → capped n most ≡ Ok m → (n ≡ m) × (m ≤ most)
capped_ok n m most e = elim (chosen (nat_lt most n) _ _ (Ok m) e) [
  | inl h ↦ absurd (not_ok TooGreat m h.1)
  | inr h ↦ let same = same_number n m h.1 in (same, grind (arith, nat_tests, h.0, same))
]

canonical : (w : List ℕ) (n most : ℕ) → most < 2 ^ 64 → (length w == 0) ≡ false → has_extra_zero w ≡ false → AllByRecursion (λ b. is_dec b ≡ true) w → number_from 10 0 w ≡ n → n ≤ most → w ≡ decimal n
canonical w n most room some plain all e small =
    sym (rw e at (decimal-digits_value own w all (grind (arith, nat_tests, some)) (λ z. grind (arith, nat_tests, plain, some, z)) (omega (arith, e))))

pub dec_is_spelled : (w : List ℕ) (n most : ℕ) → most < 2 ^ 64 → dec_answer w most ≡ Ok n → w ≡ decimal n
dec_is_spelled w n most room e = elim (chosen (length w == 0) _ _ (Ok n) e) [
  | inl h ↦ absurd (not_ok (WrongLength 0) n h.1)
  | inr h ↦ elim (chosen (has_extra_zero w) _ _ (Ok n) h.1) [
    | inl g ↦ absurd (not_ok (BadDigit 0) n g.1)
    | inr g ↦
        let r = unless_bad_ok (position (λ b. not (is_dec b)) w) (capped (number_from 10 0 w) most) n g.1 in
        let c = capped_ok (number_from 10 0 w) n most r.1 in
        canonical w n most room h.0 g.0 (all_pass_if_none_fails is_dec w r.0) c.0 c.1
  ]
]
