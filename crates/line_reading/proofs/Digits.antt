-- Two digits, one after the other.
use Rattle.std.proofs.Common.{ℕ, ◌+◌, ◌*◌, ◌^◌, ◌<◌, ◌≤◌, ◌≡◌, ◌&&◌, List, [], ◌∷◌, length, Bool, true, false, cond, refl, ap, sym, ◌∙◌, arith, Option, Some, None, Ok, nat_lt, not}
use Rattle.std.proofs.Math.Nat.{pow-le-pow_right}
use Rattle.std.specs.Prelude.{if◌then◌else◌}
use Rattle.std.specs.List.{position}
use Rattle.std.proofs.lemmas.Iterator.Adapters.{position_from-zero}
use Rattle.std.proofs.lemmas.Bool.Decides.{nat_tests}
use Rattle.text_base.specs.Digits.{is_hex, digit_of, number_from, unless_bad, hex_answer}
use Rattle.line_reading.specs.Letters.{number_before, digits_at}

pub no_letter : (bs : List ℕ) → length bs ≡ 0 → None ≡ digits_at 2 bs
unfolding digits_at
no_letter [] e = refl
no_letter (b ∷ bs) e = absurd (omega (arith, e))

pub one_letter : (bs behind : List ℕ) (a : ℕ) → bs ≡ a ∷ behind → length behind ≡ 0 → None ≡ digits_at 2 bs
unfolding digits_at
one_letter bs [] a is none = sym (ap (digits_at 2) is)
one_letter bs (b ∷ behind) a is none = absurd (omega (arith, none))

abbrev bad_by : Bool → Bool → Option ℕ
bad_by p q = if p then (if q then None else Some 1) else Some 0

-- the index of the first of two bytes that fails the test
bad_of_two : (t : ℕ → Bool) (a b : ℕ) → position (λ c. not (t c)) (a ∷ b ∷ []) ≡ bad_by (t a) (t b)
bad_of_two t a b = position_from-zero (λ c. not (t c)) (a ∷ b ∷ []) ∙ by (t a) (t b)
  where
    by : (p q : Bool) → cond {A = Option ℕ} (not p) (Some 0) (cond {A = Option ℕ} (not q) (Some 1) None) ≡ bad_by p q
    by true true = refl
    by true false = refl
    by false q = refl

by_tests : (p q : Bool) (n : ℕ) (rest : List ℕ)
    → number_before (unless_bad (bad_by p q) (Ok n)) rest ≡ (if p && q then Some (n, rest) else None)
by_tests true true n rest = refl
by_tests true false n rest = refl
by_tests false q n rest = refl

pub two_letters : (a b : ℕ) (rest : List ℕ) → digits_at 2 (a ∷ b ∷ rest) ≡ (if is_hex a && is_hex b then Some (16 * digit_of a + digit_of b, rest) else None)
unfolding digits_at
two_letters a b rest =
    ap (λ (t : Bool). cond t None (number_before (hex_answer (a ∷ b ∷ []) 2) rest)) enough
    ∙ ap (λ o. number_before (unless_bad o (Ok (number_from 16 0 (a ∷ b ∷ [])))) rest) (bad_of_two is_hex a b)
    ∙ by_tests (is_hex a) (is_hex b) (number_from 16 0 (a ∷ b ∷ [])) rest
    ∙ ap (λ n. if is_hex a && is_hex b then Some (n, rest) else None) number
  where
    enough : nat_lt (length (a ∷ b ∷ rest)) 2 ≡ false
    enough = grind (arith, nat_tests)

    number : number_from 16 0 (a ∷ b ∷ []) ≡ 16 * digit_of a + digit_of b
    number = let none : 16 * 0 + digit_of a ≡ digit_of a = omega arith in ap (λ n. 16 * n + digit_of b) none

pub eight_fit : (n count : ℕ) → n < 16 ^ count → count ≤ 8 → n < 2 ^ 32
eight_fit n count h few = omega (arith, h, pow-le-pow_right {n = 16} (omega arith) few)
