-- Lists of numbers: their order, and reading them.
use Rattle.std.proofs.Common.{◌≡◌, ℕ, zero, suc, ◌<◌, ◌≤◌, ◌^◌, arith, Bool, true, false, List, [], ◌∷◌, ◌++◌, length, get_or, add-one, refl, ap, sym, subst, ◌∙◌, append_assoc, Option, Some, None, Ok, Err, option_map}
use Rattle.std.specs.List.{IsAllAdjacentAnswer}
use Rattle.std.specs.Prelude.{nat_lt}
use Rattle.std.proofs.lemmas.Bool.{and_from, and_right}
use Rattle.std.proofs.lemmas.List.{append-nil}
use Rattle.std.proofs.lemmas.Bool.Decides.{nat_tests}
use Rattle.std.proofs.Math.Nat.{pow-le-pow_right}
use Rattle.avr_model.specs.declared.device.Device.{Device}
use Rattle.avr_model.specs.Devices.{word_digits}
use Rattle.text_base.specs.declared.digits.DigitFault.{DigitFault}
use Rattle.text_base.specs.Digits.{hex_answer}
use Rattle.vector_table.specs.Entries.{ascends}
use Rattle.assumption_files.specs.Reading.{numbers_in}

-- ---- ascending

each_below : (xs : List ℕ) → ((k d : ℕ) → suc k < length xs → nat_lt (get_or xs k d) (get_or xs (suc k) d) ≡ true) → ascends xs ≡ true
each_below [] h = refl
each_below (x ∷ []) h = refl
each_below (x ∷ y ∷ ys) h = and_from (nat_lt x y) (ascends (y ∷ ys)) (h 0 0 (omega arith)) (each_below (y ∷ ys) (λ k d lt. h (suc k) d (omega arith)))

one_not_below : (xs : List ℕ) (k d : ℕ) → suc k < length xs → nat_lt (get_or xs k d) (get_or xs (suc k) d) ≡ false → ascends xs ≡ false
one_not_below [] k d lt e = absurd (omega arith)
one_not_below (x ∷ []) k d lt e = absurd (omega arith)
one_not_below (x ∷ y ∷ ys) zero d lt e = rw e refl
one_not_below (x ∷ y ∷ ys) (suc k) d lt e = and_right (nat_lt x y) (ascends (y ∷ ys)) (one_not_below (y ∷ ys) k d (omega arith) e)

-- the answer of the test of all neighbours
pub ascends_answer : (xs : List ℕ) (r : Bool) → IsAllAdjacentAnswer (λ x y b. b ≡ nat_lt x y) xs r → r ≡ ascends xs
ascends_answer xs true h =
    sym (each_below xs (λ k d lt. subst (λ (n : ℕ). nat_lt (get_or xs k d) (get_or xs n d) ≡ true) (add-one k) (sym (h k d (omega arith)))))
ascends_answer xs false h =
    let k = h.0 in
    sym (one_not_below xs k 0 (omega (arith, h.1)) (subst (λ (n : ℕ). nat_lt (get_or xs k 0) (get_or xs n 0) ≡ false) (add-one k) (sym (h.2 0))))

-- ---- reading

-- numbers read before these
abbrev pub with_front : List ℕ → Option (List ℕ) → Option (List ℕ)
with_front front due = option_map (λ ns. front ++ ns) due

front_next : (front : List ℕ) (n : ℕ) (d : Option (List ℕ)) → with_front front (option_map (λ ns. n ∷ ns) d) ≡ with_front (front ++ n ∷ []) d
front_next front n None = refl
front_next front n (Some ns) = ap Some (sym (append_assoc front (n ∷ []) ns))

-- one more number
pub numbers_more : (digits : ℕ) (front : List ℕ) (w : List ℕ) (ws rest : List (List ℕ)) (n : ℕ) (all : Option (List ℕ)) → ws ≡ w ∷ rest → Ok n ≡ hex_answer w digits
    → with_front front (numbers_in digits ws) ≡ all → with_front (front ++ n ∷ []) (numbers_in digits rest) ≡ all
numbers_more digits front w ws rest n all e read is =
    sym (front_next front n (numbers_in digits rest)) ∙ rw (e, ← read) at is

-- a word that is no number
pub no_number : (digits : ℕ) (front : List ℕ) (w : List ℕ) (ws rest : List (List ℕ)) (f : DigitFault) (all : Option (List ℕ)) → ws ≡ w ∷ rest → Err f ≡ hex_answer w digits
    → with_front front (numbers_in digits ws) ≡ all → None ≡ all
no_number digits front w ws rest f all e read is = rw (e, ← read) at is

-- no word is left
pub numbers_end : (digits : ℕ) (front : List ℕ) (ws : List (List ℕ)) (all : Option (List ℕ)) → ws ≡ [] → with_front front (numbers_in digits ws) ≡ all → Some front ≡ all
numbers_end digits front ws all e is = ap Some (sym (append-nil front)) ∙ rw e at is

-- ---- digits of word addresses

pub least_digits : (device : Device) → 4 ≤ word_digits device
least_digits device = grind (arith, nat_tests)

pub most_digits : (device : Device) → word_digits device ≤ 5
most_digits device = grind (arith, nat_tests)

pub five_fit : (n digits : ℕ) → n < 16 ^ digits → digits ≤ 5 → n < 2 ^ 32
five_fit n digits h few = omega (arith, h, pow-le-pow_right {n = 16} (omega arith) few)
