-- The number of nodes in a line: any canonical decimal, which may be too great.
use Rattle.std.proofs.Common.{ℕ, ◌<◌, ◌≡◌, ◌==◌, List, [], ◌∷◌, length, codes, Bool, true, false, refl, ap, ◌∙◌, arith, Option, Some, None, Ok, Err, inl, inr, nat_lt, cond, not, lit<}
use Rattle.std.specs.Prelude.{◌≢◌}
use Rattle.std.specs.List.{position, AllByRecursion}
use Rattle.std.proofs.lemmas.Bool.Decides.{nat_tests}
use Rattle.basics.specs.Lists.{all_pass_if_none_fails, chosen}
use Rattle.std.proofs.lemmas.Option.{none-some}
use Rattle.text_base.specs.Digits.{is_dec, number_from, has_extra_zero, dec_answer, unless_bad, capped}
use Rattle.text_base.specs.declared.digits.DigitFault.TheVariants.{WrongLength, BadDigit, TooGreat}
use Rattle.text_base.specs.Lines.{Lacks}
use Rattle.line_reading.specs.Reading.{word_at, is_over}
use Rattle.line_reading.specs.Words.{IsWord}
use Rattle.line_reading.proofs.AllLaws.{bind_some, no_words}
use Rattle.certificate.specs.Claims.{most_nodes}
use Rattle.cert_words.proofs.AllLaws.{word_take}
use Rattle.cert_format.specs.Reading.{counted, count_at, count_in}
use Rattle.cert_format.specs.Refusals.{IsDecimal, IsNodesLine}

cons_some : (b : ℕ) (bs : List ℕ) → b ∷ bs ≢ []
cons_some b bs h = cc

some_length : (w : List ℕ) → w ≢ [] → (length w == 0) ≡ false
some_length [] h = absurd (h refl)
some_length (b ∷ bs) h = grind (arith, nat_tests)

length_some : (w : List ℕ) → (length w == 0) ≡ false → w ≢ []
length_some [] e = cc
length_some (b ∷ bs) e = cons_some b bs

digits_lack : (c : ℕ) (w : List ℕ) → c < 48 → AllByRecursion (λ b. is_dec b ≡ true) w → Lacks c w
digits_lack c [] low h = tt
digits_lack c (b ∷ bs) low h = (grind (arith, nat_tests, low, h.0), digits_lack c bs low h.1)

-- a decimal has no space and no line feed
pub decimal_word : (w : List ℕ) → IsDecimal w → IsWord w
decimal_word w h = let all = all_pass_if_none_fails is_dec w h.digits in (digits_lack 32 w (lit< tt) all, digits_lack 10 w (lit< tt) all)

capped_counts : (b : Bool) (n : ℕ) → (x : Option ℕ) × (counted (cond b (Err TooGreat) (Ok n)) ≡ Some x)
capped_counts true n = (None, refl)
capped_counts false n = (Some n, refl)

-- a canonical decimal is read, whatever its number
decimal_counts : (w : List ℕ) → IsDecimal w → (x : Option ℕ) × (counted (dec_answer w most_nodes) ≡ Some x)
decimal_counts w h =
    let some = some_length w h.some in
    let t = capped_counts (nat_lt most_nodes (number_from 10 0 w)) (number_from 10 0 w) in
    (t.0, rw (some, h.plain, h.digits) t.1)

pub nodes_count : (w : List ℕ) → IsDecimal w → (x : Option ℕ) × (count_in (codes "nodes" ∷ w ∷ []) ≡ Some x)
unfolding count_in
nodes_count w h = decimal_counts w h

-- ---- a number that is too great

not_too_great : (n : ℕ) → counted (Ok n) ≡ Some None → ⊥
not_too_great n e = cc

no_length : (n : ℕ) → counted (Err (WrongLength n)) ≡ Some None → ⊥
no_length n e = cc

no_digit : (n : ℕ) → counted (Err (BadDigit n)) ≡ Some None → ⊥
no_digit n e = cc

bad_digit : (o : Option ℕ) (n : ℕ) → counted (unless_bad o (capped n most_nodes)) ≡ Some None → (o ≡ None) × (counted (capped n most_nodes) ≡ Some None)
bad_digit None n e = (refl, e)
bad_digit (Some at) n e = absurd (no_digit at e)

too_great : (b : Bool) (n : ℕ) → counted (cond b (Err TooGreat) (Ok n)) ≡ Some None → b ≡ true
too_great true n e = refl
too_great false n e = absurd (not_too_great n e)

record TooManyNodes (w : List ℕ) : Type 0 where
  pub canonical : IsDecimal w
  pub many : most_nodes < number_from 10 0 w

great_by : (w : List ℕ) (a b : Bool) → (length w == 0) ≡ a → has_extra_zero w ≡ b
    → counted (cond a (Err (WrongLength 0)) (cond b (Err (BadDigit 0)) (unless_bad (position (λ b. not (is_dec b)) w) (capped (number_from 10 0 w) most_nodes)))) ≡ Some None → TooManyNodes w
great_by w true b e f h = absurd (no_length 0 h)
great_by w false true e f h = absurd (no_digit 0 h)
great_by w false false e f h =
    let t = bad_digit (position (λ b. not (is_dec b)) w) (number_from 10 0 w) h in
    let g = too_great (nat_lt most_nodes (number_from 10 0 w)) (number_from 10 0 w) t.1 in
    record { canonical = record { some = length_some w e; plain = f; digits = t.0 }; many = grind (arith, nat_tests, g) }

great : (w : List ℕ) → counted (dec_answer w most_nodes) ≡ Some None → TooManyNodes w
great w e = great_by w (length w == 0) (has_extra_zero w) refl refl e

many_at : (ws : List (List ℕ)) → count_at ws ≡ Some None → (w : List ℕ) × (ws ≡ w ∷ []) × TooManyNodes w
many_at [] e = absurd (none-some None e)
many_at (w ∷ ws) e = elim (chosen (is_over ws) _ _ (Some None) e) [
  | inl h ↦ (w, ap (λ (xs : List (List ℕ)). w ∷ xs) (no_words ws h.0), great w h.1)
  | inr h ↦ absurd (none-some None h.1)
]

pub too_many : (ws : List (List ℕ)) → count_in ws ≡ Some None → IsNodesLine (λ w. most_nodes < number_from 10 0 w) ws
unfolding count_in
too_many ws e =
    let h = bind_some (word_at (codes "nodes") ws) _ None e in
    let t = many_at h.0.1 h.2 in
    (t.0, t.2.canonical, word_take (codes "nodes") ws h.0 h.1 ∙ ap (λ (xs : List (List ℕ)). codes "nodes" ∷ xs) t.1, t.2.many)
