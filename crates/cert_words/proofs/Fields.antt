-- Reading and spelling of the fields of a line are inverse.
use Rattle.std.proofs.Common.{ℕ, zero, suc, ◌<◌, ◌≤◌, ◌^◌, ◌≡◌, ◌==◌, List, [], ◌∷◌, ◌++◌, length, map, codes, Bool, true, false, refl, ap, ap₂, sym, ◌∙◌, arith, Option, Some, nat_lt, subst, lit<, append_assoc}
use Rattle.std.specs.List.{AllByRecursion}
use Rattle.std.specs.Str.{bytes_eq}
use Rattle.std.specs.Fmt.{decimal}
use Rattle.std.proofs.lemmas.List.{append-nil}
use Rattle.std.proofs.lemmas.Slice.Eq.{bytes_eq-Decides}
use Rattle.std.proofs.lemmas.Option.{cond_some, same_Some as some_is, none-some}
use Rattle.basics.specs.Lists.{same_head_and_tail}
use Rattle.basics.specs.Numbers.{less_from_test, test_from_less}
use Rattle.text_base.specs.Digits.{hex_digits}
use Rattle.line_reading.specs.Reading.{hex_at, dec_at, word_at, word_by}
use Rattle.line_reading.specs.Words.{IsWord, WordLaws}
use Rattle.line_reading.proofs.AllLaws.{bind_some, map_some}
use Rattle.avr_model.specs.declared.device.Device.{Device}
use Rattle.avr_model.specs.Vectors.{enable_count}
use Rattle.witness_replay.specs.Spelling.{bit}
use Rattle.cert_words.specs.KeySpelling.{masks_digits}
use Rattle.cert_words.specs.KeyReading.{words_from, masks_at, flag_at}
use Rattle.cert_words.proofs.Limits.{masks_fit}

pub same_text : (t : List ℕ) → bytes_eq t t ≡ true
same_text t = (bytes_eq-Decides t t).1 refl

-- ---- words that have to stand there

pub word_take : (t : List ℕ) (ws : List (List ℕ)) (z : Unit {0} × List (List ℕ)) → word_at t ws ≡ Some z → ws ≡ t ∷ z.1
word_take t [] z e = absurd (none-some z e)
word_take t (w ∷ ws) z e =
    let h = cond_some {A = Unit {0} × List (List ℕ)} (bytes_eq w t) (tt, ws) z e in
    ap₂ (λ (x : List ℕ) (xs : List (List ℕ)). x ∷ xs) ((bytes_eq-Decides w t).0 h.0) (ap (λ (y : Unit {0} × List (List ℕ)). y.1) h.1)

-- ---- numbers

pub hex_take : WordLaws → (digits : ℕ) (ws : List (List ℕ)) (z : ℕ × List (List ℕ)) → hex_at digits ws ≡ Some z → (ws ≡ hex_digits z.0 digits ∷ z.1) × (z.0 < 16 ^ digits)
hex_take k digits ws z e = k.hex_takes digits z.0 ws z.1 e

pub dec_take : WordLaws → (most : ℕ) (ws : List (List ℕ)) (z : ℕ × List (List ℕ)) → most < 2 ^ 64 → dec_at most ws ≡ Some z → (ws ≡ decimal z.0 ∷ z.1) × (z.0 ≤ most)
dec_take k most ws z room e = k.dec_takes most z.0 ws z.1 room e

pub masks_take : WordLaws → (device : Device) (ws : List (List ℕ)) (z : ℕ × List (List ℕ)) → masks_at device ws ≡ Some z → (ws ≡ hex_digits z.0 (masks_digits device) ∷ z.1) × (z.0 < 2 ^ enable_count device)
unfolding masks_at
masks_take k device ws z e =
    let m = bind_some (hex_at (masks_digits device) ws) _ z e in
    let last = cond_some (nat_lt m.0.0 (2 ^ enable_count device)) m.0 z m.2 in
    let low : m.0.0 < 2 ^ enable_count device = less_from_test m.0.0 (2 ^ enable_count device) last.0 in
    let P : ℕ × List (List ℕ) → Type 0 = λ y. (ws ≡ hex_digits y.0 (masks_digits device) ∷ y.1) × (y.0 < 2 ^ enable_count device) in
    subst P last.1 ((hex_take k (masks_digits device) ws m.0 m.1).0, low)

pub masks_again : WordLaws → (device : Device) (m : ℕ) (rest : List (List ℕ)) → m < 2 ^ enable_count device → masks_at device (hex_digits m (masks_digits device) ∷ rest) ≡ Some (m, rest)
unfolding masks_at
masks_again k device m rest h =
    let low : nat_lt m (2 ^ enable_count device) ≡ true = test_from_less m (2 ^ enable_count device) h in
    rw (k.hex_taken (masks_digits device) m rest (masks_fit device m h), low) refl

bit_is : WordLaws → (n : ℕ) → n ≤ 1 → decimal n ≡ bit (n == 1)
bit_is k zero h = sym (same_head_and_tail (codes "0") (decimal 0) [] [] (k.dec_takes 1 0 (codes "0" ∷ []) [] (lit< tt) refl).0).0
bit_is k (suc zero) h = sym (same_head_and_tail (codes "1") (decimal 1) [] [] (k.dec_takes 1 1 (codes "1" ∷ []) [] (lit< tt) refl).0).0
bit_is k (suc (suc n)) h = absurd (omega (arith, h))

pub flag_take : WordLaws → (ws : List (List ℕ)) (z : Bool × List (List ℕ)) → flag_at ws ≡ Some z → ws ≡ bit z.0 ∷ z.1
flag_take k ws z e =
    let n = map_some (dec_at 1 ws) (λ x. (x.0 == 1, x.1)) z e in
    let t = dec_take k 1 ws n.0 (lit< tt) n.1 in
    let P : Bool × List (List ℕ) → Type 0 = λ y. ws ≡ bit y.0 ∷ y.1 in
    subst P n.2 (t.0 ∙ ap (λ (x : List ℕ). x ∷ n.0.1) (bit_is k n.0.0 t.1))

pub flag_again : WordLaws → (b : Bool) (rest : List (List ℕ)) → flag_at (bit b ∷ rest) ≡ Some (b, rest)
flag_again k true rest = refl
flag_again k false rest = refl

-- ---- words by themselves

pub word_by_take : {A : Type 0} (f : List ℕ → Option A) (ws : List (List ℕ)) (z : A × List (List ℕ)) → word_by f ws ≡ Some z → (w : List ℕ) × (ws ≡ w ∷ z.1) × (f w ≡ Some z.0)
word_by_take {A} f [] z e = absurd (none-some z e)
word_by_take {A} f (w ∷ ws) z e =
    let x = map_some (f w) (λ x. (x, ws)) z e in
    (w, ap (λ (y : A × List (List ℕ)). w ∷ y.1) x.2, x.1 ∙ ap (λ (y : A × List (List ℕ)). Some y.0) x.2)

pub record ReadWords {A : Type 0} (word : A → List ℕ) (P : A → Type 0) (front : List A) (count : ℕ) (ws : List (List ℕ)) (ys : List A) (rest : List (List ℕ)) : Type 0 where
  pub items : List A
  pub all : ys ≡ front ++ items
  pub number : length items ≡ count
  pub fit : AllByRecursion P items
  pub words : ws ≡ map word items ++ rest

pub words_take : {A : Type 0} (f : List ℕ → Option A) (word : A → List ℕ) (P : A → Type 0) → ((w : List ℕ) (x : A) → f w ≡ Some x → (w ≡ word x) × P x)
    → (front : List A) (count : ℕ) (ws : List (List ℕ)) (z : List A × List (List ℕ)) → words_from f front count ws ≡ Some z → ReadWords word P front count ws z.0 z.1
unfolding words_from
words_take {A} f word P step front zero ws z e =
    let Q : List A × List (List ℕ) → Type 0 = λ y. ReadWords word P front 0 ws y.0 y.1 in
    subst Q (some_is (front, ws) z e) (record { items = []; all = sym (append-nil front); number = refl; fit = tt; words = refl })
words_take {A} f word P step front (suc n) ws z e =
    let x = bind_some (word_by f ws) _ z e in
    let w = word_by_take f ws x.0 x.1 in
    let s = step w.0 x.0.0 w.2 in
    let more = words_take f word P step (front ++ x.0.0 ∷ []) n x.0.1 z x.2 in
    record {
      items = x.0.0 ∷ more.items;
      all = more.all ∙ append_assoc front (x.0.0 ∷ []) more.items;
      number = ap suc more.number;
      fit = (s.1, more.fit);
      words = w.1 ∙ ap₂ (λ (y : List ℕ) (ys : List (List ℕ)). y ∷ ys) s.0 more.words;
    }

pub words_again : {A : Type 0} (f : List ℕ → Option A) (word : A → List ℕ) (P : A → Type 0) → ((x : A) → P x → f (word x) ≡ Some x)
    → (front xs : List A) (count : ℕ) (rest : List (List ℕ)) → AllByRecursion P xs → length xs ≡ count → words_from f front count (map word xs ++ rest) ≡ Some (front ++ xs, rest)
unfolding words_from
words_again {A} f word P step front [] zero rest h e = ap (λ (ys : List A). Some (ys, rest)) (sym (append-nil front))
words_again {A} f word P step front [] (suc n) rest h e = absurd (omega (arith, e))
words_again {A} f word P step front (x ∷ xs) zero rest h e = absurd (omega (arith, e))
words_again {A} f word P step front (x ∷ xs) (suc n) rest h e =
    rw (step x h.0) (words_again f word P step (front ++ x ∷ []) xs n rest h.1 (omega (arith, e)) ∙ ap (λ (ys : List A). Some (ys, rest)) (append_assoc front (x ∷ []) xs))

pub words_plain : {A : Type 0} (word : A → List ℕ) (P : A → Type 0) → ((x : A) → P x → IsWord (word x)) → (xs : List A) → AllByRecursion P xs → AllByRecursion IsWord (map word xs)
words_plain word P step [] h = tt
words_plain word P step (x ∷ xs) h = (step x h.0, words_plain word P step xs h.1)

pub joined_words : (vs ws : List (List ℕ)) → AllByRecursion IsWord vs → AllByRecursion IsWord ws → AllByRecursion IsWord (vs ++ ws)
joined_words [] ws h g = g
joined_words (v ∷ vs) ws h g = (h.0, joined_words vs ws h.1 g)
