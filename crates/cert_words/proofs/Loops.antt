-- One more word.
use Rattle.std.proofs.Common.{ℕ, suc, ◌+◌, ◌-◌, ◌<◌, ◌≤◌, ◌≡◌, List, [], ◌∷◌, ◌++◌, length, length-append, take, refl, ap, sym, ◌∙◌, arith, Option, Some, None}
use Rattle.std.proofs.lemmas.List.{append-nil}
use Rattle.std.proofs.Math.Seq.{take-append_seam}
use Rattle.basics.specs.Numbers.{one_of_the_rest}
use Rattle.line_reading.specs.Reading.{◌>>=◌, word_by}
use Rattle.cert_words.specs.KeyReading.{words_from}

one_word : {A : Type 0} (f : List ℕ → Option A) (front : List A) (n : ℕ) (ws : List (List ℕ)) (d : Option (A × List (List ℕ))) → word_by f ws ≡ d
    → words_from f front (suc n) ws ≡ (d >>= λ x. words_from f (front ++ x.0 ∷ []) n x.1)
unfolding words_from
one_word f front n ws d e = rw e refl

more : {A : Type 0} (f : List ℕ → Option A) (front : List A) (count i : ℕ) (ws : List (List ℕ)) (d : Option (A × List (List ℕ))) → i < count → word_by f ws ≡ d
    → words_from f front (count - i) ws ≡ (d >>= λ x. words_from f (front ++ x.0 ∷ []) (count - (i + 1)) x.1)
more f front count i ws d h e = rw (one_of_the_rest count i h) (one_word f front (count - (i + 1)) ws d e)

-- a word that is read
pub word_more : {A : Type 0} (f : List ℕ → Option A) (front longer : List A) (count i : ℕ) (ws rest : List (List ℕ)) (x : A) (all : Option (List A × List (List ℕ))) → i < count
    → Some (x, rest) ≡ word_by f ws → longer ≡ front ++ x ∷ [] → words_from f front (count - i) ws ≡ all → words_from f longer (count - (i + 1)) rest ≡ all
word_more f front longer count i ws rest x all h e same is =
    ap (λ xs. words_from f xs (count - (i + 1)) rest) same ∙ sym (more f front count i ws (Some (x, rest)) h (sym e)) ∙ is

-- a word that isn't read
pub no_word : {A : Type 0} (f : List ℕ → Option A) (front : List A) (count i : ℕ) (ws : List (List ℕ)) (all : Option (List A × List (List ℕ))) → i < count
    → None ≡ word_by f ws → words_from f front (count - i) ws ≡ all → None ≡ all
no_word f front count i ws all h e is = sym (more f front count i ws None h (sym e)) ∙ is

none_left : {A : Type 0} (f : List ℕ → Option A) (front : List A) (ws : List (List ℕ)) → words_from f front 0 ws ≡ Some (front, ws)
unfolding words_from
none_left f front ws = refl

-- all words are read
pub words_end : {A : Type 0} (f : List ℕ → Option A) (front last : List A) (count i : ℕ) (ws : List (List ℕ)) (all : Option (List A × List (List ℕ))) → count ≤ i → last ≡ front
    → words_from f front (count - i) ws ≡ all → Some (last, ws) ≡ all
words_end f front last count i ws all h same is =
    let none : count - i ≡ 0 = omega arith in
    ap (λ xs. Some (xs, ws)) same ∙ sym (none_left f front ws) ∙ ap (λ (n : ℕ). words_from f front n ws) (sym none) ∙ is

pub all_taken : {A : Type 0} (n : ℕ) (xs : List A) → length xs ≡ n → take n xs ≡ xs
all_taken n xs h = ap (λ (i : ℕ). take i xs) (sym h) ∙ ap (take (length xs)) (sym (append-nil xs)) ∙ take-append_seam xs []

pub one_longer : {A : Type 0} (xs ys : List A) (x : A) (i : ℕ) → ys ≡ xs ++ x ∷ [] → length xs ≡ i → length ys ≡ i + 1
one_longer xs ys x i e h = ap length e ∙ length-append xs (x ∷ []) ∙ omega (arith, h)
