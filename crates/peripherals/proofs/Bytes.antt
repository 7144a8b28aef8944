-- Words that are bytes, one after the other.
use Rattle.std.proofs.Common.{◌≡◌, ℕ, List, [], ◌∷◌, ◌++◌, ap, sym, refl, ◌∙◌, append_assoc, Option, Some, None, Ok, Err, option_map}
use Rattle.std.proofs.lemmas.List.{append-nil}
use Rattle.text_base.specs.declared.digits.DigitFault.{DigitFault}
use Rattle.text_base.specs.Digits.{hex_answer}
use Rattle.peripherals.specs.Reading.{bytes_in}

-- bytes read before these
abbrev pub with_front : List ℕ → Option (List ℕ) → Option (List ℕ)
with_front front due = option_map (λ bs. front ++ bs) due

front_next : (front : List ℕ) (b : ℕ) (d : Option (List ℕ)) → with_front front (option_map (λ bs. b ∷ bs) d) ≡ with_front (front ++ b ∷ []) d
front_next front b None = refl
front_next front b (Some bs) = ap Some (sym (append_assoc front (b ∷ []) bs))

-- one more byte
pub bytes_more : (front : List ℕ) (w : List ℕ) (ws rest : List (List ℕ)) (b : ℕ) (all : Option (List ℕ)) → ws ≡ w ∷ rest → Ok b ≡ hex_answer w 2
    → with_front front (bytes_in ws) ≡ all → with_front (front ++ b ∷ []) (bytes_in rest) ≡ all
bytes_more front w ws rest b all e read is = sym (front_next front b (bytes_in rest)) ∙ rw (e, ← read) at is

-- a word that is no byte
pub no_byte : (front : List ℕ) (w : List ℕ) (ws rest : List (List ℕ)) (f : DigitFault) (all : Option (List ℕ)) → ws ≡ w ∷ rest → Err f ≡ hex_answer w 2
    → with_front front (bytes_in ws) ≡ all → None ≡ all
no_byte front w ws rest f all e read is = rw (e, ← read) at is

-- no word is left
pub bytes_end : (front : List ℕ) (ws : List (List ℕ)) (all : Option (List ℕ)) → ws ≡ [] → with_front front (bytes_in ws) ≡ all → Some front ≡ all
bytes_end front ws all e is = ap Some (sym (append-nil front)) ∙ rw e at is
