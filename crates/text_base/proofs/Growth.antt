-- The output, piece after piece.
use Rattle.std.proofs.Common.{ℕ, ◌+◌, ◌≡◌, List, ◌++◌, take, drop, Option, Some, None, ◌-◌, length, refl, ap, sym, ◌∙◌, length-drop, arith, append_assoc}
use Rattle.std.proofs.Math.Seq.{take-add}
use Rattle.std.proofs.lemmas.List.{take_all}
use Rattle.text_base.specs.Outside.{grown}

-- one piece and then the next
pub grown-grown : (o : Option (List ℕ)) (xs ys : List ℕ) → grown (grown o xs) ys ≡ grown o (xs ++ ys)
grown-grown None xs ys = refl
grown-grown (Some bytes) xs ys = ap Some (append_assoc bytes xs ys)

-- the whole rest
pub take_rest : (i : ℕ) (text : List ℕ) → take (length text - i) (drop i text) ≡ drop i text
take_rest i text = take_all (length text - i) (drop i text) (omega (arith, length-drop i text))

-- a piece after those already put, if the rest was offered
pub grown_more : (start now next : Option (List ℕ)) (text : List ℕ) (i n : ℕ) → now ≡ grown start (take i text) → next ≡ grown now (take n (take (length text - i) (drop i text))) → next ≡ grown start (take (i + n) text)
grown_more start now next text i n e f =
    f
    ∙ ap (λ o. grown o (take n (take (length text - i) (drop i text)))) e
    ∙ ap (λ xs. grown (grown start (take i text)) (take n xs)) (take_rest i text)
    ∙ grown-grown start (take i text) (take n (drop i text))
    ∙ ap (grown start) (sym (take-add i n text))
