-- Results of a list's items in order, with one more item.
use Rattle.std.proofs.Common.{◌≡◌, sym, ap, ◌∙◌, ℕ, ◌+◌, ◌<◌, List, [], ◌∷◌, ◌++◌, length, take, get_or, append_assoc}
use Rattle.std.specs.List.{flat_map}
use Rattle.std.proofs.lemmas.List.{take_more, append-nil}
use Rattle.std.proofs.lemmas.Grind.{flat_map-append}

pub gathered_more : {X Y : Type 0} (f : X → List Y) (xs : List X) (i : ℕ) (x : X) (start before now : List Y) → i < length xs → x ≡ get_or xs i x
    → before ≡ start ++ flat_map f (take i xs) → now ≡ before ++ f x → now ≡ start ++ flat_map f (take (i + 1) xs)
gathered_more f xs i x start before now lt is so e =
    e ∙ ap (λ ys. ys ++ f x) so ∙ append_assoc start (flat_map f (take i xs)) (f x) ∙ ap (λ ys. start ++ ys) (sym last)
  where
    one : flat_map f (get_or xs i x ∷ []) ≡ f x
    one = append-nil (f (get_or xs i x)) ∙ ap f (sym is)

    last : flat_map f (take (i + 1) xs) ≡ flat_map f (take i xs) ++ f x
    last = ap (flat_map f) (take_more xs i x lt) ∙ flat_map-append f (take i xs) (get_or xs i x ∷ []) ∙ ap (λ ys. flat_map f (take i xs) ++ ys) one
