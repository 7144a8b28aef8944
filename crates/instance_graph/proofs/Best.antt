-- The first of a list, with one more item.
use Rattle.std.proofs.Common.{◌≡◌, ℕ, ◌+◌, ◌<◌, ◌≤◌, Option, Some, None, List, [], ◌∷◌, ◌++◌, length, get_or, take, sym, subst, ⊎_elim}
use Rattle.std.specs.List.{Contains}
use Rattle.std.proofs.lemmas.List.{take_more, take_all}
use Rattle.std.proofs.lemmas.List.Elements.{Contains-push_cases, Contains-push, Contains-append_left}
use Rattle.instance_graph.specs.Chain.{IsFirst}
use Rattle.instance_graph.specs.Turn.{IsBest}

module _ {X : Type 0} (Is : X → Type 0) (IsUpTo : X → X → Type 0) where
  -- of these, or of these and one more
  abbrev Of : List X → X → Type 0
  Of xs x = Contains xs x × Is x

  pub best_skip : (xs : List X) (y : X) (best : Option X) → (Is y → ⊥) → IsBest Is IsUpTo xs best → IsBest Is IsUpTo (xs ++ y ∷ []) best
  best_skip xs y None never best = λ z h is. ⊎_elim (λ old. best z old is) (λ same. never (subst Is (sym same) is)) (Contains-push_cases xs y z h)
  best_skip xs y (Some x) never best = record {
    is = (Contains-append_left xs (y ∷ []) x best.is.0, best.is.1);
    first = λ z h. ⊎_elim (λ old. best.first z (old, h.1)) (λ same. absurd (never (subst Is (sym same) h.1))) (Contains-push_cases xs y z h.0);
  }

  pub best_first : (xs : List X) (y : X) (best : Option X) → best ≡ None → Is y → IsUpTo y y → IsBest Is IsUpTo xs best → IsFirst (Of (xs ++ y ∷ [])) IsUpTo y
  best_first xs y best e is same_up best_is = record {
    is = (Contains-push xs y, is);
    first = λ z h. ⊎_elim (λ old. absurd (none z old h.1)) (λ same. subst (IsUpTo y) same same_up) (Contains-push_cases xs y z h.0);
  }
    where
      none : (z : X) → Contains xs z → Is z → ⊥
      none = subst (IsBest Is IsUpTo xs) e best_is

  pub best_less : (xs : List X) (y x : X) (best : Option X) → best ≡ Some x → Is y → IsUpTo y y → ((z : X) → IsUpTo x z → IsUpTo y z) → IsBest Is IsUpTo xs best → IsFirst (Of (xs ++ y ∷ [])) IsUpTo y
  best_less xs y x best e is same_up over best_is = record {
    is = (Contains-push xs y, is);
    first = λ z h. ⊎_elim (λ old. over z (old_is.first z (old, h.1))) (λ same. subst (IsUpTo y) same same_up) (Contains-push_cases xs y z h.0);
  }
    where
      old_is : IsFirst (Of xs) IsUpTo x
      old_is = subst (IsBest Is IsUpTo xs) e best_is

  pub best_keep : (xs : List X) (y x : X) (best : Option X) → best ≡ Some x → IsUpTo x y → IsBest Is IsUpTo xs best → IsFirst (Of (xs ++ y ∷ [])) IsUpTo x
  best_keep xs y x best e up best_is = record {
    is = (Contains-append_left xs (y ∷ []) x old_is.is.0, old_is.is.1);
    first = λ z h. ⊎_elim (λ old. old_is.first z (old, h.1)) (λ same. subst (IsUpTo x) same up) (Contains-push_cases xs y z h.0);
  }
    where
      old_is : IsFirst (Of xs) IsUpTo x
      old_is = subst (IsBest Is IsUpTo xs) e best_is

  pub best_take : (xs : List X) (i : ℕ) (d : X) (best : Option X) → i < length xs → IsBest Is IsUpTo (take i xs ++ get_or xs i d ∷ []) best → IsBest Is IsUpTo (take (i + 1) xs) best
  best_take xs i d best lt so = subst (λ ys. IsBest Is IsUpTo ys best) (sym (take_more xs i d lt)) so

  pub best_all : (xs : List X) (i : ℕ) (best : Option X) → length xs ≤ i → IsBest Is IsUpTo (take i xs) best → IsBest Is IsUpTo xs best
  best_all xs i best le so = subst (λ ys. IsBest Is IsUpTo ys best) (take_all i xs le) so
