-- The numbers below another that pass a test.
use Rattle.std.proofs.Common.{◌≡◌, refl, ap, ◌∙◌, ℕ, ◌+◌, List, [], ◌∷◌, ◌++◌, Bool, true, false, cond, filter, suc, arith}
use Rattle.std.proofs.lemmas.List.{append-nil}
use Rattle.local_rules.specs.Local.{below}

below_next : (n : ℕ) → below (n + 1) ≡ below n ++ n ∷ []
unfolding below
below_next n = let e : n + 1 ≡ suc n = omega arith in ap below e

filter_all : (p : ℕ → Bool) (xs ys : List ℕ) → filter p (xs ++ ys) ≡ filter p xs ++ filter p ys
filter_all p [] ys = refl
filter_all p (x ∷ xs) ys = by (p x) (filter_all p xs ys)
  where
    by : (b : Bool) → filter p (xs ++ ys) ≡ filter p xs ++ filter p ys
        → cond b (x ∷ filter p (xs ++ ys)) (filter p (xs ++ ys)) ≡ cond b (x ∷ filter p xs) (filter p xs) ++ filter p ys
    by true rest = ap (λ (zs : List ℕ). x ∷ zs) rest
    by false rest = rest

-- the next one passes, or it doesn't
pub passes_next : (p : ℕ → Bool) (n : ℕ) → p n ≡ true → filter p (below (n + 1)) ≡ filter p (below n) ++ n ∷ []
passes_next p n e = ap (filter p) (below_next n) ∙ filter_all p (below n) (n ∷ []) ∙ ap (λ (b : Bool). filter p (below n) ++ cond b (n ∷ []) []) e

pub stops_next : (p : ℕ → Bool) (n : ℕ) → p n ≡ false → filter p (below (n + 1)) ≡ filter p (below n)
stops_next p n e =
    ap (filter p) (below_next n) ∙ filter_all p (below n) (n ∷ []) ∙ ap (λ (b : Bool). filter p (below n) ++ cond b (n ∷ []) []) e ∙ append-nil (filter p (below n))
