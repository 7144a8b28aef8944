-- Items of lists.
use Rattle.std.proofs.Common.{◌≡◌, refl, sym, ap, subst, ℕ, Bool, true, List, [], ◌∷◌, ◌++◌, length, take, drop, Contains}
use Rattle.std.specs.Prelude.{if◌then◌else◌}

-- ---- by a test

pub chosen_in : {X : Type 0} (b : Bool) (xs : List X) (x : X) → b ≡ true → Contains xs x → Contains (if b then xs else []) x
chosen_in b xs x e h = subst (λ (c : Bool). Contains (if c then xs else []) x) (sym e) h

-- ---- a list written back into the vector that it was borrowed from

pub written_back : {X : Type 0} (n : ℕ) (new old : List X) → length new ≡ n → take n (new ++ drop (length new) old) ≡ new
written_back n new old e = subst (λ x. take x (new ++ drop (length new) old) ≡ new) e (take_front new (drop (length new) old))
  where
    take_front : {X : Type 0} (xs ys : List X) → take (length xs) (xs ++ ys) ≡ xs
    take_front [] ys = refl
    take_front (x ∷ xs) ys = ap (λ zs. x ∷ zs) (take_front xs ys)
