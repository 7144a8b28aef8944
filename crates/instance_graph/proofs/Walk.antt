-- If each open instance enters an open one, some instance is on a cycle.
use Rattle.std.proofs.Common.{◌≡◌, ◌||◌, ℕ, zero, suc, ◌+◌, ◌<◌, ◌≤◌, Bool, true, false, List, [], ◌∷◌, length, eqb, refl, sym, ap, ◌∙◌, subst, arith}
use Rattle.std.specs.List.{IsDistinct, AllByRecursion, list_any}
use Rattle.std.proofs.lemmas.Bool.{eqb-true}
use Rattle.std.proofs.lemmas.Map.Steps.{length-le_from_distinct_below}
use Rattle.instance_graph.specs.declared.graph.GraphInst.{GraphInst}
use Rattle.instance_graph.specs.declared.graph.Entered.{Entered}
use Rattle.instance_graph.specs.Graph.{EntersAlong, AreGraphRanks, ReachesBy, once, more}

-- ranks exclude cycles
reached_lower : (gs : List GraphInst) (rank : ℕ → ℕ) → AreGraphRanks gs rank → (i j : ℕ) → ReachesBy gs i j → rank j < rank i
reached_lower gs rank ranks i j (once _ e enters) = ranks i e enters
reached_lower gs rank ranks i j (more _ _ e enters rest) =
    let a = ranks i e enters in
    let b = reached_lower gs rank ranks e.into j rest in
    omega arith

pub no_cycle : (gs : List GraphInst) (rank : ℕ → ℕ) → AreGraphRanks gs rank → (i : ℕ) → ReachesBy gs i i → ⊥
no_cycle gs rank ranks i r = absurd (let lt = reached_lower gs rank ranks i i r in omega arith)

pub reaches_on : (gs : List GraphInst) (i j : ℕ) (e : Entered) → ReachesBy gs i j → EntersAlong gs j e → ReachesBy gs i e.into
reaches_on gs i j e (once _ d enters) on = more i e.into d enters (once d.into e on)
reaches_on gs i j e (more _ _ d enters rest) on = more i e.into d enters (reaches_on gs d.into j e rest on)

decide : (C : Type 0) (b : Bool) → (b ≡ true → C) → (b ≡ false → C) → C
decide C true one two = one refl
decide C false one two = two refl

apart_all : (h : ℕ) (xs : List ℕ) → list_any (eqb h) xs ≡ false → AllByRecursion (λ y. eqb h y ≡ false) xs
apart_all h [] e = tt
apart_all h (x ∷ xs) e =
    decide (AllByRecursion (λ y. eqb h y ≡ false) (x ∷ xs)) (eqb h x)
    (λ is. absurd (let e' : (eqb h x || list_any (eqb h) xs) ≡ false = e in let e'' : (true || list_any (eqb h) xs) ≡ false = ap (λ b. b || list_any (eqb h) xs) (sym is) ∙ e' in cc))
    (λ is. (is, apart_all h xs (ap (λ b. b || list_any (eqb h) xs) (sym is) ∙ e)))

-- an item of the list with h in front is h or in the list
wider : (P : Type 0) (q h : ℕ) (xs : List ℕ) → (q ≡ h → P) → (list_any (eqb q) xs ≡ true → P) → list_any (eqb q) (h ∷ xs) ≡ true → P
wider P q h xs here there e =
    decide P (eqb q h) (λ is. here (eqb-true q h is)) (λ is. there (ap (λ b. b || list_any (eqb q) xs) (sym is) ∙ e))

module _ (gs : List GraphInst) (n : ℕ) (IsOpen : ℕ → Type 0) (inside : (i : ℕ) → IsOpen i → i < n) (step : (i : ℕ) → IsOpen i → (e : Entered) × EntersAlong gs i e × IsOpen e.into) where
  below_more : (h : ℕ) (xs : List ℕ) → IsOpen h → ((q : ℕ) → list_any (eqb q) xs ≡ true → q < n) → (q : ℕ) → list_any (eqb q) (h ∷ xs) ≡ true → q < n
  below_more h xs open_h below q any = wider (q < n) q h xs (λ same. subst (λ x. x < n) (sym same) (inside h open_h)) (below q) any

  -- a walk over the different numbers xs that reached h: it repeats before it has seen more than n
  walk : (fuel : ℕ) (xs : List ℕ) (h : ℕ) → length xs + fuel ≡ n → IsDistinct eqb xs → ((q : ℕ) → list_any (eqb q) xs ≡ true → q < n) → IsOpen h → ((q : ℕ) → list_any (eqb q) xs ≡ true → ReachesBy gs q h) → (c : ℕ) × ReachesBy gs c c
  unfolding IsDistinct
  walk zero xs h size distinct below open_h reaches =
      decide ((c : ℕ) × ReachesBy gs c c) (list_any (eqb h) xs)
      (λ is. (h, reaches h is))
      (λ is.
      let few : length (h ∷ xs) ≤ n = length-le_from_distinct_below (h ∷ xs) n (apart_all h xs is, distinct) (below_more h xs open_h below) in
      absurd (omega arith))
  walk (suc fuel) xs h size distinct below open_h reaches =
      decide ((c : ℕ) × ReachesBy gs c c) (list_any (eqb h) xs)
      (λ is. (h, reaches h is))
      (λ is.
      let e = step h open_h in
      walk fuel (h ∷ xs) (e.0).into (omega arith) (apart_all h xs is, distinct) (below_more h xs open_h below) e.2
      (λ q any. wider (ReachesBy gs q (e.0).into) q h xs (λ same. subst (λ x. ReachesBy gs x (e.0).into) (sym same) (once h e.0 e.1)) (λ old. reaches_on gs q h e.0 (reaches q old) e.1) any))

  pub some_cycle : (i : ℕ) → IsOpen i → (c : ℕ) × ReachesBy gs c c
  unfolding IsDistinct
  some_cycle i open_i = walk n [] i (omega arith) tt (λ q e. absurd (let e' = e in cc)) open_i (λ q e. absurd (let e' = e in cc))
