-- Several stores, of which some may have faults.
use Rattle.std.proofs.Common.{◌≡◌, ◌≢◌, refl, sym, ap, ◌∙◌, subst, ℕ, zero, suc, ◌+◌, ◌<◌, Bool, true, false, if◌then◌else◌, List, [], ◌∷◌, ◌++◌, length, map, filter, take, slice_index_or, Option, Some, None, arith}
use Rattle.std.proofs.lemmas.Bool.Decides.{nat_tests}
use Rattle.std.proofs.lemmas.List.{append-nil, append_assoc}
use Rattle.local_rules.specs.declared.local.NodeFault.{NodeFault}
use Rattle.local_rules.specs.declared.local.NodeFault.TheVariants.{Memory}
use Rattle.local_rules.specs.Faults.{cause_of, is_less, least}
use Rattle.local_rules.specs.Raw.{Raw, all_of}
use Rattle.abs_step.specs.Adding.{Moving, with_nodes, first_fault, first_of, with_another, AreNodesAdded, AreMovesGathered}
use Rattle.abs_step.proofs.Added.{with_all}

abbrev lesser : NodeFault → NodeFault → NodeFault
lesser f g = first_of (Some f) g

-- ---- the fault that counts

less_through : (f g h : NodeFault) → is_less g f ≡ true → is_less h g ≡ true → is_less h f ≡ true
less_through f g h = grind (arith, nat_tests)

not_less_through : (f g h : NodeFault) → is_less g f ≡ false → is_less h g ≡ false → is_less h f ≡ false
not_less_through f g h = grind (arith, nat_tests)

abbrev chosen : Bool → NodeFault → NodeFault → NodeFault
chosen b f g = if b then g else f

-- the least of three, in either order of comparison
apart : (f g h : NodeFault) → (a b c : Bool) → is_less g f ≡ a → is_less h g ≡ b → is_less h f ≡ c → lesser (chosen a f g) h ≡ lesser f (chosen b g h)
apart f g h true true c x y z = ap (λ t. chosen t g h) y ∙ sym (ap (λ t. chosen t f h) (less_through f g h x y))
apart f g h true false c x y z = ap (λ t. chosen t g h) y ∙ sym (ap (λ t. chosen t f g) x)
apart f g h false true c x y z = refl
apart f g h false false c x y z = ap (λ t. chosen t f h) (not_less_through f g h x y) ∙ sym (ap (λ t. chosen t f g) x)

lesser_apart : (f g h : NodeFault) → lesser (lesser f g) h ≡ lesser f (lesser g h)
lesser_apart f g h = apart f g h (is_less g f) (is_less h g) (is_less h f) refl refl refl

least_lesser : (f g : NodeFault) (gs : List NodeFault) → least (lesser f g) gs ≡ lesser f (least g gs)
least_lesser f g [] = refl
least_lesser f g (h ∷ gs) = ap (λ x. least x gs) (lesser_apart f g h) ∙ least_lesser f (lesser g h) gs

least_more : (f : NodeFault) (fs gs : List NodeFault) → least f (fs ++ gs) ≡ least (least f fs) gs
least_more f [] gs = refl
least_more f (g ∷ fs) gs = least_more (lesser f g) fs gs

pub first_more : (fs gs : List NodeFault) (g : NodeFault) → first_fault gs ≡ Some g → first_fault (fs ++ gs) ≡ Some (first_of (first_fault fs) g)
first_more [] gs g e = e
first_more (f ∷ fs) [] g e = cc
first_more (f ∷ fs) (h ∷ gs) g e =
    ap Some (least_more f fs (h ∷ gs) ∙ least_lesser (least f fs) h gs ∙ ap (lesser (least f fs)) (some_same (least h gs) g e))
  where
    some_same : (a b : NodeFault) → ◌≡◌ {A = Option NodeFault} (Some a) (Some b) → a ≡ b
    some_same a b e = cc

no_faults : (fs : List NodeFault) → first_fault fs ≡ None → fs ≡ []
no_faults [] e = refl
no_faults (f ∷ fs) e = cc

pub not_memory : (f : NodeFault) (n : ℕ) → n ≡ cause_of f → (n ≡ 0 → ⊥) → f ≢ Memory
not_memory f n e h m = h (e ∙ ap cause_of m)

-- ---- one more

pub gathered_more : (old mid new : Moving) (fault : Option NodeFault) (r q : Raw) → AreMovesGathered old mid fault r → AreNodesAdded mid new q
    → AreMovesGathered old new fault (with_another r q)
gathered_more old mid new fault r q g h = record {
  fault = ap (λ fs. first_fault (r.faults ++ fs)) (ap (λ (q : Raw). q.faults) h.moves) ∙ ap first_fault (append-nil r.faults) ∙ g.fault;
  nodes = λ none. h.nodes ∙ ap (λ (m : Moving). with_nodes m q.moves) (g.nodes none) ∙ sym (with_all old r.moves q.moves);
}

pub gathered_fault : (old mid new : Moving) (fault : Option NodeFault) (found : NodeFault) (r q : Raw) → AreMovesGathered old mid fault r
    → first_fault q.faults ≡ Some found → AreMovesGathered old new (Some (first_of fault found)) (with_another r q)
gathered_fault old mid new fault found r q g e = record {
  fault = first_more r.faults q.faults found e ∙ ap (λ o. Some (first_of o found)) g.fault;
  nodes = λ none. cc;
}

pub as_gathered : (old a b : Moving) (x y : Option NodeFault) (r : Raw) → a ≡ b → x ≡ y → AreMovesGathered old b y r → AreMovesGathered old a x r
as_gathered old a b x y r d e h = record { fault = h.fault ∙ sym e; nodes = λ none. d ∙ h.nodes (sym e ∙ none) }

-- ---- of a list

pub all_more : (rs : List Raw) (r : Raw) → with_another (all_of rs) r ≡ all_of (rs ++ r ∷ [])
all_more [] r = sym (λ i. record { moves = append-nil r.moves i; calls = []; exit = None; faults = append-nil r.faults i })
all_more (q ∷ rs) r =
    let rest = all_more rs r in
    (λ i. record { moves = append_assoc q.moves (all_of rs).moves r.moves i; calls = []; exit = None; faults = append_assoc q.faults (all_of rs).faults r.faults i })
    ∙ (λ i. record { moves = q.moves ++ (rest i).moves; calls = []; exit = None; faults = q.faults ++ (rest i).faults })

filter_more : (p : ℕ → Bool) (xs : List ℕ) (at next : ℕ) → at < length xs → next ≡ at + 1
    → filter p (take next xs) ≡ filter p (take at xs) ++ (if p (slice_index_or xs at 0) then slice_index_or xs at 0 ∷ [] else [])
filter_more p [] at next lt e = absurd (omega (arith, lt))
filter_more p (x ∷ xs) zero zero lt e = absurd (omega (arith, e))
filter_more p (x ∷ xs) zero (suc zero) lt e = refl
filter_more p (x ∷ xs) zero (suc (suc next)) lt e = absurd (omega (arith, e))
filter_more p (x ∷ xs) (suc at) zero lt e = absurd (omega (arith, e))
filter_more p (x ∷ xs) (suc at) (suc next) lt e = by (p x) (filter p (take next xs)) (filter p (take at xs)) (if p (slice_index_or xs at 0) then slice_index_or xs at 0 ∷ [] else []) (filter_more p xs at next (omega (arith, lt)) (omega (arith, e)))
  where
    by : (b : Bool) (ns ms os : List ℕ) → ns ≡ ms ++ os → (if b then x ∷ ns else ns) ≡ (if b then x ∷ ms else ms) ++ os
    by true ns ms os e = ap (λ ns. x ∷ ns) e
    by false ns ms os e = e

-- one more item, which is kept or not
pub kept_more : (p : ℕ → Bool) (xs ws new : List ℕ) (at : ℕ) (b : Bool) → at < length xs → ws ≡ filter p (take at xs) → b ≡ p (slice_index_or xs at 0) → b ≡ true
    → new ≡ ws ++ slice_index_or xs at 0 ∷ [] → new ≡ filter p (take (at + 1) xs)
kept_more p xs ws new at b lt is test e put =
    put ∙ ap (λ ns. ns ++ slice_index_or xs at 0 ∷ []) is
    ∙ sym (filter_more p xs at (at + 1) lt refl ∙ ap (λ (b : Bool). filter p (take at xs) ++ (if b then slice_index_or xs at 0 ∷ [] else [])) (sym test ∙ e))

pub kept_less : (p : ℕ → Bool) (xs ws : List ℕ) (at : ℕ) (b : Bool) → at < length xs → ws ≡ filter p (take at xs) → b ≡ p (slice_index_or xs at 0) → b ≡ false
    → ws ≡ filter p (take (at + 1) xs)
kept_less p xs ws at b lt is test e =
    is ∙ sym (append-nil (filter p (take at xs)))
    ∙ sym (filter_more p xs at (at + 1) lt refl ∙ ap (λ (b : Bool). filter p (take at xs) ++ (if b then slice_index_or xs at 0 ∷ [] else [])) (sym test ∙ e))

map_all : (f : ℕ → Raw) (xs ys : List ℕ) → map f (xs ++ ys) ≡ map f xs ++ map f ys
map_all f [] ys = refl
map_all f (x ∷ xs) ys = ap (λ rs. f x ∷ rs) (map_all f xs ys)

module _ (p : ℕ → Bool) (f : ℕ → Raw) (base : Raw) (xs : List ℕ) (at : ℕ) (old new : Moving) (fault : Option NodeFault) (lt : at < length xs) where
  abbrev pub so_far : ℕ → Raw
  so_far n = all_of (base ∷ map f (filter p (take n xs)))

  pub gathered_skip : p (slice_index_or xs at 0) ≡ false → AreMovesGathered old new fault (so_far at) → AreMovesGathered old new fault (so_far (at + 1))
  gathered_skip e h =
      subst (λ (ns : List ℕ). AreMovesGathered old new fault (all_of (base ∷ map f ns)))
      (sym (append-nil (filter p (take at xs))) ∙ sym (filter_more p xs at (at + 1) lt refl ∙ ap (λ (b : Bool). filter p (take at xs) ++ (if b then slice_index_or xs at 0 ∷ [] else [])) e)) h

  pub gathered_next : p (slice_index_or xs at 0) ≡ true → AreMovesGathered old new fault (with_another (so_far at) (f (slice_index_or xs at 0)))
      → AreMovesGathered old new fault (so_far (at + 1))
  gathered_next e h =
      subst (AreMovesGathered old new fault)
      (all_more (base ∷ map f (filter p (take at xs))) (f (slice_index_or xs at 0))
      ∙ ap (λ rs. all_of (base ∷ rs)) (sym (map_all f (filter p (take at xs)) (slice_index_or xs at 0 ∷ [])))
      ∙ ap (λ ns. all_of (base ∷ map f ns)) (sym (filter_more p xs at (at + 1) lt refl ∙ ap (λ (b : Bool). filter p (take at xs) ++ (if b then slice_index_or xs at 0 ∷ [] else [])) e))) h

pub gathered_added : (old new : Moving) (base : Raw) (rs : List Raw) → AreMovesGathered old new None (all_of (base ∷ rs)) → AreNodesAdded old new (all_of (base ∷ rs))
gathered_added old new base rs h =
    let none = no_faults (all_of (base ∷ rs)).faults h.fault in
    record { moves = λ i. record { moves = (all_of (base ∷ rs)).moves; calls = []; exit = None; faults = none i }; nodes = h.nodes refl }
