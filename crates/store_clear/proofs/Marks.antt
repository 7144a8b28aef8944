-- Marking of reached nodes.
use Rattle.std.proofs.Common.{◌≡◌, ℕ, zero, suc, ◌+◌, ◌<◌, Bool, true, false, List, [], ◌∷◌, ◌++◌, length, get_or, set, take, replicate, refl, sym, ap, ◌∙◌, subst, arith, inl, inr, ⊎_elim, get_or-set_other, get_or-set_same, length-append, ◌⊎◌}
use Rattle.std.specs.List.{Contains}
use Rattle.std.proofs.lemmas.Bool.{cases_eq}
use Rattle.std.proofs.lemmas.List.{take_more, length-set}
use Rattle.std.proofs.lemmas.List.Sums.{sum_by-set}
use Rattle.std.proofs.lemmas.List.Elements.{Contains-push_cases, Contains-push, Contains-append_left}
use Rattle.basics.specs.Items.{none_in}
use Rattle.clear_laws.specs.declared.slots.SlotSeed.{SlotSeed}
use Rattle.clear_laws.specs.Reach.{links_of, offset_at, is_on, SlotReaches, AreReachMarks, begins, along}
use Rattle.store_clear.specs.Spreading.{one_if_new, IsOne, IsSeed, IsNodeWithSlot, IsReachSpread, IsSpreading}

-- ---- one node

pub spread_old : (node : ℕ) (seen : List Bool) (stack : List ℕ) → is_on seen node ≡ true → IsReachSpread (IsOne node) seen stack seen stack
spread_old node seen stack is =
    record {
      same = refl;
      kept = λ j h. h;
      stack_kept = λ j h. h;
      all = λ j e. subst (λ x. is_on seen x ≡ true) (sym e) is;
      only = λ j h. inl h;
      stack_only = λ j h. inl h;
      less = omega arith;
    }

pub spread_new : (node : ℕ) (seen : List Bool) (stack : List ℕ) → node < length seen → is_on seen node ≡ false
    → IsReachSpread (IsOne node) seen stack (set seen node true) (stack ++ node ∷ [])
spread_new node seen stack lt is =
    record {
      same = length-set seen node true;
      kept = λ j h. ⊎_elim (λ same. subst (λ x. is_on (set seen node true) x ≡ true) (sym same) here) (λ ne. get_or-set_other seen node j true false ne ∙ h) (cases_eq j node);
      stack_kept = λ j h. Contains-append_left stack (node ∷ []) j h;
      all = λ j e. subst (λ x. is_on (set seen node true) x ≡ true) (sym e) here;
      only = λ j h.
          ⊎_elim (λ same. inr (same, subst (Contains (stack ++ node ∷ [])) (sym same) (Contains-push stack node)))
          (λ ne. inl (sym (get_or-set_other seen node j true false ne) ∙ h)) (cases_eq j node);
      stack_only = λ j h. ⊎_elim (λ h. inl h) (λ same. inr (subst (λ x. is_on (set seen node true) x ≡ true) same here)) (Contains-push_cases stack node j h);
      less = omega (arith, sum_by-set one_if_new seen node true false lt, ap one_if_new is, length-append stack (node ∷ []));
    }
  where
    here : is_on (set seen node true) node ≡ true
    here = get_or-set_same seen node true false lt

-- no mark, if no node has the property
pub spread_none : (P : ℕ → Type 0) (seen : List Bool) (stack : List ℕ) → ((j : ℕ) → P j → ⊥) → IsReachSpread P seen stack seen stack
spread_none P seen stack none =
    record {
      same = refl;
      kept = λ j h. h;
      stack_kept = λ j h. h;
      all = λ j p. absurd (none j p);
      only = λ j h. inl h;
      stack_only = λ j h. inl h;
      less = omega arith;
    }

-- equivalent properties
pub spread_as : (P Q : ℕ → Type 0) (a b : List Bool) (sa sb : List ℕ) → ((j : ℕ) → P j → Q j) → ((j : ℕ) → Q j → P j) → IsReachSpread P a sa b sb → IsReachSpread Q a sa b sb
spread_as P Q a b sa sb to from s =
    record {
      same = s.same;
      kept = s.kept;
      stack_kept = s.stack_kept;
      all = λ j q. s.all j (from j q);
      only = λ j h. ⊎_elim (λ o. inl o) (λ p. inr (to j p.0, p.1)) (s.only j h);
      stack_only = s.stack_only;
      less = s.less;
    }

-- two markings in sequence
pub spread_both : (P Q R : ℕ → Type 0) (a b c : List Bool) (sa sb sc : List ℕ) → ((j : ℕ) → P j → R j) → ((j : ℕ) → Q j → R j) → ((j : ℕ) → R j → P j ⊎ Q j)
    → IsReachSpread P a sa b sb → IsReachSpread Q b sb c sc → IsReachSpread R a sa c sc
spread_both P Q R a b c sa sb sc left right split so one =
    record {
      same = one.same ∙ so.same;
      kept = λ j h. one.kept j (so.kept j h);
      stack_kept = λ j h. one.stack_kept j (so.stack_kept j h);
      all = λ j r. ⊎_elim (λ p. one.kept j (so.all j p)) (λ q. one.all j q) (split j r);
      only = λ j h.
          ⊎_elim (λ h. ⊎_elim (λ o. inl o) (λ p. inr (left j p.0, one.stack_kept j p.1)) (so.only j h)) (λ q. inr (right j q.0, q.1)) (one.only j h);
      stack_only = λ j h. ⊎_elim (λ h. ⊎_elim (λ h. inl h) (λ m. inr (one.kept j m)) (so.stack_only j h)) (λ m. inr m) (one.stack_only j h);
      less = omega (arith, so.less, one.less);
    }

-- ---- one of a list

module _ {X : Type 0} (xs : List X) (i : ℕ) (d : X) (lt : i < length xs) where
  pub in_more : (x : X) → Contains (take i xs) x → Contains (take (i + 1) xs) x
  in_more x h = subst (λ ys. Contains ys x) (sym (take_more xs i d lt)) (Contains-append_left (take i xs) (get_or xs i d ∷ []) x h)

  pub last_in_more : Contains (take (i + 1) xs) (get_or xs i d)
  last_in_more = subst (λ ys. Contains ys (get_or xs i d)) (sym (take_more xs i d lt)) (Contains-push (take i xs) (get_or xs i d))

  pub more_cases : (x : X) → Contains (take (i + 1) xs) x → Contains (take i xs) x ⊎ (get_or xs i d ≡ x)
  more_cases x h = Contains-push_cases (take i xs) (get_or xs i d) x (subst (λ ys. Contains ys x) (take_more xs i d lt) h)

abbrev pub no_seed : SlotSeed
no_seed = record { node = 0; slot = 0 }

-- one more seed, and one more link
pub seeds_more : (seeds : List SlotSeed) (slot i : ℕ) (s d : SlotSeed) (a b c : List Bool) (sa sb sc : List ℕ) → i < length seeds → s ≡ get_or seeds i d
    → IsReachSpread (λ j. Contains (take i seeds) (record { node = j; slot = slot })) a sa b sb → IsReachSpread (IsSeed s slot) b sb c sc
    → IsReachSpread (λ j. Contains (take (i + 1) seeds) (record { node = j; slot = slot })) a sa c sc
seeds_more seeds slot i s d a b c sa sb sc lt is so one =
    spread_both (λ j. Contains (take i seeds) (record { node = j; slot = slot })) (IsSeed s slot) (λ j. Contains (take (i + 1) seeds) (record { node = j; slot = slot })) a b c sa sb sc
    (λ j h. in_more seeds i d lt (record { node = j; slot = slot }) h)
    (λ j e. subst (Contains (take (i + 1) seeds)) (sym is ∙ e) (last_in_more seeds i d lt))
    (λ j h. ⊎_elim (λ p. inl p) (λ e. inr (is ∙ e)) (more_cases seeds i d lt (record { node = j; slot = slot }) h)) so one

pub links_more : (links offsets : List ℕ) (slot i t d : ℕ) (a b c : List Bool) (sa sb sc : List ℕ) → i < length links → t ≡ get_or links i d
    → IsReachSpread (λ j. Contains (take i links) j × (slot < offset_at offsets j)) a sa b sb → IsReachSpread (IsNodeWithSlot offsets slot t) b sb c sc
    → IsReachSpread (λ j. Contains (take (i + 1) links) j × (slot < offset_at offsets j)) a sa c sc
links_more links offsets slot i t d a b c sa sb sc lt is so one =
    spread_both (λ j. Contains (take i links) j × (slot < offset_at offsets j)) (IsNodeWithSlot offsets slot t) (λ j. Contains (take (i + 1) links) j × (slot < offset_at offsets j)) a b c sa sb sc
    (λ j h. (in_more links i d lt j h.0, h.1))
    (λ j h. (subst (Contains (take (i + 1) links)) (sym (h.0 ∙ is)) (last_in_more links i d lt), h.1))
    (λ j h. ⊎_elim (λ p. inl (p, h.1)) (λ e. inr (sym e ∙ sym is, h.1)) (more_cases links i d lt j h.0)) so one

-- the links of an existing node, as read
pub read_is : (links : List (List ℕ)) (k : ℕ) (r : List ℕ) → k < length links → r ≡ get_or links k r → r ≡ links_of links k
read_is [] k r lt e = absurd (omega (arith, lt))
read_is (x ∷ links) zero r lt e = e
read_is (x ∷ links) (suc k) r lt e = read_is links k r (omega (arith, lt)) e

-- ---- all that is reached

module _ (links : List (List ℕ)) (offsets : List ℕ) (seeds : List SlotSeed) (slot : ℕ) where
  pub spreading_first : (old new : List Bool) (stack : List ℕ) → length old ≡ length offsets → ((j : ℕ) → is_on old j ≡ false)
      → IsReachSpread (λ j. Contains seeds (record { node = j; slot = slot })) old [] new stack → IsSpreading links offsets seeds slot new stack
  spreading_first old new stack size none s =
      record {
        same = s.same ∙ size;
        reached = λ j h. ⊎_elim (λ m. absurd (let e = none j in cc)) (λ p. begins j p.0) (s.only j h);
        stacked = λ j h. ⊎_elim (λ h. absurd (none_in j h)) (λ m. m) (s.stack_only j h);
        first = λ j h. s.all j h;
        rest = λ j t h l lt. ⊎_elim (λ m. absurd (let e = none j in cc)) (λ p. inl p.1) (s.only j h);
      }

  pub spreading_more : (place : ℕ) (old new : List Bool) (stack rest stack' : List ℕ) → stack ≡ rest ++ place ∷ [] → IsSpreading links offsets seeds slot old stack
      → IsReachSpread (λ t. Contains (links_of links place) t × (slot < offset_at offsets t)) old rest new stack' → IsSpreading links offsets seeds slot new stack'
  spreading_more place old new stack rest stack' e m s =
      record {
        same = s.same ∙ m.same;
        reached = λ j h. ⊎_elim (λ o. m.reached j o) (λ p. along place j (m.reached place (m.stacked place on_stack)) p.0.0 p.0.1) (s.only j h);
        stacked = λ j h. ⊎_elim (λ h. s.kept j (m.stacked j (on_rest j h))) (λ o. o) (s.stack_only j h);
        first = λ j h. s.kept j (m.first j h);
        rest = λ j t h l lt. ⊎_elim
            (λ o. ⊎_elim
            (λ h. ⊎_elim (λ h. inl (s.stack_kept j h)) (λ same. inr (s.all t (subst (λ x. Contains (links_of links x) t) (sym same) l, lt)))
            (Contains-push_cases rest place j (subst (λ xs. Contains xs j) e h)))
            (λ o. inr (s.kept t o))
            (m.rest j t o l lt))
            (λ p. inl p.1)
            (s.only j h);
      }
    where
      on_stack : Contains stack place
      on_stack = subst (λ xs. Contains xs place) (sym e) (Contains-push rest place)

      on_rest : (j : ℕ) → Contains rest j → Contains stack j
      on_rest j h = subst (λ xs. Contains xs j) (sym e) (Contains-append_left rest (place ∷ []) j h)

  all_on : (seen : List Bool) → IsSpreading links offsets seeds slot seen [] → (j : ℕ) → SlotReaches links offsets seeds slot j → is_on seen j ≡ true
  all_on seen m _ (begins j h) = m.first j h
  all_on seen m _ (along k t from l lt) = ⊎_elim (λ h. absurd (none_in k h)) (λ o. o) (m.rest k t (all_on seen m k from) l lt)

  pub are_reached : (seen : List Bool) → IsSpreading links offsets seeds slot seen [] → AreReachMarks links offsets seeds slot seen
  are_reached seen m = record { count = m.same; exact = λ k. (m.reached k, all_on seen m k) }

  pub place_inside : (place : ℕ) (seen : List Bool) (stack rest : List ℕ) → IsSpreading links offsets seeds slot seen stack → stack ≡ rest ++ place ∷ [] → place < length offsets
  place_inside place seen stack rest m e =
      let lt = on_inside seen place (m.stacked place (subst (λ xs. Contains xs place) (sym e) (Contains-push rest place))) in
      omega (arith, lt, m.same)
    where
      on_inside : (seen : List Bool) (j : ℕ) → is_on seen j ≡ true → j < length seen
      on_inside [] j e = absurd (let e' = e in cc)
      on_inside (b ∷ seen) zero e = omega arith
      on_inside (b ∷ seen) (suc j) e = omega (arith, on_inside seen j e)

  pub nothing_left : (seen : List Bool) (stack : List ℕ) → length stack ≡ 0 → IsSpreading links offsets seeds slot seen stack → IsSpreading links offsets seeds slot seen []
  nothing_left seen [] e m = m
  nothing_left seen (x ∷ stack) e m = absurd (omega (arith, e))

pub none_on : (n j : ℕ) → is_on (replicate n false) j ≡ false
none_on zero j = refl
none_on (suc n) zero = refl
none_on (suc n) (suc j) = none_on n j

-- ---- by a test

pub next_marked : (offsets : List ℕ) (slot node : ℕ) (a b : List Bool) (sa sb : List ℕ) → slot < offset_at offsets node → IsReachSpread (IsOne node) a sa b sb
    → IsReachSpread (IsNodeWithSlot offsets slot node) a sa b sb
next_marked offsets slot node a b sa sb lt =
    spread_as (IsOne node) (IsNodeWithSlot offsets slot node) a b sa sb (λ j e. (e, subst (λ x. slot < offset_at offsets x) (sym e) lt)) (λ j h. h.0)

pub next_passed : (offsets : List ℕ) (slot node : ℕ) (seen : List Bool) (stack : List ℕ) → (slot < offset_at offsets node → ⊥) → IsReachSpread (IsNodeWithSlot offsets slot node) seen stack seen stack
next_passed offsets slot node seen stack other =
    spread_none (IsNodeWithSlot offsets slot node) seen stack (λ j h. other (subst (λ x. slot < offset_at offsets x) h.0 h.1))
