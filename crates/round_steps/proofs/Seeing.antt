-- One more node is visited.
use Rattle.std.proofs.Common.{◌≡◌, ◌≢◌, sym, ap, ◌∙◌, subst, ℕ, ◌<◌, ◌≤◌, ◌⊎◌, inl, inr, ⊎_elim, List, [], ◌∷◌, ◌++◌, Option, Some, None, Result, Ok, Err, IfOk, IfErr, Contains, Bool, true, false, refl, arith}
use Rattle.std.proofs.lemmas.List.Elements.{Contains-append_left, Contains-push, Contains-push_cases}
use Rattle.std.proofs.lemmas.Bool.Decides.{nat_tests}
use Rattle.std.specs.Prelude.{if◌then◌else◌, ◌||◌, ◌&&◌, ◌==◌, nat_lt}
use Rattle.std.specs.FinMap.{get}
use Rattle.basics.specs.Items.{none_in}
use Rattle.abs_state.specs.declared.state.AbsState.{AbsState}
use Rattle.node_keys.specs.declared.keys.NodeKey.{NodeKey}
use Rattle.local_rules.specs.declared.local.NodeFault.{NodeFault}
use Rattle.local_rules.specs.declared.local.NodeFault.TheVariants.{Memory}
use Rattle.local_rules.specs.Local.{local}
use Rattle.local_rules.specs.Faults.{cause_of, fault_offset, is_less}
use Rattle.family_edges.specs.Ways.{ways_of}
use Rattle.round_rules.specs.Families.{Family}
use Rattle.round_rules.specs.Refusals.{IsFaultNoLater, word_of}
use Rattle.round_steps.specs.declared.looking.Look.{Look}
use Rattle.round_steps.specs.declared.looking.SeenState.{SeenState}
use Rattle.round_steps.specs.Looks.{IsLook, AreSeen, IsFaultSeen, IsSeenBesides, IsWorst}
use Rattle.local_rules.specs.Site.{Task}

pub later_through : (x y z : NodeFault) → IsFaultNoLater x y → IsFaultNoLater y z → IsFaultNoLater x z
later_through x y z (inl a) (inl b) = inl (omega (arith, a, b))
later_through x y z (inl a) (inr b) = inl (omega (arith, a, b.0))
later_through x y z (inr a) (inl b) = inl (omega (arith, b, a.0))
later_through x y z (inr a) (inr b) = inr (a.0 ∙ b.0, by a.1 b.1)
  where
    by : (word_of x < word_of y) ⊎ ((word_of x ≡ word_of y) × (fault_offset x ≤ fault_offset y)) → (word_of y < word_of z) ⊎ ((word_of y ≡ word_of z) × (fault_offset y ≤ fault_offset z))
        → (word_of x < word_of z) ⊎ ((word_of x ≡ word_of z) × (fault_offset x ≤ fault_offset z))
    by (inl a) (inl b) = inl (omega (arith, a, b))
    by (inl a) (inr b) = inl (omega (arith, a, b.0))
    by (inr a) (inl b) = inl (omega (arith, b, a.0))
    by (inr a) (inr b) = inr (a.0 ∙ b.0, omega (arith, a.1, b.1))

pub some_fault : (x y : NodeFault) (o : Option NodeFault) → o ≡ Some x → o ≡ Some y → x ≡ y
some_fault x y o a b = cc

-- ---- which of two faults counts

itself : (x : NodeFault) → IsFaultNoLater x x
itself x = inr (refl, inr (refl, omega arith))

worst_stays : (o : Option NodeFault) (x y : NodeFault) → o ≡ Some x → IsFaultNoLater x y → IsWorst o y x
worst_stays o x y is first = record { later = first; kept = λ z e. subst (IsFaultNoLater x) (some_fault x z o is e) (itself x); either = inr is }

worst_changes : (o : Option NodeFault) (x y : NodeFault) → o ≡ Some x → IsFaultNoLater y x → IsWorst o y y
worst_changes o x y is first = record { later = itself y; kept = λ z e. subst (IsFaultNoLater y) (some_fault x z o is e) first; either = inl refl }

less_first : (c d v w x y : ℕ) → (d ≡ c → w ≡ v) → (nat_lt c d || ((c == d) && nat_lt x y)) ≡ true → (c < d) ⊎ ((c ≡ d) × ((v < w) ⊎ ((v ≡ w) × (x ≤ y))))
less_first c d v w x y same less = grind (arith, nat_tests)

not_less_last : (c d v w x y : ℕ) → (d ≡ c → w ≡ v) → (nat_lt c d || ((c == d) && nat_lt x y)) ≡ false → (d < c) ⊎ ((d ≡ c) × ((w < v) ⊎ ((w ≡ v) × (y ≤ x))))
not_less_last c d v w x y same less = grind (arith, nat_tests)

pub worst_lesser : (o : Option NodeFault) (x y r : NodeFault) → o ≡ Some x → r ≡ (if is_less y x then y else x) → (cause_of x ≡ cause_of y → word_of x ≡ word_of y) → IsWorst o y r
worst_lesser o x y r is e same = by (is_less y x) refl e
  where
    by : (t : Bool) → is_less y x ≡ t → r ≡ (if t then y else x) → IsWorst o y r
    by true less e = subst (IsWorst o y) (sym e) (worst_changes o x y is (less_first (cause_of y) (cause_of x) (word_of y) (word_of x) (fault_offset y) (fault_offset x) same less))
    by false less e = subst (IsWorst o y) (sym e) (worst_stays o x y is (not_less_last (cause_of y) (cause_of x) (word_of y) (word_of x) (fault_offset y) (fault_offset x) same less))

some_state : (x y : AbsState) (o : Option AbsState) → o ≡ Some x → o ≡ Some y → x ≡ y
some_state x y o a b = cc

module _ (task : Task) (f : Family) where
  pub seen_none : (seen : SeenState) → seen.looks.items ≡ [] → seen.worst ≡ None → AreSeen task f [] seen
  seen_none seen looks worst = record {
    looks = λ x i. absurd (none_in x (subst (λ (l : List Look). Contains l x) looks i));
    each = λ k s i has. absurd (none_in k i);
    fault = λ x e. absurd (let never = sym worst ∙ e in cc);
  }

  -- the family has no such node
  pub seen_nothing : (keys : List NodeKey) (k : NodeKey) (seen : SeenState) → AreSeen task f keys seen → get f k ≡ None → AreSeen task f (keys ++ k ∷ []) seen
  seen_nothing keys k seen are none = record {
    looks = are.looks;
    each = λ q t i has. ⊎_elim (λ j. are.each q t j has) (λ e. let at = ap (get f) e in absurd (let never = sym none ∙ at ∙ has in cc)) (Contains-push_cases keys k q i);
    fault = are.fault;
  }

  module _ (keys : List NodeKey) (k : NodeKey) (s : AbsState) (old new : SeenState) (are : AreSeen task f keys old) (has : get f k ≡ Some s) where
    look_more : (x : Look) → x.key ≡ k → local task k s ≡ Ok x.part → x.ways.items ≡ ways_of task k x.part.calls → new.looks.items ≡ old.looks.items ++ x ∷ []
        → new.worst ≡ old.worst → AreSeen task f (keys ++ k ∷ []) new
    look_more x key leads entered looks worst =
        let this : IsLook task f x = record {
          state = s;
          has = subst (λ (q : NodeKey). get f q ≡ Some s) (sym key) has;
          leads = subst (λ (q : NodeKey). local task q s ≡ Ok x.part) (sym key) leads;
          entered = subst (λ (q : NodeKey). x.ways.items ≡ ways_of task q x.part.calls) (sym key) entered;
        } in
        let member : (y : Look) → Contains (old.looks.items ++ x ∷ []) y → Contains new.looks.items y = λ y i. subst (λ (l : List Look). Contains l y) (sym looks) i in
        record {
          looks = λ y i. ⊎_elim (are.looks y) (λ e. subst (IsLook task f) e this)
              (Contains-push_cases old.looks.items x y (subst (λ (l : List Look). Contains l y) looks i));
          each = λ q t i there. ⊎_elim
              (λ j. ⊎_elim
              (λ h. inl (record { look = h.look; member = member h.look (Contains-append_left old.looks.items (x ∷ []) h.look h.member); at = h.at }))
              (λ h. inr (record { fault = h.fault; is = h.is; first = h.first; found = worst ∙ h.found; no_later = h.no_later }))
              (are.each q t j there))
              (λ e. inl (record { look = x; member = member x (Contains-push old.looks.items x); at = key ∙ e }))
              (Contains-push_cases keys k q i);
          fault = λ y e. are.fault y (sym worst ∙ e);
        }

    fault_more : (e : NodeFault) → local task k s ≡ Err e → IsFaultSeen old e new → AreSeen task f (keys ++ k ∷ []) new
    fault_more e is b = record {
      looks = λ y i. are.looks y (subst (λ (l : List Look). Contains l y) b.looks i);
      each = λ q t i there. ⊎_elim
          (λ j. ⊎_elim
          (λ h. inl (record { look = h.look; member = subst (λ (l : List Look). Contains l h.look) (sym b.looks) h.member; at = h.at }))
          (λ h. inr (record { fault = h.fault; is = h.is; first = b.worst; found = b.is; no_later = later_through b.worst h.first h.fault (b.of.kept h.first h.found) h.no_later }))
          (are.each q t j there))
          (λ same. inr (record {
            fault = e;
            is = ap (λ (z : NodeKey). local task z t) (sym same) ∙ ap (local task k) (some_state t s (get f k) (ap (get f) same ∙ there) has) ∙ is;
            first = b.worst;
            found = b.is;
            no_later = b.of.later;
          }))
          (Contains-push_cases keys k q i);
      fault = λ y at. let worst = some_fault b.worst y new.worst b.is at in
          ⊎_elim (λ this. record { node = record { key = k; state = s }; has = has; is = is ∙ ap Err (sym this ∙ worst) })
          (λ before. are.fault y (before ∙ ap Some worst)) b.of.either;
    }

    pub seen_more : (found : Result Look NodeFault) → IfOk found (λ x. x.key ≡ k) → IfOk found (λ x. local task k s ≡ Ok x.part)
        → IfOk found (λ x. x.ways.items ≡ ways_of task k x.part.calls) → IfErr found (λ e. e ≢ Memory → local task k s ≡ Err e) → IsSeenBesides found old new
        → AreSeen task f (keys ++ k ∷ []) new
    seen_more (Ok x) key leads entered fault b = look_more x key leads entered b.0 b.1
    seen_more (Err e) key leads entered fault b = fault_more e (fault b.real) b
