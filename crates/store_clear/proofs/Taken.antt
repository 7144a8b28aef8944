-- Marked words of vectors.
use Rattle.std.proofs.Common.{◌≡◌, refl, sym, ap, ◌∙◌, subst, ℕ, ◌+◌, ◌<◌, ◌≤◌, ◌⊎◌, inl, inr, ⊎_elim, Bool, true, false, not, List, length, set, replicate, get_or-set_other, get_or-set_same, Some, slice_get, Contains, arith}
use Rattle.std.proofs.lemmas.Bool.{cases_eq, and_parts, and_from, not-true}
use Rattle.std.proofs.lemmas.Bool.Decides.{nat_tests}
use Rattle.std.proofs.lemmas.List.{length-set}
use Rattle.std.proofs.lemmas.Option.{slice_get_within}
use Rattle.basics.specs.Booleans.{never_both}
use Rattle.basics.specs.Items.{place_of_contained, contained_at}
use Rattle.basics.specs.Lists.{one_at}
use Rattle.basics.specs.Numbers.{before_or_last}
use Rattle.store_clear.proofs.Marks.{none_on}
use Rattle.avr_model.proofs.AllLaws.{devices_are_alike}
use Rattle.avr_model.specs.declared.device.Device.{Device}
use Rattle.avr_model.specs.Assumptions.{is_never}
use Rattle.avr_model.specs.Devices.{device_of}
use Rattle.avr_model.specs.Image.{WORDS}
use Rattle.avr_model.specs.Vectors.{is_enabled, last_vector, enable_count, vector_word}
use Rattle.node_keys.specs.declared.keys.NodeKey.{NodeKey}
use Rattle.local_rules.specs.declared.local.Node.{Node}
use Rattle.edge_rules.specs.Expansion.{IsFilled}
use Rattle.certificate.specs.Claims.{Claim}
use Rattle.clear_laws.specs.Clear.{MayBeTaken}
use Rattle.clear_laws.specs.Reach.{is_on}
use Rattle.clear_laws.specs.Verdict.{AreNevers}
use Rattle.store_clear.specs.Conditions.{places_of}
use Rattle.store_clear.specs.Takes.{AreMarkedBeside, is_take, IsTakenBelow, may_take, IsTakenFrom, IsTakenAt}
use Rattle.store_clear.proofs.Marked.{placed, placing, ascending}
use Rattle.local_rules.specs.Site.{Task}

-- an enabled vector is one of the device's
enabled_bounds : (device : Device) (m v : ℕ) → is_enabled device m v ≡ true → (2 ≤ v) × (v < enable_count device + 2)
unfolding is_enabled
enabled_bounds device m v e = let some = devices_are_alike.some_vector device in (grind (arith, nat_tests), grind (arith, nat_tests))

-- ---- marks

pub marks_none : (P : ℕ → Type 0) (xs : List Bool) → ((w : ℕ) → P w → ⊥) → AreMarkedBeside P xs xs
marks_none P xs none = record { same = refl; exact = λ w. (λ h. inl h, λ h. ⊎_elim (λ o. o) (λ p. absurd (none w p)) h) }

pub marks_one : (at : ℕ) (xs : List Bool) → at < length xs → AreMarkedBeside (λ w. w ≡ at) xs (set xs at true)
marks_one at xs lt = record { same = length-set xs at true; exact = λ w. (down w, up w) }
  where
    on_here : (w : ℕ) → w ≡ at → is_on (set xs at true) w ≡ true
    on_here w e = subst (λ x. is_on (set xs at true) x ≡ true) (sym e) (get_or-set_same xs at true false lt)

    down : (w : ℕ) → is_on (set xs at true) w ≡ true → (is_on xs w ≡ true) ⊎ (w ≡ at)
    down w h = ⊎_elim (λ e. inr e) (λ ne. inl (sym (get_or-set_other xs at w true false ne) ∙ h)) (cases_eq w at)

    up : (w : ℕ) → (is_on xs w ≡ true) ⊎ (w ≡ at) → is_on (set xs at true) w ≡ true
    up w h = ⊎_elim (λ o. ⊎_elim (λ e. on_here w e) (λ ne. get_or-set_other xs at w true false ne ∙ o) (cases_eq w at)) (λ e. on_here w e) h

pub marks_both : (P Q R : ℕ → Type 0) (a b c : List Bool) → ((w : ℕ) → P w → R w) → ((w : ℕ) → Q w → R w) → ((w : ℕ) → R w → P w ⊎ Q w) → AreMarkedBeside P a b → AreMarkedBeside Q b c → AreMarkedBeside R a c
marks_both P Q R a b c left right split m n =
    record {
      same = n.same ∙ m.same;
      exact = λ w. (
        λ h. ⊎_elim (λ o. ⊎_elim (λ o. inl o) (λ p. inr (left w p)) ((m.exact w).0 o)) (λ q. inr (right w q)) ((n.exact w).0 h),
        λ h. ⊎_elim (λ o. (n.exact w).1 (inl ((m.exact w).1 (inl o))))
            (λ r. ⊎_elim (λ p. (n.exact w).1 (inl ((m.exact w).1 (inr p)))) (λ q. (n.exact w).1 (inr q)) (split w r)) h,
      );
    }

pub marks_as : (P Q : ℕ → Type 0) (a b : List Bool) → ((w : ℕ) → P w → Q w) → ((w : ℕ) → Q w → P w) → AreMarkedBeside P a b → AreMarkedBeside Q a b
marks_as P Q a b to from m =
    record {
      same = m.same;
      exact = λ w. (λ h. ⊎_elim (λ o. inl o) (λ p. inr (to w p)) ((m.exact w).0 h), λ h. ⊎_elim (λ o. (m.exact w).1 (inl o)) (λ q. (m.exact w).1 (inr (from w q))) h);
    }

-- ---- the vectors of a node

module _ (task : Task) (k : NodeKey) where
  abbrev This : ℕ → ℕ → Type 0
  This v w = (is_take task k v ≡ true) × (vector_word (device_of task.flash) v ≡ w)

  pub vectors_none : (marks : List Bool) → AreMarkedBeside (IsTakenBelow task k 0) marks marks
  vectors_none marks = marks_none (IsTakenBelow task k 0) marks (λ w t. two_or_more t.vector (let lt = t.below in omega (arith, lt)) t.take)
    where
      two_or_more : (v : ℕ) → v < 2 → is_take task k v ≡ true → ⊥
      two_or_more v lt e =
          let parts = and_parts (is_enabled (device_of task.flash) k.masks v) (is_never task.assumptions (vector_word (device_of task.flash) v)) e in
          let bounds = enabled_bounds (device_of task.flash) k.masks v parts.0 in omega (arith, lt, bounds.0)

  module _ (n : ℕ) (old mid : List Bool) (le : n + 2 ≤ last_vector (device_of task.flash)) (so : AreMarkedBeside (IsTakenBelow task k n) old mid) where
    with_it : (new : List Bool) → AreMarkedBeside (This (n + 2)) mid new → AreMarkedBeside (IsTakenBelow task k (n + 1)) old new
    with_it new one =
        marks_both (IsTakenBelow task k n) (This (n + 2)) (IsTakenBelow task k (n + 1)) old mid new
        (λ w t. record { vector = t.vector; below = let lt = t.below in omega (arith, lt); take = t.take; is = t.is })
        (λ w t. record { vector = n + 2; below = omega arith; take = t.0; is = t.1 })
        (λ w t. ⊎_elim (λ lt. inl (record { vector = t.vector; below = lt; take = t.take; is = t.is }))
        (λ e. inr (subst (λ v. is_take task k v ≡ true) e t.take, subst (λ v. vector_word (device_of task.flash) v ≡ w) e t.is))
        (before_or_last t.vector (n + 2) (let lt = t.below in omega (arith, lt))))
        so one

    abbrev word : ℕ
    word = vector_word (device_of task.flash) (n + 2)

    pub vectors_more : length mid ≡ WORDS → is_take task k (n + 2) ≡ true → AreMarkedBeside (IsTakenBelow task k (n + 1)) old (set mid word true)
    vectors_more all e =
        let lt : word < length mid =
        let inside = devices_are_alike.vectors (device_of task.flash) (n + 2) le in
        let most = devices_are_alike.most_words (device_of task.flash) in
        omega (arith, inside, most, all) in
        with_it (set mid word true) (marks_as (λ w. w ≡ word) (This (n + 2)) mid _ (λ w same. (e, sym same)) (λ w t. sym t.1) (marks_one word mid lt))

    pub vectors_same : is_take task k (n + 2) ≡ false → AreMarkedBeside (IsTakenBelow task k (n + 1)) old mid
    vectors_same e = with_it mid (marks_none (This (n + 2)) mid (λ w t. never_both (is_take task k (n + 2)) t.0 e))

-- ---- all nodes

module _ (task : Task) (nodes : List Node) where
  pub takes_none : (marks : List Bool) → AreMarkedBeside (IsTakenAt task nodes 0) marks marks
  takes_none marks = marks_none (IsTakenAt task nodes 0) marks (λ w t. let lt = t.below in omega (arith, lt))

  takes_more : (at : ℕ) (n : Node) (k : NodeKey) (old mid new : List Bool) → slice_get nodes at ≡ Some n → n.key ≡ k → AreMarkedBeside (IsTakenAt task nodes at) old mid
      → AreMarkedBeside (IsTakenFrom task k) mid new → AreMarkedBeside (IsTakenAt task nodes (at + 1)) old new
  takes_more at n k old mid new is key so one =
      marks_both (IsTakenAt task nodes at) (IsTakenFrom task k) (IsTakenAt task nodes (at + 1)) old mid new
      (λ w t. record { at = t.at; node = t.node; below = let lt = t.below in omega (arith, lt); is = t.is; taken = t.taken })
      (λ w t. record { at = at; node = n; below = omega arith; is = is; taken = subst (λ (x : NodeKey). IsTakenFrom task x w) (sym key) t })
      split so one
    where
      split : (w : ℕ) → IsTakenAt task nodes (at + 1) w → IsTakenAt task nodes at w ⊎ IsTakenFrom task k w
      split w t =
          ⊎_elim (λ lt. inl (record { at = t.at; node = t.node; below = lt; is = t.is; taken = t.taken }))
          (λ e.
          let same : t.node ≡ n = one_at nodes at t.node n (subst (λ i. slice_get nodes i ≡ Some t.node) e t.is) is in
          inr (subst (λ (x : NodeKey). IsTakenFrom task x w) (ap (λ (x : Node). x.key) same ∙ key) t.taken))
          (before_or_last t.at at t.below)

  module _ (at : ℕ) (n : Node) (k : NodeKey) (old mid : List Bool) (is : slice_get nodes at ≡ Some n) (key : n.key ≡ k) (so : AreMarkedBeside (IsTakenAt task nodes at) old mid) where
    pub takes_marked : (new : List Bool) → may_take k ≡ true → AreMarkedBeside (IsTakenBelow task k (enable_count (device_of task.flash))) mid new → AreMarkedBeside (IsTakenAt task nodes (at + 1)) old new
    takes_marked new e one =
        takes_more at n k old mid new is key so (marks_as (IsTakenBelow task k (enable_count (device_of task.flash))) (IsTakenFrom task k) mid new (λ w t. (e, t)) (λ w t. t.1) one)

    pub takes_same : may_take k ≡ false → AreMarkedBeside (IsTakenAt task nodes (at + 1)) old mid
    takes_same e = takes_more at n k old mid mid is key so (marks_none (IsTakenFrom task k) mid (λ w t. never_both (may_take k) t.0 e))

-- ---- the list

module _ (task : Task) (c : Claim) (nodes : List Node) (filled : IsFilled task c.nodes nodes) (old new : List Bool) (many : ℕ) (none : old ≡ replicate many false)
    (marked : AreMarkedBeside (IsTakenAt task nodes (length nodes)) old new) where
  down : (w : ℕ) → Contains (places_of new) w → MayBeTaken task nodes w
  down w h =
      let p = placed 0 new w h in
      let on : is_on new w ≡ true = subst (λ x. is_on new x ≡ true) (let e = p.1.0 in omega (arith, e)) p.1.1 in
      ⊎_elim (λ o. absurd (let no : true ≡ false = sym o ∙ (ap (λ (bs : List Bool). is_on bs w) none ∙ none_on many w) in cc)) (taken w) ((marked.exact w).0 on)
    where
      taken : (w : ℕ) → IsTakenAt task nodes (length nodes) w → MayBeTaken task nodes w
      taken w t =
          let may = and_parts t.node.key.i (not t.node.key.delay) t.taken.0 in
          let take = and_parts (is_enabled (device_of task.flash) t.node.key.masks t.taken.1.vector) (is_never task.assumptions (vector_word (device_of task.flash) t.taken.1.vector)) t.taken.1.take in
          record {
            never = subst (λ x. is_never task.assumptions x ≡ true) t.taken.1.is take.1;
            node = t.node;
            present = contained_at nodes t.at t.node t.is;
            i = may.0;
            delay = not-true t.node.key.delay may.1;
            vector = t.taken.1.vector;
            enabled = take.0;
            is = t.taken.1.is;
          }

  up : (w : ℕ) → MayBeTaken task nodes w → Contains (places_of new) w
  up w m =
      let p = place_of_contained nodes m.node m.present in
      let on =
      (marked.exact w).1
      (inr (record {
        at = p.0;
        node = m.node;
        below = slice_get_within nodes p.0 m.node p.1;
        is = p.1;
        taken = (
          and_from m.node.key.i (not m.node.key.delay) m.i (ap not m.delay),
          record {
            vector = m.vector;
            below = (enabled_bounds (device_of task.flash) m.node.key.masks m.vector m.enabled).1;
            take = and_from (is_enabled (device_of task.flash) m.node.key.masks m.vector) (is_never task.assumptions (vector_word (device_of task.flash) m.vector)) m.enabled (subst (λ x. is_never task.assumptions x ≡ true) (sym m.is) m.never);
            is = m.is;
          },
        );
      })) in
      subst (Contains (places_of new)) (let same : 0 + w ≡ w = omega arith in same) (placing 0 new w on)

  pub are_nevers : AreNevers task c (places_of new)
  are_nevers = record { nodes = nodes; expanded = filled; ascending = ascending 0 new; exact = λ w. (down w, up w) }

pub nevers_given : (task : Task) (c : Claim) (nodes : List Node) → IsFilled task c.nodes nodes → (old first new last : List Bool) (many : ℕ) (nevers : List ℕ)
    → old ≡ replicate many false → first ≡ old → AreMarkedBeside (IsTakenAt task nodes (length nodes)) first new → last ≡ new → nevers ≡ places_of last → AreNevers task c nevers
nevers_given task c nodes filled old first new last many nevers none begins marked ends are =
    subst (AreNevers task c) (sym (are ∙ ap places_of ends)) (are_nevers task c nodes filled first new many (begins ∙ none) marked)
