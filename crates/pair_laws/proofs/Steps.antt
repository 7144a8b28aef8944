-- A cut of one pair of a state, and two cuts in sequence.
use Rattle.std.proofs.lemmas.Grind.{elements}
use Rattle.std.proofs.Common.{◌≡◌, ◌≢◌, refl, sym, ◌∙◌, ap, subst, ℕ, ◌+◌, ◌*◌, ◌<◌, ◌⊎◌, inl, inr, List, length, Option, Some, None, slice_set, length-set, arith}
use Rattle.std.proofs.lemmas.Bool.{cases_eq}
use Rattle.std.specs.Prelude.{⊤}
use Rattle.avr_model.specs.Sreg.{flag}
use Rattle.avr_model.specs.State.{State, register}
use Rattle.sp_domain.specs.declared.slots.Slot.{Slot}
use Rattle.sp_domain.specs.Slots.{slot_at}
use Rattle.sp_domain.specs.Tags.{LessHolds}
use Rattle.pair_domain.specs.declared.intervals.Interval.{Interval}
use Rattle.pair_domain.specs.declared.facts.PairFacts.{PairFacts}
use Rattle.pair_domain.specs.Intervals.{IsIntervalWithin, hull}
use Rattle.pair_domain.specs.Facts.{interval_at, HasSixteen}
use Rattle.pair_domain.specs.PairSets.{PairSet}
use Rattle.pair_domain.specs.NarrowLaws.{IsCut, IsMonotone}
use Rattle.abs_state.specs.declared.values.AbsByte.{AbsByte}
use Rattle.abs_state.specs.declared.values.AbsFlags.{AbsFlags}
use Rattle.abs_state.specs.declared.state.AbsState.{AbsState}
use Rattle.abs_state.specs.Values.{value_at, valued, set_of}
use Rattle.abs_state.specs.Stands.{FlagsStand, SlotsStand}
use Rattle.abs_state.specs.Order.{IsStateWithin}
use Rattle.abs_state.specs.Formed.{TagFits, SlotFits, TagsFit, SlotIsUntagged, CarryIsUntagged, IsUntagged, IsWhole, IsFormed}
use Rattle.abs_state.specs.Cuts.{pair_of, pair_set, with_pair, cut_known, cut_state}
use Rattle.abs_state.proofs.AllLaws.{states_are_ordered, joins_are_formed, states_are_cut}
use Rattle.abs_state.specs.Hulls.{AreInHulls, IsInHulls}
use Rattle.pair_cuts.specs.Places.{after}
use Rattle.pair_laws.specs.CutLaws.{IsLeftOf, KeepsMachine, LeavesLess}

-- ---- registers and intervals with one written

pub value_there : (vs : List AbsByte) (d : ℕ) (v : AbsByte) → d < length vs → value_at (slice_set vs d v) d ≡ v
value_there vs d v lt = grind (arith, elements)

pub value_other : (vs : List AbsByte) (d r : ℕ) (v : AbsByte) → r ≢ d → value_at (slice_set vs d v) r ≡ value_at vs r
value_other vs d r v ne = grind (arith, elements)

pub interval_there : (is : List Interval) (n : ℕ) (i : Interval) → n < length is → interval_at (slice_set is n i) n ≡ i
interval_there is n i lt = grind (arith, elements)

pub interval_other : (is : List Interval) (n k : ℕ) (i : Interval) → k ≢ n → interval_at (slice_set is n i) k ≡ interval_at is k
interval_other is n k i ne = grind (arith, elements)

-- a register with a value of the same tag
pub tag_set : (vs : List AbsByte) (d r : ℕ) (v : AbsByte) → v.tag ≡ (value_at vs d).tag → d < length vs → (value_at (slice_set vs d v) r).tag ≡ (value_at vs r).tag
tag_set vs d r v same lt = by (cases_eq r d)
  where
    by : (r ≡ d) ⊎ (r ≡ d → ⊥) → (value_at (slice_set vs d v) r).tag ≡ (value_at vs r).tag
    by (inl e) =
        let P : ℕ → Type 0 = λ k. (value_at (slice_set vs d v) k).tag ≡ (value_at vs k).tag in
        subst P (sym e) (ap (λ (w : AbsByte). w.tag) (value_there vs d v lt) ∙ same)
    by (inr ne) = ap (λ (w : AbsByte). w.tag) (value_other vs d r v ne)

module _ (vs : List AbsByte) (n : ℕ) (p : PairSet) (count : length vs ≡ 34) (lt : n < 16) where
  abbrev first : AbsByte
  first = valued (value_at vs (2 * n)).tag p.low

  abbrev second : AbsByte
  second = valued (value_at vs (2 * n + 1)).tag p.high

  pub low_there : value_at (pair_set vs n p) (2 * n) ≡ first
  low_there = value_other (slice_set vs (2 * n) first) (2 * n + 1) (2 * n) second (omega arith) ∙ value_there vs (2 * n) first (omega (arith, lt, count))

  pub high_there : value_at (pair_set vs n p) (2 * n + 1) ≡ second
  high_there = value_there (slice_set vs (2 * n) first) (2 * n + 1) second (omega (arith, lt, count, length-set vs (2 * n) first))

  pub rest_there : (r : ℕ) → r ≢ 2 * n → r ≢ 2 * n + 1 → value_at (pair_set vs n p) r ≡ value_at vs r
  rest_there r low high = value_other (slice_set vs (2 * n) first) (2 * n + 1) r second high ∙ value_other vs (2 * n) r first low

  pair_tags : (r : ℕ) → (value_at (pair_set vs n p) r).tag ≡ (value_at vs r).tag
  pair_tags r =
      tag_set (slice_set vs (2 * n) first) (2 * n + 1) r second (sym (ap (λ (w : AbsByte). w.tag) (value_other vs (2 * n) (2 * n + 1) first (omega arith))))
      (omega (arith, lt, count, length-set vs (2 * n) first))
      ∙ tag_set vs (2 * n) r first refl (omega (arith, lt, count))

abbrev pub pair_state : AbsState → PairFacts → ℕ → PairSet → AbsState
pair_state s f n p = record s { registers = pair_set s.registers n p; facts = Some (record f { intervals = slice_set f.intervals n p.interval }) }

pub with_was : (s t : AbsState) (f : PairFacts) (n : ℕ) (o : Option PairSet) → with_pair s f n o ≡ Some t → (p : PairSet) × ((o ≡ Some p) × (pair_state s f n p ≡ t))
with_was s t f n None e = absurd (cc)
with_was s t f n (Some p) e = (p, (refl, cc))

-- ---- what a cut leaves as it was

record KeepsRest (s t : AbsState) : Type 0 where
  flags : t.flags ≡ s.flags
  slots : t.slots ≡ s.slots
  tags : (r : ℕ) → (value_at t.registers r).tag ≡ (value_at s.registers r).tag

rest_known : (cut : PairSet → Option PairSet) (s t : AbsState) (n : ℕ) → IsWhole s → n < 16 → (x : Option PairFacts) → cut_known cut s n x ≡ Some t → KeepsRest s t
rest_known cut s t n whole lt None e = let same : s ≡ t = cc in subst (KeepsRest s) same (record { flags = refl; slots = refl; tags = λ r. refl })
rest_known cut s t n whole lt (Some f) e =
    let was = with_was s t f n (cut (pair_of s.registers f.intervals n)) e in
    subst (KeepsRest s) was.1.1 (record { flags = refl; slots = refl; tags = pair_tags s.registers n was.0 whole.registers lt })

fit_by : (s t : AbsState) → KeepsRest s t → TagsFit s → TagsFit t
fit_by s t rest fit = record {
  registers = λ r lt. subst TagFits (sym (rest.tags r)) (fit.registers r lt);
  slots = subst (λ (ss : List (Slot AbsByte)). (d : ℕ) → d < length ss → SlotFits (slot_at ss d)) (sym rest.slots) fit.slots;
}

untagged_by : (s t : AbsState) → KeepsRest s t → IsUntagged s → IsUntagged t
untagged_by s t rest none = record {
  registers = λ r lt. rest.tags r ∙ none.registers r lt;
  entry = ap (λ (f : AbsFlags). f.entry) rest.flags ∙ none.entry;
  carry = subst (λ (f : AbsFlags). CarryIsUntagged f.carry) (sym rest.flags) none.carry;
  slots = subst (λ (ss : List (Slot AbsByte)). (d : ℕ) → d < length ss → SlotIsUntagged (slot_at ss d)) (sym rest.slots) none.slots;
}

-- ---- hulls

-- what a cut of a pair leaves is in its hull
abbrev pub EndsInHull : (PairSet → Option PairSet) → Type 0
EndsInHull cut = (p m : PairSet) → cut p ≡ Some m → IsIntervalWithin m.interval (hull m.low m.high)

abbrev IsInHull : Interval → AbsByte → AbsByte → Type 0
IsInHull i v w = IsIntervalWithin i (hull (set_of v) (set_of w))

in_hull : (i j : Interval) (v v' w w' : AbsByte) → i ≡ j → v ≡ v' → w ≡ w' → IsInHull j v' w' → IsInHull i v w
in_hull i j v v' w w' p q r h =
    subst (λ (k : Interval). IsInHull k v w) (sym p) (subst (λ (x : AbsByte). IsInHull j x w) (sym q) (subst (λ (x : AbsByte). IsInHull j v' x) (sym r) h))

-- all intervals but that of one pair lie in their hulls
abbrev pub OthersInHulls : ℕ → List AbsByte → Option PairFacts → Type 0
OthersInHulls n registers None = ⊤
OthersInHulls n registers (Some f) =
    (k : ℕ) → k < 16 → k ≢ n → IsIntervalWithin (interval_at f.intervals k) (hull (set_of (value_at registers (2 * k))) (set_of (value_at registers (2 * k + 1))))

pub others_in : (n : ℕ) (registers : List AbsByte) (x : Option PairFacts) → AreInHulls registers x → OthersInHulls n registers x
others_in n registers None h = tt
others_in n registers (Some f) h = λ k small ne. h k small

hulls_known : (cut : PairSet → Option PairSet) (s t : AbsState) (n : ℕ) → IsWhole s → n < 16 → EndsInHull cut → (x : Option PairFacts) → s.facts ≡ x → HasSixteen x
    → cut_known cut s n x ≡ Some t → OthersInHulls n s.registers x → IsInHulls t
hulls_known cut s t n whole lt ends None is count e h =
    let same : s ≡ t = cc in
    let P : Option PairFacts → Type 0 = λ x. AreInHulls s.registers x in
    subst IsInHulls same (subst P (sym is) tt)
hulls_known cut s t n whole lt ends (Some f) is count e h =
    let was = with_was s t f n (cut (pair_of s.registers f.intervals n)) e in
    let p = was.0 in
    let inside = ends (pair_of s.registers f.intervals n) p was.1.0 in
    subst IsInHulls was.1.1 (λ k small. at p inside k small (cases_eq k n))
  where
    at : (p : PairSet) → IsIntervalWithin p.interval (hull p.low p.high) → (k : ℕ) → k < 16 → (k ≡ n) ⊎ (k ≡ n → ⊥)
        → IsInHull (interval_at (slice_set f.intervals n p.interval) k) (value_at (pair_set s.registers n p) (2 * k)) (value_at (pair_set s.registers n p) (2 * k + 1))
    at p inside k small (inl same) =
        let P : ℕ → Type 0 = λ j.
        IsInHull (interval_at (slice_set f.intervals n p.interval) j) (value_at (pair_set s.registers n p) (2 * j)) (value_at (pair_set s.registers n p) (2 * j + 1)) in
        subst P (sym same)
        (in_hull _ p.interval _ (valued (value_at s.registers (2 * n)).tag p.low) _ (valued (value_at s.registers (2 * n + 1)).tag p.high)
        (interval_there f.intervals n p.interval (omega (arith, lt, count))) (low_there s.registers n p whole.registers lt) (high_there s.registers n p whole.registers lt) inside)
    at p inside k small (inr ne) =
        in_hull _ (interval_at f.intervals k) _ (value_at s.registers (2 * k)) _ (value_at s.registers (2 * k + 1)) (interval_other f.intervals n k p.interval ne)
        (rest_there s.registers n p whole.registers lt (2 * k) (omega (arith, ne)) (omega arith)) (rest_there s.registers n p whole.registers lt (2 * k + 1) (omega arith) (omega (arith, ne))) (h k small ne)

-- ---- a cut of one pair

-- cuts are monotone in the state and in the cut
abbrev pub LeavesMoreBy : (AbsState → Option AbsState) → (AbsState → Option AbsState) → Type 0
LeavesMoreBy cut cut' =
    (s s' t : AbsState) (offset : ℕ) → IsFormed s offset → IsFormed s' offset → IsStateWithin s s' → cut s ≡ Some t
    → (t' : AbsState) × ((cut' s' ≡ Some t') × IsStateWithin t t')

module _ (n : ℕ) (lt : n < 16) where
  pub state_keeps : (cut : PairSet → Option PairSet) (P : ℕ → ℕ → Type 0) → IsCut P cut → (m : State) → P (register m (2 * n)) (register m (2 * n + 1))
      → KeepsMachine m (λ s. cut_state cut s n)
  state_keeps cut P is m holds o s offset a h =
      let whole = joins_are_formed.whole s offset a in
      let k =
      states_are_cut.keeps cut o s n m.registers m.sreg whole lt (λ p stand. is.keeps p (register m (2 * n)) (register m (2 * n + 1)) stand holds) h.stands.registers h.facts in
      let rest = rest_known cut s k.0 n whole lt s.facts k.1 in (
        k.0,
        (
          k.1,
          record {
            stands = record {
              registers = k.2;
              flags = subst (λ (f : AbsFlags). FlagsStand o f m.sreg) (sym rest.flags) h.stands.flags;
              less = subst (λ (f : AbsFlags). LessHolds m.registers f.carry (flag m.sreg 0)) (sym rest.flags) h.stands.less;
              slots = subst (λ (ss : List (Slot AbsByte)). SlotsStand o m.memory ss) (sym rest.slots) h.stands.slots;
            };
            facts = k.3;
          },
        ),
      )

  pub state_hulls : (cut : PairSet → Option PairSet) → EndsInHull cut → (s t : AbsState) (offset : ℕ) → IsFormed s offset → OthersInHulls n s.registers s.facts
      → cut_state cut s n ≡ Some t → IsInHulls t
  state_hulls cut ends s t offset a h e =
      let whole = joins_are_formed.whole s offset a in hulls_known cut s t n whole lt ends s.facts refl whole.pairs e h

  pub state_leaves : (cut : PairSet → Option PairSet) (P : ℕ → ℕ → Type 0) → IsCut P cut → EndsInHull cut → LeavesLess (λ s. cut_state cut s n)
  state_leaves cut P is ends s t offset a e =
      let whole = joins_are_formed.whole s offset a in
      let rest = rest_known cut s t n whole lt s.facts e in
      record {
        within = states_are_cut.under cut s t n whole lt is.under e;
        formed = states_are_cut.formed cut s t n offset lt is.fits a e;
        tags = rest.tags;
        entry = ap (λ (f : AbsFlags). f.entry) rest.flags;
        carry = ap (λ (f : AbsFlags). f.carry) rest.flags;
        slots = rest.slots;
        fit = fit_by s t rest;
        untagged = untagged_by s t rest;
        of = λ good device is_root h. states_are_cut.of cut good device is_root s t n whole lt h e;
        hulls = λ h. state_hulls cut ends s t offset a (others_in n s.registers s.facts h) e;
      }

  pub state_more : (cut cut' : PairSet → Option PairSet) (P : ℕ → ℕ → Type 0) → IsCut P cut → IsMonotone cut cut' → LeavesMoreBy (λ s. cut_state cut s n) (λ s. cut_state cut' s n)
  state_more cut cut' P is more s s' t offset a b le e =
      let k =
      states_are_cut.more cut cut' s s' t n (joins_are_formed.whole s offset a) (joins_are_formed.whole s' offset b) lt is.under more le e in
      (k.0, (k.1, k.2))

-- ---- one after another

pub after_was : (o : Option AbsState) (cut : AbsState → Option AbsState) (t : AbsState) → after o cut ≡ Some t → (u : AbsState) × ((o ≡ Some u) × (cut u ≡ Some t))
after_was None cut t e = absurd (cc)
after_was (Some u) cut t e = (u, (refl, e))

pub after_some : (o : Option AbsState) (cut : AbsState → Option AbsState) (u : AbsState) (v : Option AbsState) → o ≡ Some u → cut u ≡ v → after o cut ≡ v
after_some o cut u v p q = ap (λ (x : Option AbsState). after x cut) p ∙ q

-- the state itself is a possible result
pub left_same : (s : AbsState) (offset : ℕ) → IsFormed s offset → IsLeftOf s s offset
left_same s offset a = record {
  within = states_are_ordered.same s;
  formed = a;
  tags = λ r. refl;
  entry = refl;
  carry = refl;
  slots = refl;
  fit = λ h. h;
  untagged = λ h. h;
  of = λ good device is_root h. h;
  hulls = λ h. h;
}

pub left_through : (s t u : AbsState) (offset : ℕ) → IsLeftOf s t offset → IsLeftOf t u offset → IsLeftOf s u offset
left_through s t u offset a b = record {
  within = states_are_ordered.through u t s b.within a.within;
  formed = b.formed;
  tags = λ r. b.tags r ∙ a.tags r;
  entry = b.entry ∙ a.entry;
  carry = b.carry ∙ a.carry;
  slots = b.slots ∙ a.slots;
  fit = λ h. b.fit (a.fit h);
  untagged = λ h. b.untagged (a.untagged h);
  of = λ good device is_root h. b.of good device is_root (a.of good device is_root h);
  hulls = λ h. b.hulls (a.hulls h);
}

pub nothing_keeps : (m : State) → KeepsMachine m (λ s. Some s)
nothing_keeps m o s offset a h = (s, (refl, h))

pub nothing_leaves : LeavesLess (λ s. Some s)
nothing_leaves s t offset a e = let same : s ≡ t = cc in subst (λ (u : AbsState). IsLeftOf s u offset) same (left_same s offset a)

-- each cut is below the one that leaves all
pub nothing_more : (cut : AbsState → Option AbsState) → LeavesLess cut → LeavesMoreBy cut (λ s. Some s)
nothing_more cut leaves s s' t offset a b le e = (s', (refl, states_are_ordered.through t s s' (leaves s t offset a e).within le))

pub after_keeps : (m : State) (f g : AbsState → Option AbsState) → LeavesLess f → KeepsMachine m f → KeepsMachine m g → KeepsMachine m (λ s. after (f s) g)
after_keeps m f g leaves first second o s offset a h =
    let u = first o s offset a h in
    let t = second o u.0 offset (leaves s u.0 offset a u.1.0).formed u.1.1 in
    (t.0, (after_some (f s) g u.0 (Some t.0) u.1.0 t.1.0, t.1.1))

pub after_leaves : (f g : AbsState → Option AbsState) → LeavesLess f → LeavesLess g → LeavesLess (λ s. after (f s) g)
after_leaves f g first second s t offset a e =
    let was = after_was (f s) g t e in
    let u = first s was.0 offset a was.1.0 in
    left_through s was.0 t offset u (second was.0 t offset u.formed was.1.1)

pub after_more : (f f' g g' : AbsState → Option AbsState) → LeavesLess f → LeavesLess f' → LeavesMoreBy f f' → LeavesMoreBy g g'
    → LeavesMoreBy (λ s. after (f s) g) (λ s. after (f' s) g')
after_more f f' g g' leaves leaves' first second s s' t offset a b le e =
    let was = after_was (f s) g t e in
    let u = first s s' was.0 offset a b le was.1.0 in
    let v = second was.0 u.0 t offset (leaves s was.0 offset a was.1.0).formed (leaves' s' u.0 offset b u.1.0).formed u.1.1 was.1.1 in
    (v.0, (after_some (f' s') g' u.0 (Some v.0) u.1.0 v.1.0, v.1.1))
