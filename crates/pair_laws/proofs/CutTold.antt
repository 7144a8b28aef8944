-- The interval of a transfer function cuts a state.
use Rattle.std.proofs.Common.{◌≡◌, refl, sym, ◌∙◌, ap, subst, ℕ, ◌+◌, ◌*◌, ◌<◌, ◌≤◌, ◌⊎◌, inl, inr, ⊎_elim, Bool, List, length, Option, Some, None, slice_set, length-set, arith}
use Rattle.std.proofs.lemmas.Bool.{cases_eq, cases_lt}
use Rattle.std.proofs.lemmas.List.{get_or_past}
use Rattle.std.proofs.lemmas.Grind.{elements}
use Rattle.std.proofs.lemmas.Option.{same_Some}
use Rattle.bit_domain.specs.Ranges.{ByteSet, IsSetWithin}
use Rattle.avr_model.specs.declared.device.Device.{Device}
use Rattle.sp_domain.specs.declared.tags.Tag.{Tag}
use Rattle.sp_domain.specs.Tags.{Origin}
use Rattle.abs_state.specs.Banks.{IsStateWith}
use Rattle.pair_domain.specs.declared.intervals.Interval.{Interval}
use Rattle.pair_domain.specs.declared.facts.PairFacts.{PairFacts}
use Rattle.pair_domain.specs.Intervals.{InInterval, IsIntervalWithin, interval_meet}
use Rattle.pair_domain.specs.Tags.{pair_number}
use Rattle.pair_domain.specs.PairSets.{PairSet, IsPairWithin, with_interval, narrow_pair}
use Rattle.pair_domain.specs.NarrowLaws.{PairFits, IsCut, IsMonotone}
use Rattle.pair_domain.specs.Marks.{outward}
use Rattle.pair_domain.proofs.AllLaws.{intervals_meet, pairs_are_cut, marks_widen}
use Rattle.abs_state.specs.declared.values.AbsByte.{AbsByte}
use Rattle.abs_state.specs.declared.state.AbsState.{AbsState}
use Rattle.abs_state.specs.Values.{value_at, valued, unknown}
use Rattle.abs_state.specs.Stands.{RegistersStand}
use Rattle.abs_state.specs.Order.{IsStateWithin}
use Rattle.abs_state.specs.Formed.{IsWhole, IsFormed}
use Rattle.abs_state.specs.Laws.{HoldsAt}
use Rattle.abs_state.specs.Cuts.{pair_of, pair_set, with_pair, cut_known}
use Rattle.abs_state.proofs.AllLaws.{states_are_cut, states_are_ordered}
use Rattle.pair_rules.specs.declared.told.Told.{Told}
use Rattle.pair_rules.specs.declared.told.Told.TheVariants as told
use Rattle.pair_rules.specs.Refined.{meet_pair, cut_told}
use Rattle.pair_laws.specs.Laws.{IsLike}
use Rattle.pair_laws.proofs.Tellings.{TellsTrue, ToldFits, IsToldLess}

-- ---- the interval alone

same_set : (s : ByteSet) → IsSetWithin s s
same_set s = record { bits = λ x small h. h; low = omega arith; high = omega arith }

pub meet_was : (p m : PairSet) (o : Option Interval) → with_interval p o ≡ Some m → (j : Interval) × ((o ≡ Some j) × (record p { interval = j } ≡ m))
meet_was p m None e = absurd (cc)
meet_was p m (Some j) e = (j, (refl, cc))

meet_cuts : (j : Interval) → IsCut (λ x y. InInterval j (x + 256 * y)) (λ p. meet_pair p j)
meet_cuts j = record {
  keeps = λ p x y h inside.
      let met = intervals_meet.meets p.interval j (x + 256 * y) h.interval inside in
      (record p { interval = met.0 }, (ap (with_interval p) met.1.0, record { low = h.low; high = h.high; interval = met.1.1 }));
  under = λ p m e.
      let was = meet_was p m (interval_meet p.interval j) e in
      subst (λ (q : PairSet). IsPairWithin q p) was.1.1
      (record { low = same_set p.low; high = same_set p.high; interval = (intervals_meet.under p.interval j was.0 was.1.0).0 });
  fits = λ p m fits e.
      let was = meet_was p m (interval_meet p.interval j) e in
      let under = (intervals_meet.under p.interval j was.0 was.1.0).0 in
      subst PairFits was.1.1 (record {
        low = fits.low;
        high = fits.high;
        interval = record { ordered = intervals_meet.ordered p.interval j was.0 was.1.0; small = omega (arith, under.high, fits.interval.small) };
      });
}

meet_more : (j j' : Interval) → IsIntervalWithin j j' → IsMonotone (λ p. meet_pair p j) (λ p. meet_pair p j')
meet_more j j' within p p' m le e =
    let was = meet_was p m (interval_meet p.interval j) e in
    let met = intervals_meet.more p.interval j p'.interval j' was.0 le.interval within was.1.0 in (
      record p' { interval = met.0 },
      (
        ap (with_interval p') met.1.0,
        subst (λ (q : PairSet). IsPairWithin q (record p' { interval = met.0 })) was.1.1 (record { low = le.low; high = le.high; interval = met.1.1 }),
      ),
    )

-- ---- intervals that are widened to marks

widened_in : (marks : List ℕ) (j : Interval) (w : ℕ) → j.high < 65536 → InInterval j w → InInterval (outward marks j) w
widened_in marks j w small h =
    let within = marks_widen.within marks j small in
    record { low = omega (arith, within.low, h.low); high = omega (arith, within.high, h.high) }

-- ---- states

pub cut_keeps : (marks : List ℕ) (t : Told) (o : Origin) (s : AbsState) (registers : List ℕ) (sreg : ℕ) → ToldFits t → TellsTrue t registers → IsWhole s
    → RegistersStand o s.registers registers → HoldsAt s.facts registers sreg
    → (u : AbsState) × (cut_told marks t s ≡ Some u) × RegistersStand o u.registers registers × HoldsAt u.facts registers sreg
cut_keeps marks told.Nothing o s registers sreg fits true_of whole stand h = (s, refl, stand, h)
cut_keeps marks (told.Kept n j) o s registers sreg fits true_of whole stand h =
    states_are_cut.keeps (λ p. meet_pair p j) o s n registers sreg whole fits (λ p stands. (meet_cuts j).keeps p _ _ stands true_of) stand h
cut_keeps marks (told.Computed n j) o s registers sreg fits true_of whole stand h =
    states_are_cut.keeps (λ p. narrow_pair p (outward marks j)) o s n registers sreg whole fits.0
    (λ p stands. (pairs_are_cut.pair (outward marks j)).keeps p _ _ stands (widened_in marks j (pair_number registers (2 * n)) fits.1 true_of)) stand h

pub cut_under : (marks : List ℕ) (t : Told) (s u : AbsState) → ToldFits t → IsWhole s → cut_told marks t s ≡ Some u → IsStateWithin u s
cut_under marks told.Nothing s u fits whole e =
    subst (λ (v : AbsState). IsStateWithin v s) (same_Some s u e) (states_are_ordered.same s)
cut_under marks (told.Kept n j) s u fits whole e = states_are_cut.under (λ p. meet_pair p j) s u n whole fits (λ p m is. (meet_cuts j).under p m is) e
cut_under marks (told.Computed n j) s u fits whole e =
    states_are_cut.under (λ p. narrow_pair p (outward marks j)) s u n whole fits.0 (λ p m is. (pairs_are_cut.pair (outward marks j)).under p m is) e

pub cut_formed : (marks : List ℕ) (t : Told) (s u : AbsState) (offset : ℕ) → ToldFits t → IsFormed s offset → cut_told marks t s ≡ Some u → IsFormed u offset
cut_formed marks told.Nothing s u offset fits formed e = subst (λ (v : AbsState). IsFormed v offset) (same_Some s u e) formed
cut_formed marks (told.Kept n j) s u offset fits formed e =
    states_are_cut.formed (λ p. meet_pair p j) s u n offset fits (λ p m fit is. (meet_cuts j).fits p m fit is) formed e
cut_formed marks (told.Computed n j) s u offset fits formed e =
    states_are_cut.formed (λ p. narrow_pair p (outward marks j)) s u n offset fits.0 (λ p m fit is. (pairs_are_cut.pair (outward marks j)).fits p m fit is) formed e

pub cut_of : (marks : List ℕ) (t : Told) (good : Tag → Bool) (device : Device) (is_root : Bool) (s u : AbsState) → ToldFits t → IsWhole s → IsStateWith good device is_root s
    → cut_told marks t s ≡ Some u → IsStateWith good device is_root u
cut_of marks told.Nothing good device is_root s u fits whole h e = subst (IsStateWith good device is_root) (same_Some s u e) h
cut_of marks (told.Kept n j) good device is_root s u fits whole h e = states_are_cut.of (λ p. meet_pair p j) good device is_root s u n whole fits h e
cut_of marks (told.Computed n j) good device is_root s u fits whole h e = states_are_cut.of (λ p. narrow_pair p (outward marks j)) good device is_root s u n whole fits.0 h e

pub cut_more : (marks : List ℕ) (t t' : Told) (s s' u : AbsState) → ToldFits t → ToldFits t' → IsToldLess t t' → IsWhole s → IsWhole s' → IsStateWithin s s'
    → cut_told marks t s ≡ Some u → (u' : AbsState) × (cut_told marks t' s' ≡ Some u') × IsStateWithin u u'
cut_more marks t told.Nothing s s' u fits fits' less whole whole' le e =
    (s', refl, states_are_ordered.through u s s' (cut_under marks t s u fits whole e) le)
cut_more marks told.Nothing (told.Kept k j') s s' u fits fits' less whole whole' le e = absurd less
cut_more marks told.Nothing (told.Computed k j') s s' u fits fits' less whole whole' le e = absurd less
cut_more marks (told.Computed n j) (told.Kept k j') s s' u fits fits' less whole whole' le e = absurd less
cut_more marks (told.Kept n j) (told.Computed k j') s s' u fits fits' less whole whole' le e = absurd less
cut_more marks (told.Kept n j) (told.Kept k j') s s' u fits fits' less whole whole' le e =
    let same : cut_told marks (told.Kept n j') s' ≡ cut_told marks (told.Kept k j') s' = ap (λ (q : ℕ). cut_told marks (told.Kept q j') s') less.0 in
    let more =
    states_are_cut.more (λ p. meet_pair p j) (λ p. meet_pair p j') s s' u n whole whole' fits (λ p m is. (meet_cuts j).under p m is) (meet_more j j' less.1) le e in
    (more.0, sym same ∙ more.1, more.2)
cut_more marks (told.Computed n j) (told.Computed k j') s s' u fits fits' less whole whole' le e =
    let same : cut_told marks (told.Computed n j') s' ≡ cut_told marks (told.Computed k j') s' = ap (λ (q : ℕ). cut_told marks (told.Computed q j') s') less.0 in
    let more =
    states_are_cut.more (λ p. narrow_pair p (outward marks j)) (λ p. narrow_pair p (outward marks j')) s s' u n whole whole' fits.0
    (λ p m is. (pairs_are_cut.pair (outward marks j)).under p m is)
    (pairs_are_cut.pair_more (outward marks j) (outward marks j') (marks_widen.small marks j) (marks_widen.more marks j j' less.1)) le e in
    (more.0, sym same ∙ more.1, more.2)

-- ---- what stays: the flags, the slots, and the tags of values

-- each register keeps its tag
abbrev pub AreTaggedLike : AbsState → AbsState → Type 0
AreTaggedLike t u = (r : ℕ) → (value_at u.registers r).tag ≡ (value_at t.registers r).tag

pub value_or_not : (values : List AbsByte) (d : ℕ) (v : AbsByte) → (value_at (slice_set values d v) d ≡ v) ⊎ (value_at (slice_set values d v) d ≡ value_at values d)
value_or_not values d v = by (cases_lt d (length values))
  where
    by : (d < length values) ⊎ (length values ≤ d) → (value_at (slice_set values d v) d ≡ v) ⊎ (value_at (slice_set values d v) d ≡ value_at values d)
    by (inl lt) = inl (grind (arith, elements))
    by (inr past) = inr (get_or_past (slice_set values d v) d unknown (omega (arith, past, length-set values d v)) ∙ sym (get_or_past values d unknown past))

tag_set : (values : List AbsByte) (d r : ℕ) (v : AbsByte) → v.tag ≡ (value_at values d).tag → (value_at (slice_set values d v) r).tag ≡ (value_at values r).tag
tag_set values d r v same = by (cases_eq r d)
  where
    there : (value_at (slice_set values d v) d ≡ v) ⊎ (value_at (slice_set values d v) d ≡ value_at values d)
    there = value_or_not values d v

    by : (r ≡ d) ⊎ (r ≡ d → ⊥) → (value_at (slice_set values d v) r).tag ≡ (value_at values r).tag
    by (inl e) =
        subst (λ (j : ℕ). (value_at (slice_set values d v) j).tag ≡ (value_at values j).tag) (sym e)
        (⊎_elim (λ set. ap (λ (w : AbsByte). w.tag) set ∙ same) (λ past. ap (λ (w : AbsByte). w.tag) past) there)
    by (inr ne) = let other : value_at (slice_set values d v) r ≡ value_at values r = grind (arith, elements) in ap (λ (w : AbsByte). w.tag) other

pair_tagged : (values : List AbsByte) (n r : ℕ) (p : PairSet) → (value_at (pair_set values n p) r).tag ≡ (value_at values r).tag
pair_tagged values n r p =
    tag_set (slice_set values (2 * n) (valued (value_at values (2 * n)).tag p.low)) (2 * n + 1) r (valued (value_at values (2 * n + 1)).tag p.high)
    (sym (tag_set values (2 * n) (2 * n + 1) (valued (value_at values (2 * n)).tag p.low) refl))
    ∙ tag_set values (2 * n) r (valued (value_at values (2 * n)).tag p.low) refl

abbrev IsCutOf : AbsState → AbsState → Type 0
IsCutOf s u = IsLike s u × AreTaggedLike s u

same_cut : (s : AbsState) → IsCutOf s s
same_cut s = (record { flags = refl; slots = refl }, λ r. refl)

with_like : (s u : AbsState) (f : PairFacts) (n : ℕ) (o : Option PairSet) → with_pair s f n o ≡ Some u → IsCutOf s u
with_like s u f n None e = absurd (cc)
with_like s u f n (Some p) e = subst (IsCutOf s) (same_Some _ u e) (record { flags = refl; slots = refl }, λ r. pair_tagged s.registers n r p)

known_like : (cut : PairSet → Option PairSet) (s u : AbsState) (n : ℕ) (x : Option PairFacts) → cut_known cut s n x ≡ Some u → IsCutOf s u
known_like cut s u n None e = subst (IsCutOf s) (same_Some s u e) (same_cut s)
known_like cut s u n (Some f) e = with_like s u f n (cut (pair_of s.registers f.intervals n)) e

pub cut_like : (marks : List ℕ) (t : Told) (s u : AbsState) → cut_told marks t s ≡ Some u → IsLike s u × AreTaggedLike s u
cut_like marks told.Nothing s u e = subst (IsCutOf s) (same_Some s u e) (same_cut s)
cut_like marks (told.Kept n j) s u e = known_like (λ p. meet_pair p j) s u n s.facts e
cut_like marks (told.Computed n j) s u e = known_like (λ p. narrow_pair p (outward marks j)) s u n s.facts e
