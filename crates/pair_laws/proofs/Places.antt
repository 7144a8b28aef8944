-- Cuts of a register or a pair to an interval.
use Rattle.std.proofs.Common.{◌≡◌, ◌≢◌, refl, sym, ◌∙◌, ap, subst, ℕ, ◌+◌, ◌*◌, ◌/◌, ◌%◌, ◌<◌, ◌≤◌, min, max, Bool, true, false, List, length, Option, Some, None, slice_index, arith}
use Rattle.std.specs.Prelude.{⊤, ◌==◌, if◌then◌else◌}
use Rattle.std.proofs.lemmas.Bool.{eqb-true, eqb-false}
use Rattle.std.proofs.lemmas.List.{get_or-replicate}
use Rattle.avr_model.specs.State.{State, register}
use Rattle.bit_domain.specs.Ranges.{ByteSet}
use Rattle.sp_domain.specs.Tags.{Origin}
use Rattle.pair_domain.specs.declared.intervals.Interval.{Interval}
use Rattle.pair_domain.specs.declared.facts.PairFacts.{PairFacts}
use Rattle.pair_domain.specs.Intervals.{InInterval, IsIntervalWithin, whole, interval_from}
use Rattle.pair_domain.specs.Tags.{pair_number}
use Rattle.pair_domain.specs.Facts.{nothing, interval_at, KnownHolds, IsKnownWithin}
use Rattle.pair_domain.specs.Narrow.{narrow}
use Rattle.pair_domain.specs.PairSets.{PairSet, with_low, with_high, bytes_within, narrow_pair as pair_narrow}
use Rattle.pair_domain.specs.Rank.{IntervalFits, IsPair, KnownFits}
use Rattle.pair_domain.proofs.AllLaws.{facts_are_ordered, facts_rise, intervals_are_ordered, narrowing_cuts, pairs_are_cut}
use Rattle.abs_state.specs.declared.values.AbsByte.{AbsByte}
use Rattle.abs_state.specs.declared.state.AbsState.{AbsState}
use Rattle.abs_state.specs.Values.{value_at, set_of}
use Rattle.abs_state.specs.Order.{IsStateWithin}
use Rattle.abs_state.specs.Formed.{IsFormed}
use Rattle.abs_state.specs.Cuts.{pair_of, pair_set, with_pair, cut_known}
use Rattle.pair_cuts.specs.declared.places.CutPlace.{CutPlace}
use Rattle.pair_cuts.specs.declared.places.CutPlace.TheVariants as place
use Rattle.pair_cuts.specs.Places.{on_byte, cut_byte, narrow_byte, narrow_pair, known_or_nothing, interval_of, range_at, narrow_at, narrow_to}
use Rattle.pair_cuts.proofs.Capped.{narrow_capped}
use Rattle.pair_laws.specs.CutLaws.{StandsFor, KeepsMachine, LeavesLess}
use Rattle.pair_laws.proofs.Steps.{LeavesMoreBy, low_there, high_there, with_was, state_keeps, state_leaves, state_more, nothing_keeps, nothing_leaves}
use Rattle.pair_laws.proofs.Bytes.{IsByteCut, IsByteMonotone, low_was, high_was, on_byte_cuts, on_byte_ends, on_byte_more, pair_ends, range_small, narrow_cuts, narrow_more}

-- ---- a register is one of a pair

half_small : (r : ℕ) → r < 32 → r / 2 < 16
half_small r lt = omega (arith, lt)

pub even_half : (r : ℕ) → r % 2 ≡ 0 → 2 * (r / 2) ≡ r
even_half r e = omega (arith, e)

byte_of_pair : (P : ℕ → Type 0) (f : ℕ → ℕ) (r : ℕ) (even : Bool) → (r % 2 == 0) ≡ even → P (f r) → P (if even then f (2 * (r / 2)) else f (2 * (r / 2) + 1))
byte_of_pair P f r true e h =
    let is = eqb-true (r % 2) 0 e in
    let same : r ≡ 2 * (r / 2) = omega (arith, is) in
    subst (λ (k : ℕ). P (f k)) same h
byte_of_pair P f r false e h =
    let ne : r % 2 ≢ 0 = eqb-false (r % 2) 0 e in
    let same : r ≡ 2 * (r / 2) + 1 = omega (arith, ne) in
    subst (λ (k : ℕ). P (f k)) same h

-- ---- cuts of a register

pub byte_keeps : (P : ℕ → Type 0) (cut : ByteSet → Option ByteSet) → IsByteCut P cut → (r : ℕ) → r < 32 → (m : State) → P (register m r) → KeepsMachine m (cut_byte r cut)
byte_keeps P cut is r lt m holds =
    state_keeps (r / 2) (half_small r lt) (on_byte r cut) (λ x y. P (if r % 2 == 0 then x else y)) (on_byte_cuts P cut is r) m (byte_of_pair P (register m) r (r % 2 == 0) refl holds)

pub byte_leaves : (P : ℕ → Type 0) (cut : ByteSet → Option ByteSet) → IsByteCut P cut → (r : ℕ) → r < 32 → LeavesLess (cut_byte r cut)
byte_leaves P cut is r lt =
    state_leaves (r / 2) (half_small r lt) (on_byte r cut) (λ x y. P (if r % 2 == 0 then x else y)) (on_byte_cuts P cut is r) (on_byte_ends cut r)

pub byte_more : (P : ℕ → Type 0) (cut cut' : ByteSet → Option ByteSet) → IsByteCut P cut → IsByteMonotone cut cut' → (r : ℕ) → r < 32 → LeavesMoreBy (cut_byte r cut) (cut_byte r cut')
byte_more P cut cut' is more r lt =
    state_more (r / 2) (half_small r lt) (on_byte r cut) (on_byte r cut') (λ x y. P (if r % 2 == 0 then x else y)) (on_byte_cuts P cut is r) (on_byte_more cut cut' more r)

-- ---- high ends beyond what a state has

abbrev capped : ℕ → Interval → Interval
capped most i = record { low = i.low; high = min i.high most }

on_byte_capped : (even : Bool) (p : PairSet) (i : Interval) → p.low.high < 256 → p.high.high < 256
    → (if even then with_low p (narrow p.low i.low i.high) else with_high p (narrow p.high i.low i.high))
    ≡ (if even then with_low p (narrow p.low i.low (min i.high 255)) else with_high p (narrow p.high i.low (min i.high 255)))
on_byte_capped true p i low high = ap (with_low p) (narrow_capped p.low i.low i.high low)
on_byte_capped false p i low high = ap (with_high p) (narrow_capped p.high i.low i.high high)

pair_capped : (p : PairSet) (i : Interval) → p.interval.high < 65536 → pair_narrow p i ≡ pair_narrow p (capped 65535 i)
pair_capped p i small = ap (λ (h : ℕ). bytes_within p (interval_from (max p.interval.low i.low) h)) (omega (arith, small))

-- two cuts that agree on the pair of a state
cut_same : (cut cut' : PairSet → Option PairSet) (s : AbsState) (n : ℕ) (x : Option PairFacts) → ((f : PairFacts) → x ≡ Some f → cut (pair_of s.registers f.intervals n) ≡ cut' (pair_of s.registers f.intervals n))
    → cut_known cut s n x ≡ cut_known cut' s n x
cut_same cut cut' s n None same = refl
cut_same cut cut' s n (Some f) same = ap (with_pair s f n) (same f refl)

known_fits : (x : Option PairFacts) → KnownFits x → (n : ℕ) → n < 16 → IntervalFits (interval_at (known_or_nothing x).intervals n)
known_fits None fits n lt = facts_rise.nothing_fits.intervals n lt
known_fits (Some f) fits n lt = fits.intervals n lt

fits_there : (x : Option PairFacts) (f : PairFacts) → x ≡ Some f → KnownFits x → (n : ℕ) → n < 16 → IntervalFits (interval_at f.intervals n)
fits_there x f is fits n lt = known_fits (Some f) (subst KnownFits is fits) n lt

byte_narrow_capped : (r : ℕ) (i : Interval) (s : AbsState) (offset : ℕ) → r < 32 → IsFormed s offset → narrow_byte r i s ≡ narrow_byte r (capped 255 i) s
byte_narrow_capped r i s offset lt a =
    cut_same (on_byte r (λ b. narrow b i.low i.high)) (on_byte r (λ b. narrow b i.low (min i.high 255))) s (r / 2) s.facts (λ f is.
    on_byte_capped (r % 2 == 0) (pair_of s.registers f.intervals (r / 2)) i (range_small _ (a.ranges (2 * (r / 2)) (omega (arith, lt)))) (range_small _ (a.ranges (2 * (r / 2) + 1) (omega (arith, lt)))))

pair_narrow_capped : (r : ℕ) (i : Interval) (s : AbsState) (offset : ℕ) → r < 32 → IsFormed s offset → narrow_pair r i s ≡ narrow_pair r (capped 65535 i) s
pair_narrow_capped r i s offset lt a =
    cut_same (λ p. pair_narrow p i) (λ p. pair_narrow p (capped 65535 i)) s (r / 2) s.facts (λ f is.
    pair_capped (pair_of s.registers f.intervals (r / 2)) i (fits_there s.facts f is a.facts (r / 2) (half_small r lt)).small)

-- ---- places

abbrev pub PlaceFits : CutPlace → Type 0
PlaceFits place.Neither = ⊤
PlaceFits (place.Byte r) = r < 32
PlaceFits (place.Pair r) = IsPair r

-- the number at the place is in the interval
abbrev pub IsIn : CutPlace → Interval → List ℕ → Type 0
IsIn place.Neither i registers = ⊤
IsIn (place.Byte r) i registers = InInterval i (slice_index registers r)
IsIn (place.Pair r) i registers = InInterval i (pair_number registers r)

pub place_keeps : (p : CutPlace) (i : Interval) (m : State) → PlaceFits p → IsIn p i m.registers → KeepsMachine m (narrow_at p i)
place_keeps place.Neither i m fits inside = nothing_keeps m
place_keeps (place.Byte r) i m fits inside = byte_keeps (InInterval i) (λ b. narrow b i.low i.high) (narrow_cuts i) r fits m inside
place_keeps (place.Pair r) i m fits inside =
    state_keeps (r / 2) (half_small r fits.register) (λ p. pair_narrow p i) (λ x y. InInterval i (x + 256 * y)) (pairs_are_cut.pair i) m
    (subst (λ (k : ℕ). InInterval i (register m k + 256 * register m (k + 1))) (sym (even_half r fits.even)) inside)

pub place_leaves : (p : CutPlace) (i : Interval) → PlaceFits p → LeavesLess (narrow_at p i)
place_leaves place.Neither i fits = nothing_leaves
place_leaves (place.Byte r) i fits = byte_leaves (InInterval i) (λ b. narrow b i.low i.high) (narrow_cuts i) r fits
place_leaves (place.Pair r) i fits =
    state_leaves (r / 2) (half_small r fits.register) (λ p. pair_narrow p i) (λ x y. InInterval i (x + 256 * y)) (pairs_are_cut.pair i) (pair_ends i)

pub place_more : (p : CutPlace) (i i' : Interval) → PlaceFits p → IsIntervalWithin i i' → LeavesMoreBy (narrow_at p i) (narrow_at p i')
place_more place.Neither i i' fits within s s' t offset a b le e = let P : AbsState → Type 0 = λ u. IsStateWithin u s' in let same : s ≡ t = cc in (s', (refl, subst P same le))
place_more (place.Byte r) i i' fits within s s' t offset a b le e =
    byte_more (InInterval (capped 255 i)) (λ b. narrow b i.low (min i.high 255)) (λ b. narrow b i'.low i'.high) (narrow_cuts (capped 255 i))
    (narrow_more (capped 255 i) i' (omega arith) (record { low = within.low; high = omega (arith, within.high) })) r fits s s' t offset a b le (sym (byte_narrow_capped r i s offset fits a) ∙ e)
place_more (place.Pair r) i i' fits within s s' t offset a b le e =
    state_more (r / 2) (half_small r fits.register) (λ p. pair_narrow p (capped 65535 i)) (λ p. pair_narrow p i') (λ x y. InInterval (capped 65535 i) (x + 256 * y)) (pairs_are_cut.pair (capped 65535 i))
    (pairs_are_cut.pair_more (capped 65535 i) i' (omega arith) (record { low = within.low; high = omega (arith, within.high) })) s s' t offset a b le (sym (pair_narrow_capped r i s offset fits.register a) ∙ e)

-- ---- what is known of a place

nothing_holds : (n x : ℕ) → n < 16 → x < 65536 → InInterval (interval_at nothing.intervals n) x
nothing_holds n x lt small = subst (λ (i : Interval). InInterval i x) (sym (get_or-replicate 16 n whole whole lt)) (record { low = omega arith; high = omega (arith, small) })

known_holds : (x : Option PairFacts) (registers : List ℕ) (c z v : Bool) → KnownHolds x registers c z v → (n : ℕ) → n < 16 → pair_number registers (2 * n) < 65536
    → InInterval (interval_at (known_or_nothing x).intervals n) (pair_number registers (2 * n))
known_holds None registers c z v h n lt small = nothing_holds n (pair_number registers (2 * n)) lt small
known_holds (Some f) registers c z v h n lt small = h.intervals n lt

known_within : (x y : Option PairFacts) → KnownFits x → IsKnownWithin x y → (n : ℕ) → n < 16
    → IsIntervalWithin (interval_at (known_or_nothing x).intervals n) (interval_at (known_or_nothing y).intervals n)
known_within None None fits le n lt = intervals_are_ordered.same (interval_at nothing.intervals n)
known_within None (Some g) fits le n lt = absurd le
known_within (Some f) None fits le n lt = (facts_are_ordered.top f fits).intervals n lt
known_within (Some f) (Some g) fits le n lt = le.intervals n lt

pub range_holds : (p : CutPlace) (o : Origin) (s : AbsState) (m : State) → PlaceFits p → StandsFor o s m → IsIn p (range_at s p) m.registers
range_holds place.Neither o s m fits h = tt
range_holds (place.Byte r) o s m fits h = let at = h.stands.registers r (omega (arith, fits)) in record { low = at.low; high = at.high }
range_holds (place.Pair r) o s m fits h =
    let lo = h.stands.registers (2 * (r / 2)) (omega (arith, fits.register)) in
    let hi = h.stands.registers (2 * (r / 2) + 1) (omega (arith, fits.register)) in
    let even = even_half r fits.even in
    subst (λ (k : ℕ). InInterval (interval_of s.facts r) (pair_number m.registers k)) even
    (known_holds s.facts m.registers _ _ _ h.facts (r / 2) (half_small r fits.register) (omega (arith, lo.small, hi.small)))

pub range_ordered : (p : CutPlace) (s : AbsState) (offset : ℕ) → PlaceFits p → IsFormed s offset → (range_at s p).low ≤ (range_at s p).high
range_ordered place.Neither s offset fits a = omega arith
range_ordered (place.Byte r) s offset fits a = (a.ranges r (omega (arith, fits))).ordered
range_ordered (place.Pair r) s offset fits a = (known_fits s.facts a.facts (r / 2) (half_small r fits.register)).ordered

-- half the number of signed numbers
abbrev pub half_at : CutPlace → ℕ
half_at place.Neither = 32768
half_at (place.Byte r) = 128
half_at (place.Pair r) = 32768

pub range_high : (p : CutPlace) (s : AbsState) (offset : ℕ) → PlaceFits p → IsFormed s offset → (range_at s p).high < 2 * half_at p
range_high place.Neither s offset fits a = omega arith
range_high (place.Byte r) s offset fits a = range_small (set_of (value_at s.registers r)) (a.ranges r (omega (arith, fits)))
range_high (place.Pair r) s offset fits a = (known_fits s.facts a.facts (r / 2) (half_small r fits.register)).small

pub range_within : (p : CutPlace) (s s' : AbsState) (offset : ℕ) → PlaceFits p → IsFormed s offset → IsStateWithin s s' → IsIntervalWithin (range_at s p) (range_at s' p)
range_within place.Neither s s' offset fits a le = intervals_are_ordered.same whole
range_within (place.Byte r) s s' offset fits a le = let at = le.registers r (omega (arith, fits)) in record { low = at.low; high = at.high }
range_within (place.Pair r) s s' offset fits a le = known_within s.facts s'.facts a.facts le.facts (r / 2) (half_small r fits.register)

-- ---- to what is left

pub to_keeps : (p : CutPlace) (x : Option Interval) (i : Interval) (m : State) → PlaceFits p → x ≡ Some i → IsIn p i m.registers → KeepsMachine m (narrow_to p x)
to_keeps p x i m fits is inside = subst (λ (y : Option Interval). KeepsMachine m (narrow_to p y)) (sym is) (place_keeps p i m fits inside)

pub to_leaves : (p : CutPlace) (x : Option Interval) → PlaceFits p → LeavesLess (narrow_to p x)
to_leaves p None fits s t offset a e = absurd (cc)
to_leaves p (Some i) fits s t offset a e = place_leaves p i fits s t offset a e

-- ---- a register that is cut lies in the interval

abbrev LiesIn : Interval → ℕ → ℕ → Type 0
LiesIn i low high = (i.low ≤ low) × (high ≤ i.high)

low_bounds : (p m : PairSet) (i : Interval) → with_low p (narrow p.low i.low i.high) ≡ Some m → LiesIn i m.low.low m.low.high
low_bounds p m i e =
    let was = low_was p m (narrow p.low i.low i.high) e in
    let cut = narrowing_cuts.under p.low was.0 i.low i.high was.1.0 in
    let hull = pairs_are_cut.hull.under (record p { low = was.0 }) m was.1.1 in
    (omega (arith, cut.1, hull.low.low), omega (arith, cut.2, hull.low.high))

high_bounds : (p m : PairSet) (i : Interval) → with_high p (narrow p.high i.low i.high) ≡ Some m → LiesIn i m.high.low m.high.high
high_bounds p m i e =
    let was = high_was p m (narrow p.high i.low i.high) e in
    let cut = narrowing_cuts.under p.high was.0 i.low i.high was.1.0 in
    let hull = pairs_are_cut.hull.under (record p { high = was.0 }) m was.1.1 in
    (omega (arith, cut.1, hull.high.low), omega (arith, cut.2, hull.high.high))

module _ (s : AbsState) (f : PairFacts) (r : ℕ) (i : Interval) (count : length s.registers ≡ 34) (lt : r < 32) where
  abbrev here : PairSet
  here = pair_of s.registers f.intervals (r / 2)

  abbrev LiesAt : List AbsByte → ℕ → Type 0
  LiesAt registers k = LiesIn i (value_at registers k).low (value_at registers k).high

  bounds_by : (even : Bool) → (r % 2 == 0) ≡ even → (p : PairSet)
      → (if even then with_low here (narrow here.low i.low i.high) else with_high here (narrow here.high i.low i.high)) ≡ Some p → LiesAt (pair_set s.registers (r / 2) p) r
  bounds_by true even p e =
      let is = eqb-true (r % 2) 0 even in
      let at = low_there s.registers (r / 2) p count (half_small r lt) in
      subst (LiesAt (pair_set s.registers (r / 2) p)) (even_half r is)
      (subst (λ (v : AbsByte). LiesIn i v.low v.high) (sym at) (low_bounds here p i e))
  bounds_by false even p e =
      let ne : r % 2 ≢ 0 = eqb-false (r % 2) 0 even in
      let same : 2 * (r / 2) + 1 ≡ r = omega (arith, ne) in
      let at = high_there s.registers (r / 2) p count (half_small r lt) in
      subst (LiesAt (pair_set s.registers (r / 2) p)) same
      (subst (λ (v : AbsByte). LiesIn i v.low v.high) (sym at) (high_bounds here p i e))

pub narrow_bounds : (r : ℕ) (i : Interval) (s t : AbsState) (offset : ℕ) (f : PairFacts) → r < 32 → IsFormed s offset → s.facts ≡ Some f → narrow_byte r i s ≡ Some t
    → (i.low ≤ (value_at t.registers r).low) × ((value_at t.registers r).high ≤ i.high)
narrow_bounds r i s t offset f lt a is e =
    let cut : cut_known (on_byte r (λ b. narrow b i.low i.high)) s (r / 2) (Some f) ≡ Some t =
    subst (λ (x : Option PairFacts). cut_known (on_byte r (λ b. narrow b i.low i.high)) s (r / 2) x ≡ Some t) is e in
    let was = with_was s t f (r / 2) (on_byte r (λ b. narrow b i.low i.high) (pair_of s.registers f.intervals (r / 2))) cut in
    subst (λ (u : AbsState). LiesIn i (value_at u.registers r).low (value_at u.registers r).high) was.1.1
    (bounds_by s f r i a.count_registers lt (r % 2 == 0) refl was.0 was.1.0)
