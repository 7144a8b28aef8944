-- Cuts of one pair of a state.
use Rattle.std.proofs.lemmas.Grind.{elements}
use Rattle.std.proofs.Common.{◌≡◌, ◌≢◌, refl, sym, ◌∙◌, ap, subst, subst₂, ℕ, ◌+◌, ◌*◌, ◌<◌, ◌⊎◌, inl, inr, Bool, true, List, length, Option, Some, None, slice_set, slice_index, length-set, arith}
use Rattle.std.proofs.lemmas.Bool.{cases_eq}
use Rattle.avr_model.specs.declared.device.Device.{Device}
use Rattle.avr_model.specs.State.{RAMPZ, EIND}
use Rattle.sp_domain.specs.declared.tags.Tag.{Tag}
use Rattle.sp_domain.specs.Tags.{Origin}
use Rattle.pair_domain.specs.declared.intervals.Interval.{Interval}
use Rattle.pair_domain.specs.declared.facts.PairFacts.{PairFacts}
use Rattle.pair_domain.specs.Intervals.{InInterval, IsIntervalWithin}
use Rattle.pair_domain.specs.Tags.{pair_number}
use Rattle.pair_domain.specs.Facts.{interval_at, IsKnownWithin, HasSixteen}
use Rattle.pair_domain.specs.PairSets.{PairSet}
use Rattle.pair_domain.specs.NarrowLaws.{IsMonotone}
use Rattle.pair_domain.specs.Rank.{IntervalFits, KnownFits}
use Rattle.pair_domain.proofs.AllLaws.{intervals_are_ordered, sums_are_ordered, compares_are_ordered, zeros_are_ordered}
use Rattle.abs_state.specs.declared.values.AbsByte.{AbsByte}
use Rattle.abs_state.specs.declared.state.AbsState.{AbsState}
use Rattle.abs_state.specs.Values.{value_at, valued}
use Rattle.abs_state.specs.Stands.{ByteStands, RegistersStand}
use Rattle.abs_state.specs.Order.{IsByteWithin, IsStateWithin}
use Rattle.abs_state.specs.Formed.{NamesRegister, ByteFits, IsWhole, IsFormed}
use Rattle.abs_state.specs.Laws.{HoldsAt}
use Rattle.abs_state.specs.Cuts.{pair_of, pair_set, with_pair, cut_known, KeepsPair, SaysMore, LeavesFit, StatesAreCut}
use Rattle.abs_state.specs.Banks.{IsBankIn, IsStateWith}
use Rattle.abs_state.proofs.Whole.{states_are_ordered}

-- ---- registers and intervals with one written

value_there : (vs : List AbsByte) (d : ℕ) (v : AbsByte) → d < length vs → value_at (slice_set vs d v) d ≡ v
value_there vs d v lt = grind (arith, elements)

value_other : (vs : List AbsByte) (d r : ℕ) (v : AbsByte) → r ≢ d → value_at (slice_set vs d v) r ≡ value_at vs r
value_other vs d r v ne = grind (arith, elements)

pub interval_there : (is : List Interval) (n : ℕ) (i : Interval) → n < length is → interval_at (slice_set is n i) n ≡ i
interval_there is n i lt = grind (arith, elements)

pub interval_other : (is : List Interval) (n k : ℕ) (i : Interval) → k ≢ n → interval_at (slice_set is n i) k ≡ interval_at is k
interval_other is n k i ne = grind (arith, elements)

module _ (vs : List AbsByte) (n : ℕ) (p : PairSet) (count : length vs ≡ 34) (lt : n < 16) where
  low_there : value_at (pair_set vs n p) (2 * n) ≡ valued (value_at vs (2 * n)).tag p.low
  low_there =
      value_other (slice_set vs (2 * n) (valued (value_at vs (2 * n)).tag p.low)) (2 * n + 1) (2 * n) (valued (value_at vs (2 * n + 1)).tag p.high) (omega arith)
      ∙ value_there vs (2 * n) (valued (value_at vs (2 * n)).tag p.low) (omega (arith, lt, count))

  high_there : value_at (pair_set vs n p) (2 * n + 1) ≡ valued (value_at vs (2 * n + 1)).tag p.high
  high_there =
      value_there (slice_set vs (2 * n) (valued (value_at vs (2 * n)).tag p.low)) (2 * n + 1) (valued (value_at vs (2 * n + 1)).tag p.high)
      (omega (arith, lt, count, length-set vs (2 * n) (valued (value_at vs (2 * n)).tag p.low)))

  rest_there : (r : ℕ) → r ≢ 2 * n → r ≢ 2 * n + 1 → value_at (pair_set vs n p) r ≡ value_at vs r
  rest_there r low high =
      value_other (slice_set vs (2 * n) (valued (value_at vs (2 * n)).tag p.low)) (2 * n + 1) r (valued (value_at vs (2 * n + 1)).tag p.high) high
      ∙ value_other vs (2 * n) r (valued (value_at vs (2 * n)).tag p.low) low

-- a property of the pair's registers and of each other register holds of all
each_register : (Q : ℕ → AbsByte → Type 0) (vs : List AbsByte) (n : ℕ) (p : PairSet) → length vs ≡ 34 → n < 16 → Q (2 * n) (valued (value_at vs (2 * n)).tag p.low)
    → Q (2 * n + 1) (valued (value_at vs (2 * n + 1)).tag p.high) → ((r : ℕ) → r < 34 → Q r (value_at vs r)) → (r : ℕ) → r < 34 → Q r (value_at (pair_set vs n p) r)
each_register Q vs n p count lt low high rest r small = by (cases_eq r (2 * n + 1)) (cases_eq r (2 * n))
  where
    by : (r ≡ 2 * n + 1) ⊎ (r ≡ 2 * n + 1 → ⊥) → (r ≡ 2 * n) ⊎ (r ≡ 2 * n → ⊥) → Q r (value_at (pair_set vs n p) r)
    by (inl e) other =
        let P : ℕ → Type 0 = λ k. Q k (value_at (pair_set vs n p) k) in
        subst P (sym e) (subst (Q (2 * n + 1)) (sym (high_there vs n p count lt)) high)
    by (inr ne) (inl e) =
        let P : ℕ → Type 0 = λ k. Q k (value_at (pair_set vs n p) k) in
        subst P (sym e) (subst (Q (2 * n)) (sym (low_there vs n p count lt)) low)
    by (inr ne) (inr other) = subst (Q r) (sym (rest_there vs n p count lt r other ne)) (rest r small)

pub each_interval : (Q : ℕ → Interval → Type 0) (is : List Interval) (n : ℕ) (i : Interval) → length is ≡ 16 → n < 16 → Q n i → ((k : ℕ) → k < 16 → Q k (interval_at is k))
    → (k : ℕ) → k < 16 → Q k (interval_at (slice_set is n i) k)
each_interval Q is n i count lt here rest k small = by (cases_eq k n)
  where
    by : (k ≡ n) ⊎ (k ≡ n → ⊥) → Q k (interval_at (slice_set is n i) k)
    by (inl e) =
        let P : ℕ → Type 0 = λ m. Q m (interval_at (slice_set is n i) m) in
        subst P (sym e) (subst (Q n) (sym (interval_there is n i (omega (arith, lt, count)))) here)
    by (inr ne) = subst (Q k) (sym (interval_other is n k i ne)) (rest k small)

-- a relation of the pair's registers and of each other register holds of all, in two lists
both_registers : (vs ws : List AbsByte) (n : ℕ) (p q : PairSet) → length vs ≡ 34 → length ws ≡ 34 → n < 16
    → IsByteWithin (valued (value_at vs (2 * n)).tag p.low) (valued (value_at ws (2 * n)).tag q.low)
    → IsByteWithin (valued (value_at vs (2 * n + 1)).tag p.high) (valued (value_at ws (2 * n + 1)).tag q.high) → ((r : ℕ) → r < 34 → IsByteWithin (value_at vs r) (value_at ws r))
    → (r : ℕ) → r < 34 → IsByteWithin (value_at (pair_set vs n p) r) (value_at (pair_set ws n q) r)
both_registers vs ws n p q m k lt low high rest r small = by (cases_eq r (2 * n + 1)) (cases_eq r (2 * n))
  where
    by : (r ≡ 2 * n + 1) ⊎ (r ≡ 2 * n + 1 → ⊥) → (r ≡ 2 * n) ⊎ (r ≡ 2 * n → ⊥) → IsByteWithin (value_at (pair_set vs n p) r) (value_at (pair_set ws n q) r)
    by (inl e) other =
        let P : ℕ → Type 0 = λ j. IsByteWithin (value_at (pair_set vs n p) j) (value_at (pair_set ws n q) j) in
        subst P (sym e) (subst₂ IsByteWithin (sym (high_there vs n p m lt)) (sym (high_there ws n q k lt)) high)
    by (inr ne) (inl e) =
        let P : ℕ → Type 0 = λ j. IsByteWithin (value_at (pair_set vs n p) j) (value_at (pair_set ws n q) j) in
        subst P (sym e) (subst₂ IsByteWithin (sym (low_there vs n p m lt)) (sym (low_there ws n q k lt)) low)
    by (inr ne) (inr other) = subst₂ IsByteWithin (sym (rest_there vs n p m lt r other ne)) (sym (rest_there ws n q k lt r other ne)) (rest r small)

pub both_intervals : (is js : List Interval) (n : ℕ) (i j : Interval) → length is ≡ 16 → length js ≡ 16 → n < 16 → IsIntervalWithin i j
    → ((k : ℕ) → k < 16 → IsIntervalWithin (interval_at is k) (interval_at js k)) → (k : ℕ) → k < 16 → IsIntervalWithin (interval_at (slice_set is n i) k) (interval_at (slice_set js n j) k)
both_intervals is js n i j a b lt here rest k small = by (cases_eq k n)
  where
    by : (k ≡ n) ⊎ (k ≡ n → ⊥) → IsIntervalWithin (interval_at (slice_set is n i) k) (interval_at (slice_set js n j) k)
    by (inl e) =
        let P : ℕ → Type 0 = λ m. IsIntervalWithin (interval_at (slice_set is n i) m) (interval_at (slice_set js n j) m) in
        subst P (sym e) (subst₂ IsIntervalWithin (sym (interval_there is n i (omega (arith, lt, a)))) (sym (interval_there js n j (omega (arith, lt, b)))) here)
    by (inr ne) = subst₂ IsIntervalWithin (sym (interval_other is n k i ne)) (sym (interval_other js n k j ne)) (rest k small)

abbrev pair_state : AbsState → PairFacts → ℕ → PairSet → AbsState
pair_state s f n p = record s { registers = pair_set s.registers n p; facts = Some (record f { intervals = slice_set f.intervals n p.interval }) }

with_was : (s t : AbsState) (f : PairFacts) (n : ℕ) (o : Option PairSet) → with_pair s f n o ≡ Some t → (p : PairSet) × ((o ≡ Some p) × (pair_state s f n p ≡ t))
with_was s t f n None e = absurd (cc)
with_was s t f n (Some p) e = (p, (refl, cc))

-- ---- the laws

module _ (cut : PairSet → Option PairSet) (o : Origin) (s : AbsState) (n : ℕ) (registers : List ℕ) (sreg : ℕ) (whole : IsWhole s) (lt : n < 16)
    (keep : KeepsPair cut (slice_index registers (2 * n)) (slice_index registers (2 * n + 1))) (stand : RegistersStand o s.registers registers) where
  keeps_known : (x : Option PairFacts) → s.facts ≡ x → HasSixteen x → HoldsAt x registers sreg
      → (t : AbsState) × (cut_known cut s n x ≡ Some t) × RegistersStand o t.registers registers × HoldsAt t.facts registers sreg
  keeps_known None is count h = (s, refl, stand, subst (λ (y : Option PairFacts). HoldsAt y registers sreg) (sym is) tt)
  keeps_known (Some f) is count h =
      let lo = stand (2 * n) (omega (arith, lt)) in
      let hi = stand (2 * n + 1) (omega (arith, lt)) in
      let p = pair_of s.registers f.intervals n in
      let m =
      keep p (record {
        low = record { bits = lo.bits; low = lo.low; high = lo.high; small = lo.small };
        high = record { bits = hi.bits; low = hi.low; high = hi.high; small = hi.small };
        interval = h.intervals n lt;
      }) in
      let q = m.1.1 in (
        pair_state s f n m.0,
        ap (with_pair s f n) m.1.0,
        each_register (λ (r : ℕ) (v : AbsByte). ByteStands o v (slice_index registers r)) s.registers n m.0 whole.registers lt
            (record { tag = lo.tag; bits = q.low.bits; low = q.low.low; high = q.low.high; small = q.low.small })
            (record { tag = hi.tag; bits = q.high.bits; low = q.high.low; high = q.high.high; small = q.high.small }) stand,
        record {
          intervals = each_interval (λ (k : ℕ) (i : Interval). InInterval i (pair_number registers (2 * k))) f.intervals n m.0.interval count lt q.interval h.intervals;
          sum = h.sum;
          compare = h.compare;
          zero = h.zero;
        },
      )

under_known : (cut : PairSet → Option PairSet) (s t : AbsState) (n : ℕ) → IsWhole s → n < 16 → SaysMore cut → (x : Option PairFacts) → s.facts ≡ x → HasSixteen x → cut_known cut s n x ≡ Some t
    → IsStateWithin t s
under_known cut s t n whole lt says None is count e = let P : AbsState → Type 0 = λ u. IsStateWithin u s in let same : s ≡ t = cc in subst P same (states_are_ordered.same s)
under_known cut s t n whole lt says (Some f) is count e =
    let was = with_was s t f n (cut (pair_of s.registers f.intervals n)) e in
    let w = says (pair_of s.registers f.intervals n) was.0 was.1.0 in
    let same = states_are_ordered.same s in
    let lo = same.registers (2 * n) (omega (arith, lt)) in
    let hi = same.registers (2 * n + 1) (omega (arith, lt)) in
    let known : IsKnownWithin (Some (record f { intervals = slice_set f.intervals n was.0.interval })) (Some f) = record {
      intervals =
          each_interval (λ (k : ℕ) (i : Interval). IsIntervalWithin i (interval_at f.intervals k)) f.intervals n was.0.interval count lt w.interval
          (λ k small. intervals_are_ordered.same (interval_at f.intervals k));
      sum = sums_are_ordered.same f.sum;
      compare = compares_are_ordered.same f.compare;
      zero = zeros_are_ordered.same f.zero;
    } in
    subst (λ (u : AbsState). IsStateWithin u s) was.1.1 record {
      registers =
          each_register (λ (r : ℕ) (v : AbsByte). IsByteWithin v (value_at s.registers r)) s.registers n was.0 whole.registers lt
          (record { tag = lo.tag; bits = w.low.bits; low = w.low.low; high = w.low.high }) (record { tag = hi.tag; bits = w.high.bits; low = w.high.low; high = w.high.high })
          same.registers;
      flags = same.flags;
      count = same.count;
      slots = same.slots;
      facts = subst (IsKnownWithin (Some (record f { intervals = slice_set f.intervals n was.0.interval }))) (sym is) known;
    }

more_known : (cut cut' : PairSet → Option PairSet) (s s' t : AbsState) (n : ℕ) → IsWhole s → IsWhole s' → n < 16 → SaysMore cut → IsMonotone cut cut' → IsStateWithin s s'
    → (x x' : Option PairFacts) → s.facts ≡ x → HasSixteen x → HasSixteen x' → IsKnownWithin x x' → cut_known cut s n x ≡ Some t
    → (t' : AbsState) × (cut_known cut' s' n x' ≡ Some t') × IsStateWithin t t'
more_known cut cut' s s' t n a b lt says mono le x None is c c' within e =
    (s', refl, states_are_ordered.through t s s' (under_known cut s t n a lt says x is c e) le)
more_known cut cut' s s' t n a b lt says mono le None (Some f') is c c' within e = absurd within
more_known cut cut' s s' t n a b lt says mono le (Some f) (Some f') is c c' within e =
    let was = with_was s t f n (cut (pair_of s.registers f.intervals n)) e in
    let lo = le.registers (2 * n) (omega (arith, lt)) in
    let hi = le.registers (2 * n + 1) (omega (arith, lt)) in
    let m =
    mono (pair_of s.registers f.intervals n) (pair_of s'.registers f'.intervals n) was.0
    (record {
      low = record { bits = lo.bits; low = lo.low; high = lo.high };
      high = record { bits = hi.bits; low = hi.low; high = hi.high };
      interval = within.intervals n lt;
    }) was.1.0 in
    let w = m.1.1 in (
      pair_state s' f' n m.0,
      ap (with_pair s' f' n) m.1.0,
      subst (λ (u : AbsState). IsStateWithin u (pair_state s' f' n m.0)) was.1.1 record {
        registers =
            both_registers s.registers s'.registers n was.0 m.0 a.registers b.registers lt
            (record { tag = lo.tag; bits = w.low.bits; low = w.low.low; high = w.low.high }) (record { tag = hi.tag; bits = w.high.bits; low = w.high.low; high = w.high.high })
            le.registers;
        flags = le.flags;
        count = le.count;
        slots = le.slots;
        facts = record {
          intervals = both_intervals f.intervals f'.intervals n was.0.interval m.0.interval c c' lt w.interval within.intervals;
          sum = within.sum;
          compare = within.compare;
          zero = within.zero;
        };
      },
    )

formed_known : (cut : PairSet → Option PairSet) (s t : AbsState) (n offset : ℕ) → n < 16 → LeavesFit cut → IsFormed s offset → (x : Option PairFacts) → KnownFits x → cut_known cut s n x ≡ Some t
    → IsFormed t offset
formed_known cut s t n offset lt fit a None fits e = let P : AbsState → Type 0 = λ u. IsFormed u offset in let same : s ≡ t = cc in subst P same a
formed_known cut s t n offset lt fit a (Some f) fits e =
    let was = with_was s t f n (cut (pair_of s.registers f.intervals n)) e in
    let w =
    fit (pair_of s.registers f.intervals n) was.0
    (record { low = a.ranges (2 * n) (omega (arith, lt)); high = a.ranges (2 * n + 1) (omega (arith, lt)); interval = fits.intervals n lt }) was.1.0 in
    let p = was.0 in
    subst (λ (u : AbsState). IsFormed u offset) was.1.1 record {
      count_registers =
          length-set (slice_set s.registers (2 * n) (valued (value_at s.registers (2 * n)).tag p.low)) (2 * n + 1) (valued (value_at s.registers (2 * n + 1)).tag p.high)
          ∙ length-set s.registers (2 * n) (valued (value_at s.registers (2 * n)).tag p.low)
          ∙ a.count_registers;
      registers =
          each_register (λ (r : ℕ) (v : AbsByte). NamesRegister v.tag) s.registers n p a.count_registers lt (a.registers (2 * n) (omega (arith, lt)))
          (a.registers (2 * n + 1) (omega (arith, lt))) a.registers;
      bit_7 = a.bit_7;
      count_slots = a.count_slots;
      slots = a.slots;
      carry = a.carry;
      ranges = each_register (λ (r : ℕ) (v : AbsByte). ByteFits v) s.registers n p a.count_registers lt w.low w.high a.ranges;
      slot_ranges = a.slot_ranges;
      facts = record {
        count = length-set f.intervals n p.interval ∙ fits.count;
        intervals = each_interval (λ (k : ℕ) (i : Interval). IntervalFits i) f.intervals n p.interval fits.count lt w.interval fits.intervals;
        sum = fits.sum;
        compare = fits.compare;
        zero = fits.zero;
      };
    }

-- a cut keeps tags, and it is of r0 to r31
of_known : (cut : PairSet → Option PairSet) (good : Tag → Bool) (device : Device) (is_root : Bool) (s t : AbsState) (n : ℕ) → IsWhole s → n < 16 → IsStateWith good device is_root s
    → (x : Option PairFacts) → cut_known cut s n x ≡ Some t → IsStateWith good device is_root t
of_known cut good device is_root s t n whole lt a None e = let same : s ≡ t = cc in subst (IsStateWith good device is_root) same a
of_known cut good device is_root s t n whole lt a (Some f) e =
    let was = with_was s t f n (cut (pair_of s.registers f.intervals n)) e in
    let tags = each_register (λ (r : ℕ) (v : AbsByte). r < 32 → good v.tag ≡ true) s.registers n was.0 whole.registers lt (a.registers (2 * n)) (a.registers (2 * n + 1))
    (λ r small. a.registers r) in
    subst (IsStateWith good device is_root) was.1.1 record {
      registers = λ r low. tags r (omega (arith, low)) low;
      slots = a.slots;
      rampz = subst (IsBankIn good device is_root RAMPZ) (sym (rest_there s.registers n was.0 whole.registers lt RAMPZ (omega (arith, lt)) (omega (arith, lt)))) a.rampz;
      eind = subst (IsBankIn good device is_root EIND) (sym (rest_there s.registers n was.0 whole.registers lt EIND (omega (arith, lt)) (omega (arith, lt)))) a.eind;
    }

pub states_are_cut : StatesAreCut
states_are_cut = record {
  keeps = λ cut o s n registers sreg whole lt keep stand h. keeps_known cut o s n registers sreg whole lt keep stand s.facts refl whole.pairs h;
  under = λ cut s t n whole lt says e. under_known cut s t n whole lt says s.facts refl whole.pairs e;
  formed = λ cut s t n offset lt fit a e. formed_known cut s t n offset lt fit a s.facts a.facts e;
  of = λ cut good device is_root s t n whole lt a e. of_known cut good device is_root s t n whole lt a s.facts e;
  more = λ cut cut' s s' t n a b lt says mono le e. more_known cut cut' s s' t n a b lt says mono le s.facts s'.facts refl a.pairs b.pairs le.facts e;
}
