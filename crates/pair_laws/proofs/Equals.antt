-- The state if two registers are equal, or differ.
use Rattle.std.proofs.Common.{◌≡◌, ◌≢◌, refl, sym, ◌∙◌, ap, subst, ℕ, ◌+◌, ◌-◌, ◌*◌, ◌/◌, ◌%◌, ◌<◌, ◌≤◌, ◌⊎◌, inl, inr, max, min, nat_le, Bool, true, false, length, Option, Some, None, slice_set, arith}
use Rattle.std.specs.Prelude.{◌==◌, if◌then◌else◌}
use Rattle.std.specs.Int.{from_bool}
use Rattle.std.specs.Int.RustNames.{bit_or}
use Rattle.std.proofs.lemmas.Bool.{eqb-true, eqb-false, eq-eqb, ne_eqb, cases_eq}
use Rattle.std.proofs.lemmas.Bool.Decides.{nat_tests}
use Rattle.std.proofs.lemmas.Nat.Bits.{bit_at_or, bit_at-zero, same_from_bits}
use Rattle.avr_model.specs.State.{State, register}
use Rattle.bit_domain.specs.declared.bytes.TriByte.{TriByte}
use Rattle.bit_domain.specs.Tri.{Permits, permits}
use Rattle.bit_domain.specs.TriByte.{Has, IsWithin, byte_known, byte_constant}
use Rattle.bit_domain.specs.Logic.{byte_equal}
use Rattle.bit_domain.specs.Ranges.{ByteSet, IsSetWithin, RangeFits, most_of}
use Rattle.bit_domain.proofs.AllLaws.{bytes_are_their_bits, bytes_are_sets, tests_tell_members, logic_covers, logic_is_monotone}
use Rattle.pair_domain.specs.declared.intervals.Interval.{Interval}
use Rattle.pair_domain.specs.declared.facts.PairFacts.{PairFacts}
use Rattle.pair_domain.specs.Intervals.{InInterval, IsIntervalWithin, interval_if, interval_from, interval_meet, hull}
use Rattle.pair_domain.specs.Facts.{interval_at, AreFactsWithin, IsKnownWithin, HasSixteen}
use Rattle.pair_domain.specs.Rank.{KnownFits}
use Rattle.pair_domain.specs.Compare.{off, without}
use Rattle.pair_domain.specs.Narrow.{narrow}
use Rattle.pair_domain.specs.PairSets.{PairSet, IsPairWithin, with_interval, cut_pair, with_low, with_high}
use Rattle.pair_domain.proofs.AllLaws.{narrowing_cuts, pairs_are_cut}
use Rattle.abs_state.specs.declared.state.AbsState.{AbsState}
use Rattle.abs_state.specs.Values.{value_at, set_of}
use Rattle.abs_state.specs.Order.{IsByteWithin, IsStateWithin}
use Rattle.abs_state.specs.Formed.{IsFormed}
use Rattle.abs_state.specs.Cuts.{pair_of, pair_set, with_pair, cut_known}
use Rattle.abs_state.proofs.AllLaws.{states_are_ordered, joins_are_formed}
use Rattle.abs_state.specs.Hulls.{AreInHulls}
use Rattle.pair_cuts.specs.declared.places.CutPlace.TheVariants as place
use Rattle.pair_cuts.specs.Places.{on_byte, narrow_byte, range_of, narrow_to}
use Rattle.pair_cuts.specs.Cuts.{just, same_cut, equal_by, equal_cut}
use Rattle.pair_laws.specs.CutLaws.{KeepsMachine, LeavesLess, EqualsAreCut}
use Rattle.pair_laws.proofs.Steps.{low_there, high_there, rest_there, interval_there, interval_other, pair_state, nothing_keeps, nothing_leaves}
use Rattle.pair_laws.proofs.Bytes.{set_same, pair_through}
use Rattle.pair_laws.proofs.Places.{even_half, narrow_bounds}
use Rattle.pair_laws.proofs.Compared.{equal_keeps, same_keeps, same_leaves, same_more}

-- ---- bytes of which all bits are known

constant_was : (t : TriByte) (k : ℕ) → byte_constant t ≡ Some k → (t.known ≡ 255) × (t.value ≡ k)
constant_was t k e = by (t.known == 255) refl e
  where
    by : (b : Bool) → (t.known == 255) ≡ b → (if b then Some t.value else None) ≡ Some k → (t.known ≡ 255) × (t.value ≡ k)
    by true all e = (eqb-true t.known 255 all, cc)
    by false all e = absurd (cc)

constant_is : (t : TriByte) (k x : ℕ) → byte_constant t ≡ Some k → x < 256 → Has t x → x ≡ k
constant_is t k x e lt has =
    let known = constant_was t k e in
    let same : t ≡ byte_known t.value = bytes_are_sets.constant t known.0 in
    (bytes_are_sets.known t.value x (bytes_are_sets.member t).0 lt).0 (subst (λ (u : TriByte). Has u x) same has) ∙ known.1

constant_has : (t : TriByte) (k : ℕ) → byte_constant t ≡ Some k → (k < 256) × Has t k
constant_has t k e =
    let known = constant_was t k e in
    let member = bytes_are_sets.member t in
    (omega (arith, known.1, member.0), subst (Has t) known.1 member.1)

-- a byte within a known one is equal to it
constant_less : (t u : TriByte) (k : ℕ) → IsWithin t u → byte_constant u ≡ Some k → byte_constant t ≡ Some k
constant_less t u k le e =
    let member = bytes_are_sets.member t in
    let is : t.value ≡ k = constant_is u k t.value e member.0 (le t.value member.0 member.1) in
    let back : IsWithin u t = λ x lt has. subst (Has t) (is ∙ sym (constant_is u k x e lt has)) member.1 in
    let same : t ≡ u = bytes_are_their_bits.from_sets t u le back in
    subst (λ (v : TriByte). byte_constant v ≡ Some k) (sym same) e

or_none : (n : ℕ) → bit_or n 0 ≡ n
or_none n = same_from_bits (bit_or n 0) n (λ i. let e = bit_at_or n 0 i in let z = bit_at-zero i in omega (arith, e, z))

-- its range has only this byte
constant_range : (b : ByteSet) (k : ℕ) → RangeFits b → byte_constant b.bits ≡ Some k → (b.low ≡ k) × (b.high ≡ k)
constant_range b k fits e =
    let known = constant_was b.bits k e in
    let most : most_of b.bits ≡ b.bits.value = ap (λ (n : ℕ). bit_or b.bits.value (255 - n)) known.0 ∙ or_none b.bits.value in
    (omega (arith, known.1, most, fits.low, fits.ordered, fits.high), omega (arith, known.1, most, fits.low, fits.ordered, fits.high))

flip : (x y : ℕ) (b : Bool) → (x == y) ≡ b → (y == x) ≡ b
flip x y true e = eq-eqb y x (sym (eqb-true x y e))
flip x y false e = ne_eqb y x (λ is. eqb-false x y e (sym is))

-- ---- the test

module _ (d r : ℕ) (b : Bool) where
  abbrev MayBe : AbsState → Type 0
  MayBe s = Permits (byte_equal (value_at s.registers d).bits (value_at s.registers r).bits) (from_bool b)

  abbrev cut : AbsState → Option AbsState
  cut s = equal_by d r b (byte_constant (value_at s.registers r).bits) (byte_constant (value_at s.registers d).bits) s

  equal_was : (s t : AbsState) → equal_cut d r b s ≡ Some t → MayBe s × (cut s ≡ Some t)
  equal_was s t e = by (permits (byte_equal (value_at s.registers d).bits (value_at s.registers r).bits) (from_bool b)) refl e
    where
      by : (u : Bool) → permits (byte_equal (value_at s.registers d).bits (value_at s.registers r).bits) (from_bool b) ≡ u → (if u then cut s else None) ≡ Some t
          → MayBe s × (cut s ≡ Some t)
      by true may e = ((tests_tell_members.bits (byte_equal (value_at s.registers d).bits (value_at s.registers r).bits) (from_bool b)).0 may, e)
      by false may e = absurd (cc)

  equal_some : (s : AbsState) → MayBe s → equal_cut d r b s ≡ cut s
  equal_some s may =
      ap (λ (u : Bool). if u then cut s else None) ((tests_tell_members.bits (byte_equal (value_at s.registers d).bits (value_at s.registers r).bits) (from_bool b)).1 may)

module _ (d r : ℕ) (b : Bool) (left : d < 32) (right : r < 32) where
  equal_keeps_by : (m : State) → (register m d == register m r) ≡ b → (x y : Option ℕ) → ((k : ℕ) → x ≡ Some k → register m r ≡ k) → ((k : ℕ) → y ≡ Some k → register m d ≡ k)
      → KeepsMachine m (equal_by d r b x y)
  equal_keeps_by m is (Some k) y known known' = same_keeps (place.Byte d) b k m left tt (subst (λ (n : ℕ). (register m d == n) ≡ b) (known k refl) is)
  equal_keeps_by m is None (Some k) known known' =
      same_keeps (place.Byte r) b k m right tt (flip k (register m r) b (subst (λ (n : ℕ). (n == register m r) ≡ b) (known' k refl) is))
  equal_keeps_by m is None None known known' = nothing_keeps m

  equal_keeps_all : (m : State) → (register m d == register m r) ≡ b → KeepsMachine m (equal_cut d r b)
  equal_keeps_all m is o s offset a h =
      let at = h.stands.registers d (omega (arith, left)) in
      let at' = h.stands.registers r (omega (arith, right)) in
      let bits = (value_at s.registers d).bits in
      let bits' = (value_at s.registers r).bits in
      let may =
      subst (λ (u : Bool). Permits (byte_equal bits bits') (from_bool u)) is (logic_covers.tests bits bits' (register m d) (register m r) at.small at'.small at.bits at'.bits) in
      let t =
      equal_keeps_by m is (byte_constant bits') (byte_constant bits) (λ k e. constant_is bits' k (register m r) e at'.small at'.bits)
      (λ k e. constant_is bits k (register m d) e at.small at.bits) o s offset a h in
      (t.0, (equal_some d r b s may ∙ t.1.0, t.1.1))

  equal_leaves_by : (x y : Option ℕ) → LeavesLess (equal_by d r b x y)
  equal_leaves_by (Some k) y = same_leaves (place.Byte d) b k left
  equal_leaves_by None (Some k) = same_leaves (place.Byte r) b k right
  equal_leaves_by None None = nothing_leaves

  equal_leaves_all : LeavesLess (equal_cut d r b)
  equal_leaves_all s t offset a e =
      equal_leaves_by (byte_constant (value_at s.registers r).bits) (byte_constant (value_at s.registers d).bits) s t offset a (equal_was d r b s t e).1

-- ---- both are known in the lesser state: what is left of it lies within a cut of the other register

-- the meet with an interval around it is the interval itself
meets_within : (i h : Interval) → i.low ≤ i.high → IsIntervalWithin i h → (j : Interval) × ((interval_meet i h ≡ Some j) × IsIntervalWithin i j)
meets_within i h ordered le =
    let lo = max i.low h.low in
    let hi = min i.high h.high in
    let some : nat_le lo hi ≡ true = grind (arith, nat_tests, ordered, le.low, le.high) in (
      record { low = lo; high = hi },
      (ap (λ (t : Bool). interval_if t lo hi) some, record { low = omega (arith, le.low); high = omega (arith, le.high) }),
    )

-- a pair whose interval lies in the hull keeps it under a cut to the hull
hull_stays : (p q : PairSet) → p.interval.low ≤ p.interval.high → IsIntervalWithin p.interval (hull p.low p.high) → IsPairWithin p q → (m : PairSet) × ((cut_pair q ≡ Some m) × IsPairWithin p m)
hull_stays p q ordered inside le =
    let j = meets_within p.interval (hull p.low p.high) ordered inside in
    let own : IsPairWithin p (record p { interval = j.0 }) = record { low = set_same p.low; high = set_same p.high; interval = j.1.1 } in
    let m = pairs_are_cut.hull_more p q (record p { interval = j.0 }) le (ap (with_interval p) j.1.0) in
    (m.0, (m.1.0, pair_through p (record p { interval = j.0 }) m.0 own m.1.1))

-- a known byte in the range stays
known_stays : (b b' : ByteSet) (i : Interval) (k : ℕ) → byte_constant b.bits ≡ Some k → b.low ≡ k → b.high ≡ k → IsSetWithin b b' → InInterval i k
    → (m : ByteSet) × ((narrow b' i.low i.high ≡ Some m) × IsSetWithin b m)
known_stays b b' i k e low high le inside =
    let has = constant_has b.bits k e in
    let m =
    narrowing_cuts.keeps b' i.low i.high k (record { bits = le.bits k has.0 has.1; low = omega (arith, low, le.low); high = omega (arith, high, le.high); small = has.0 }) inside.low inside.high in (
      m.0,
      (
        m.1.0,
        record {
          bits = λ x lt has'. subst (Has m.0.bits) (sym (constant_is b.bits k x e lt has')) m.1.1.bits;
          low = omega (arith, low, m.1.1.low);
          high = omega (arith, high, m.1.1.high);
        },
      ),
    )

module _ (p q : PairSet) (i : Interval) (k : ℕ) (ordered : p.interval.low ≤ p.interval.high) (inside : IsIntervalWithin p.interval (hull p.low p.high)) (le : IsPairWithin p q) (is_in : InInterval i k) where
  low_stays : byte_constant p.low.bits ≡ Some k → p.low.low ≡ k → p.low.high ≡ k → (m : PairSet) × ((with_low q (narrow q.low i.low i.high) ≡ Some m) × IsPairWithin p m)
  low_stays e low high =
      let s = known_stays p.low q.low i k e low high le.low is_in in
      let m = hull_stays p (record q { low = s.0 }) ordered inside (record { low = s.1.1; high = le.high; interval = le.interval }) in
      (m.0, (ap (with_low q) s.1.0 ∙ m.1.0, m.1.1))

  high_stays : byte_constant p.high.bits ≡ Some k → p.high.low ≡ k → p.high.high ≡ k → (m : PairSet) × ((with_high q (narrow q.high i.low i.high) ≡ Some m) × IsPairWithin p m)
  high_stays e low high =
      let s = known_stays p.high q.high i k e low high le.high is_in in
      let m = hull_stays p (record q { high = s.0 }) ordered inside (record { low = le.low; high = s.1.1; interval = le.interval }) in
      (m.0, (ap (with_high q) s.1.0 ∙ m.1.0, m.1.1))

-- a state is within a greater one if its pair is within the other's
module _ (t s : AbsState) (f g : PairFacts) (n : ℕ) (q : PairSet) (lt : n < 16) (count : length s.registers ≡ 34) (pairs : length g.intervals ≡ 16) (is : t.facts ≡ Some f) (le : IsStateWithin t s)
    (facts : AreFactsWithin f g) (pair : IsPairWithin (pair_of t.registers f.intervals n) q) where
  register_within : (r : ℕ) → r < 34 → IsByteWithin (value_at t.registers r) (value_at (pair_set s.registers n q) r)
  register_within r small = by (cases_eq r (2 * n + 1)) (cases_eq r (2 * n))
    where
      lo : IsByteWithin (value_at t.registers (2 * n)) (value_at s.registers (2 * n))
      lo = le.registers (2 * n) (omega (arith, lt))

      hi : IsByteWithin (value_at t.registers (2 * n + 1)) (value_at s.registers (2 * n + 1))
      hi = le.registers (2 * n + 1) (omega (arith, lt))

      by : (r ≡ 2 * n + 1) ⊎ (r ≡ 2 * n + 1 → ⊥) → (r ≡ 2 * n) ⊎ (r ≡ 2 * n → ⊥) → IsByteWithin (value_at t.registers r) (value_at (pair_set s.registers n q) r)
      by (inl e) other =
          let P : ℕ → Type 0 = λ k. IsByteWithin (value_at t.registers k) (value_at (pair_set s.registers n q) k) in
          subst P (sym e)
          (subst (IsByteWithin (value_at t.registers (2 * n + 1))) (sym (high_there s.registers n q count lt))
          (record { tag = hi.tag; bits = pair.high.bits; low = pair.high.low; high = pair.high.high }))
      by (inr ne) (inl e) =
          let P : ℕ → Type 0 = λ k. IsByteWithin (value_at t.registers k) (value_at (pair_set s.registers n q) k) in
          subst P (sym e)
          (subst (IsByteWithin (value_at t.registers (2 * n))) (sym (low_there s.registers n q count lt))
          (record { tag = lo.tag; bits = pair.low.bits; low = pair.low.low; high = pair.low.high }))
      by (inr ne) (inr other) = subst (IsByteWithin (value_at t.registers r)) (sym (rest_there s.registers n q count lt r other ne)) (le.registers r small)

  interval_within : (k : ℕ) → k < 16 → IsIntervalWithin (interval_at f.intervals k) (interval_at (slice_set g.intervals n q.interval) k)
  interval_within k small = by (cases_eq k n)
    where
      by : (k ≡ n) ⊎ (k ≡ n → ⊥) → IsIntervalWithin (interval_at f.intervals k) (interval_at (slice_set g.intervals n q.interval) k)
      by (inl e) =
          let P : ℕ → Type 0 = λ j. IsIntervalWithin (interval_at f.intervals j) (interval_at (slice_set g.intervals n q.interval) j) in
          subst P (sym e) (subst (IsIntervalWithin (interval_at f.intervals n)) (sym (interval_there g.intervals n q.interval (omega (arith, lt, pairs)))) pair.interval)
      by (inr ne) = subst (IsIntervalWithin (interval_at f.intervals k)) (sym (interval_other g.intervals n k q.interval ne)) (facts.intervals k small)

  state_within : IsStateWithin t (pair_state s g n q)
  state_within =
      let known : IsKnownWithin (Some f) (Some (record g { intervals = slice_set g.intervals n q.interval })) =
      record { intervals = interval_within; sum = facts.sum; compare = facts.compare; zero = facts.zero } in
      record {
        registers = register_within;
        flags = le.flags;
        count = le.count;
        slots = le.slots;
        facts = subst (λ (x : Option PairFacts). IsKnownWithin x (Some (record g { intervals = slice_set g.intervals n q.interval }))) (sym is) known;
      }

-- a known register and an interval with its byte
module _ (t s : AbsState) (f g : PairFacts) (offset r k : ℕ) (i : Interval) (lt : r < 32) (a : IsFormed t offset) (b : IsFormed s offset) (is : t.facts ≡ Some f) (is' : s.facts ≡ Some g)
    (le : IsStateWithin t s) (hulls : AreInHulls t.registers t.facts) (known : byte_constant (value_at t.registers r).bits ≡ Some k) (is_in : InInterval i k) where
  abbrev n : ℕ
  n = r / 2

  n_small : n < 16
  n_small = omega (arith, lt)

  abbrev own : PairSet
  own = pair_of t.registers f.intervals n

  abbrev above : PairSet
  above = pair_of s.registers g.intervals n

  facts_le : AreFactsWithin f g
  facts_le =
      let known_le : IsKnownWithin (Some f) s.facts = subst (λ (x : Option PairFacts). IsKnownWithin x s.facts) is le.facts in
      let both : IsKnownWithin (Some f) (Some g) = subst (λ (x : Option PairFacts). IsKnownWithin (Some f) x) is' known_le in
      both

  own_fits : own.interval.low ≤ own.interval.high
  own_fits = let fits : KnownFits (Some f) = subst KnownFits is a.facts in (fits.intervals n n_small).ordered

  own_in_hull : IsIntervalWithin own.interval (hull own.low own.high)
  own_in_hull = let h : AreInHulls t.registers (Some f) = subst (AreInHulls t.registers) is hulls in h n n_small

  own_le : IsPairWithin own above
  own_le =
      let lo = le.registers (2 * n) (omega (arith, n_small)) in
      let hi = le.registers (2 * n + 1) (omega (arith, n_small)) in
      record {
        low = record { bits = lo.bits; low = lo.low; high = lo.high };
        high = record { bits = hi.bits; low = hi.low; high = hi.high };
        interval = facts_le.intervals n n_small;
      }

  abbrev KnownAt : ℕ → Type 0
  KnownAt j = byte_constant (value_at t.registers j).bits ≡ Some k

  stays_by : (even : Bool) → (r % 2 == 0) ≡ even
      → (m : PairSet) × (((if even then with_low above (narrow above.low i.low i.high) else with_high above (narrow above.high i.low i.high)) ≡ Some m) × IsPairWithin own m)
  stays_by true even =
      let same : r ≡ 2 * n = sym (even_half r (eqb-true (r % 2) 0 even)) in
      let e : KnownAt (2 * n) = subst KnownAt same known in
      let range = constant_range (set_of (value_at t.registers (2 * n))) k (a.ranges (2 * n) (omega (arith, n_small))) e in
      low_stays own above i k own_fits own_in_hull own_le is_in e range.0 range.1
  stays_by false even =
      let ne : r % 2 ≢ 0 = eqb-false (r % 2) 0 even in
      let same : r ≡ 2 * n + 1 = omega (arith, ne) in
      let e : KnownAt (2 * n + 1) = subst KnownAt same known in
      let range = constant_range (set_of (value_at t.registers (2 * n + 1))) k (a.ranges (2 * n + 1) (omega (arith, n_small))) e in
      high_stays own above i k own_fits own_in_hull own_le is_in e range.0 range.1

  stays : (u : AbsState) × ((narrow_byte r i s ≡ Some u) × IsStateWithin t u)
  stays =
      let m = stays_by (r % 2 == 0) refl in
      let step : cut_known (on_byte r (λ b. narrow b i.low i.high)) s n (Some g) ≡ Some (pair_state s g n m.0) = ap (with_pair s g n) m.1.0 in
      let sixteen : HasSixteen (Some g) = subst HasSixteen is' (joins_are_formed.whole s offset b).pairs in (
        pair_state s g n m.0,
        (
          subst (λ (x : Option PairFacts). cut_known (on_byte r (λ b. narrow b i.low i.high)) s n x ≡ Some (pair_state s g n m.0)) (sym is') step,
          state_within t s f g n m.0 n_small b.count_registers sixteen is le facts_le m.1.1,
        ),
      )

-- ---- more is left of more

off_none : (x : Interval) (k : ℕ) → x.low ≡ k → x.high ≡ k → off x (just k) ≡ None
off_none x k low high =
    let none : nat_le (k + 1) (k - 1) ≡ false = grind (arith, nat_tests) in
    ap (λ (t : Bool). if t then without x k else Some x) (eq-eqb k k refl)
    ∙ ap (λ (t : Bool). interval_from (if t then k + 1 else x.low) (if x.high == k then k - 1 else x.high)) (eq-eqb x.low k low)
    ∙ ap (λ (t : Bool). interval_from (k + 1) (if t then k - 1 else x.high)) (eq-eqb x.high k high)
    ∙ ap (λ (t : Bool). interval_if t (k + 1) (k - 1)) none

-- if something is left of a known register, the two have the outcome
told_by : (d k w : ℕ) (b : Bool) (s t : AbsState) (offset : ℕ) (f : PairFacts) → d < 32 → IsFormed s offset → s.facts ≡ Some f → byte_constant (value_at s.registers d).bits ≡ Some w
    → same_cut (place.Byte d) b k s ≡ Some t → (k == w) ≡ b
told_by d k w true s t offset f lt a is known e =
    let range = constant_range (set_of (value_at s.registers d)) w (a.ranges d (omega (arith, lt))) known in
    let bounds = narrow_bounds d (just k) s t offset f lt a is e in
    let left = same_leaves (place.Byte d) true k lt s t offset a e in
    let within = left.within.registers d (omega (arith, lt)) in
    let ordered = (left.formed.ranges d (omega (arith, lt))).ordered in
    eq-eqb k w (omega (arith, range.0, range.1, bounds.0, bounds.1, within.low, within.high, ordered))
told_by d k w false s t offset f lt a is known e =
    let range = constant_range (set_of (value_at s.registers d)) w (a.ranges d (omega (arith, lt))) known in
    ne_eqb k w (λ same.
    let none = off_none (range_of s.registers d) k (range.0 ∙ sym same) (range.1 ∙ sym same) in
    let cut : narrow_to (place.Byte d) None s ≡ Some t = subst (λ (x : Option Interval). narrow_to (place.Byte d) x s ≡ Some t) none e in
    absurd (cc))

follows : (x y : Option PairFacts) (g : PairFacts) → y ≡ Some g → IsKnownWithin x y → (f : PairFacts) × (x ≡ Some f)
follows None y g is le = let none : IsKnownWithin None (Some g) = subst (λ (z : Option PairFacts). IsKnownWithin None z) is le in absurd none
follows (Some f) y g is le = (f, refl)

module _ (d r : ℕ) (b : Bool) (s s' t : AbsState) (offset : ℕ) (g : PairFacts) (left : d < 32) (right : r < 32) (a : IsFormed s offset) (a' : IsFormed s' offset) (is' : s'.facts ≡ Some g)
    (hulls : AreInHulls s.registers s.facts) (le : IsStateWithin s s') where
  abbrev bits : AbsState → ℕ → TriByte
  bits u k = (value_at u.registers k).bits

  less : (k w : ℕ) → k < 32 → byte_constant (bits s' k) ≡ Some w → byte_constant (bits s k) ≡ Some w
  less k w lt e = constant_less (bits s k) (bits s' k) w (le.registers k (omega (arith, lt))).bits e

  -- both are known in s, and only d in s'
  other_cut : (k w : ℕ) → byte_constant (bits s r) ≡ Some k → byte_constant (bits s' d) ≡ Some w → same_cut (place.Byte d) b k s ≡ Some t
      → (t' : AbsState) × ((same_cut (place.Byte r) b w s' ≡ Some t') × IsStateWithin t t')
  other_cut k w known known' e =
      let own = follows s.facts s'.facts g is' le.facts in
      let gone = same_leaves (place.Byte d) b k left s t offset a e in
      let same = told_by d k w b s t offset own.0 left a own.1 (less d w left known') e in
      let above = states_are_ordered.through t s s' gone.within le in
      let facts = follows t.facts s'.facts g is' above.facts in
      let here = constant_less (bits t r) (bits s r) k (gone.within.registers r (omega (arith, right))).bits known in
      let at = constant_range (set_of (value_at s.registers r)) k (a.ranges r (omega (arith, right))) known in
      let within = le.registers r (omega (arith, right)) in
      let inside : InInterval (range_of s'.registers r) k = record { low = omega (arith, at.0, within.low); high = omega (arith, at.1, within.high) } in
      let i = equal_keeps b w (range_of s'.registers r) k inside same in
      let u = stays t s' facts.0 g offset r k i.0 right gone.formed a' facts.1 is' above (gone.hulls hulls) here i.1.1 in
      (u.0, (ap (λ (x : Option Interval). narrow_to (place.Byte r) x s') i.1.0 ∙ u.1.0, u.1.1))

  more_by : (x y x' y' : Option ℕ) → byte_constant (bits s r) ≡ x → byte_constant (bits s d) ≡ y → byte_constant (bits s' r) ≡ x' → byte_constant (bits s' d) ≡ y'
      → equal_by d r b x y s ≡ Some t → (t' : AbsState) × ((equal_by d r b x' y' s' ≡ Some t') × IsStateWithin t t')
  more_by x y (Some k) y' p q p' q' e =
      let same : x ≡ Some k = sym p ∙ less r k right p' in
      same_more (place.Byte d) b k left s s' t offset a a' le (subst (λ (z : Option ℕ). equal_by d r b z y s ≡ Some t) same e)
  more_by None y None (Some w) p q p' q' e =
      let same : y ≡ Some w = sym q ∙ less d w left q' in
      same_more (place.Byte r) b w right s s' t offset a a' le (subst (λ (z : Option ℕ). equal_by d r b None z s ≡ Some t) same e)
  more_by (Some k) y None (Some w) p q p' q' e = other_cut k w p q' e
  more_by x y None None p q p' q' e = (s', (refl, states_are_ordered.through t s s' (equal_leaves_by d r b left right x y s t offset a e).within le))

  equal_more_all : equal_cut d r b s ≡ Some t → (t' : AbsState) × ((equal_cut d r b s' ≡ Some t') × IsStateWithin t t')
  equal_more_all e =
      let was = equal_was d r b s t e in
      let may = logic_is_monotone.tests (bits s d) (bits s r) (bits s' d) (bits s' r) (le.registers d (omega (arith, left))).bits (le.registers r (omega (arith, right))).bits (from_bool b) was.0 in
      let u =
      more_by (byte_constant (bits s r)) (byte_constant (bits s d)) (byte_constant (bits s' r)) (byte_constant (bits s' d)) refl refl refl refl was.1 in
      (u.0, (equal_some d r b s' may ∙ u.1.0, u.1.1))

pub equals_are_cut : EqualsAreCut
equals_are_cut = record {
  keeps = λ d r b m left right. equal_keeps_all d r b left right m;
  leaves = equal_leaves_all;
  more = λ d r b s s' t offset f left right a a' is hulls le e. equal_more_all d r b s s' t offset f left right a a' is hulls le e;
  may = λ d r b s t e. (equal_was d r b s t e).0;
}
