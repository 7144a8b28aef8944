-- Intervals that lie in the hulls of their registers.
use Rattle.std.proofs.Common.{◌≡◌, refl, sym, ◌∙◌, ap, ap₂, subst, subst₂, ℕ, ◌+◌, ◌*◌, ◌<◌, Bool, true, false, List, length, replicate, Option, Some, None, arith}
use Rattle.std.proofs.lemmas.List.{get_or-replicate}
use Rattle.bit_domain.specs.Packed.{packed}
use Rattle.bit_domain.specs.Ranges.{IsSetWithin}
use Rattle.pair_domain.specs.declared.intervals.Interval.{Interval}
use Rattle.pair_domain.specs.declared.facts.PairFacts.{PairFacts}
use Rattle.pair_domain.specs.declared.tags.SumTag.TheVariants as sum
use Rattle.pair_domain.specs.declared.tags.CompareTag.TheVariants as compare
use Rattle.pair_domain.specs.declared.tags.ZeroTag.TheVariants as zero_tag
use Rattle.pair_domain.specs.Intervals.{IsIntervalWithin, whole, hull}
use Rattle.pair_domain.specs.Facts.{interval_at, known_join, HasSixteen}
use Rattle.pair_domain.proofs.AllLaws.{intervals_are_ordered, intervals_meet, hulls_hold}
use Rattle.pair_domain.proofs.Listed.{interval_at-join}
use Rattle.abs_state.specs.declared.values.AbsByte.{AbsByte}
use Rattle.abs_state.specs.declared.state.AbsState.{AbsState}
use Rattle.abs_state.specs.Values.{unknown, value_at, set_of, root}
use Rattle.abs_state.specs.Order.{IsByteWithin, value_join, values_join}
use Rattle.abs_state.specs.Formed.{IsWhole}
use Rattle.abs_state.specs.Frames.{known_entered, entered}
use Rattle.abs_state.specs.PairsBack.{interval_kept, kept_pair, interval_back, collected, sum_after, compare_after, zero_after, facts_with, known_back, returned}
use Rattle.abs_state.specs.Ended.{hull_at}
use Rattle.abs_state.specs.Hulls.{AreInHulls, IsInHulls, HullsHoldIntervals}
use Rattle.abs_state.proofs.Ordered.{values_are_ordered}
use Rattle.abs_state.proofs.Listed.{value_at-join}
use Rattle.abs_state.proofs.Start.{entered_value, root_value}
use Rattle.abs_state.proofs.PairsBack.{collected_was, cut_was, with_pairs_was}
use Rattle.abs_state.proofs.KnownBack.{following_was}

-- ---- after reset

unknown_hull : hull (set_of unknown) (set_of unknown) ≡ whole
unfolding packed
unknown_hull = refl

following_holds : (n : ℕ) → n < 16 → IsIntervalWithin (interval_at (replicate 16 whole) n) (hull_at root.registers n)
following_holds n lt =
    let lo : value_at root.registers (2 * n) ≡ unknown = root_value (2 * n) (omega (arith, lt)) in
    let hi : value_at root.registers (2 * n + 1) ≡ unknown = root_value (2 * n + 1) (omega (arith, lt)) in
    let is : hull_at root.registers n ≡ whole = ap₂ (λ (v w : AbsByte). hull (set_of v) (set_of w)) lo hi ∙ unknown_hull in
    subst₂ IsIntervalWithin (sym (get_or-replicate 16 n whole whole lt)) (sym is) (intervals_are_ordered.same whole)

-- ---- in a join

set_less : (v w : AbsByte) → IsByteWithin v w → IsSetWithin (set_of v) (set_of w)
set_less v w le = record { bits = le.bits; low = le.low; high = le.high }

hull_more : (v w v' w' : AbsByte) → IsByteWithin v v' → IsByteWithin w w' → IsIntervalWithin (hull (set_of v) (set_of w)) (hull (set_of v') (set_of w'))
hull_more v w v' w' a b = hulls_hold.more (set_of v) (set_of w) (set_of v') (set_of w') (set_less v v' a) (set_less w w' b)

module _ (s t : AbsState) (m : IsWhole s) (k : IsWhole t) where
  value_is : (r : ℕ) → r < 34 → value_at (values_join s.registers t.registers) r ≡ value_join (value_at s.registers r) (value_at t.registers r)
  value_is r lt = value_at-join s.registers t.registers r (omega (arith, lt, m.registers)) (omega (arith, lt, k.registers))

  hull_is : (n : ℕ) → n < 16 → hull_at (values_join s.registers t.registers) n
      ≡ hull (set_of (value_join (value_at s.registers (2 * n)) (value_at t.registers (2 * n)))) (set_of (value_join (value_at s.registers (2 * n + 1)) (value_at t.registers (2 * n + 1))))
  hull_is n lt = ap₂ (λ (v w : AbsByte). hull (set_of v) (set_of w)) (value_is (2 * n) (omega (arith, lt))) (value_is (2 * n + 1) (omega (arith, lt)))

  joins_by : (x y : Option PairFacts) → HasSixteen x → HasSixteen y → AreInHulls s.registers x → AreInHulls t.registers y → AreInHulls (values_join s.registers t.registers) (known_join x y)
  joins_by None y a b h g = tt
  joins_by (Some f) None a b h g = tt
  joins_by (Some f) (Some e) a b h g = λ n lt.
      let v = value_at s.registers (2 * n) in
      let w = value_at s.registers (2 * n + 1) in
      let v' = value_at t.registers (2 * n) in
      let w' = value_at t.registers (2 * n + 1) in
      let over = hull (set_of (value_join v v')) (set_of (value_join w w')) in
      subst₂ IsIntervalWithin (sym (interval_at-join f.intervals e.intervals n (omega (arith, lt, a)) (omega (arith, lt, b)))) (sym (hull_is n lt))
      (intervals_are_ordered.least (interval_at f.intervals n) (interval_at e.intervals n) over
      (intervals_are_ordered.through (interval_at f.intervals n) (hull_at s.registers n) over (h n lt)
      (hull_more v w (value_join v v') (value_join w w') (values_are_ordered.first v v') (values_are_ordered.first w w')))
      (intervals_are_ordered.through (interval_at e.intervals n) (hull_at t.registers n) over (g n lt)
      (hull_more v' w' (value_join v v') (value_join w w') (values_are_ordered.second v v') (values_are_ordered.second w w'))))

-- ---- at an entry

entered_hull : (s : AbsState) (n : ℕ) → length s.registers ≡ 34 → n < 16 → hull_at (entered s).registers n ≡ hull_at s.registers n
entered_hull s n count lt =
    ap₂ (λ (v w : AbsByte). hull (set_of v) (set_of w)) (entered_value s (2 * n) count (omega (arith, lt))) (entered_value s (2 * n + 1) count (omega (arith, lt)))

enters_by : (s : AbsState) → length s.registers ≡ 34 → (x : Option PairFacts) → AreInHulls s.registers x → AreInHulls (entered s).registers (known_entered x)
enters_by s count None h = tt
enters_by s count (Some f) h = λ n lt. subst (IsIntervalWithin (interval_at f.intervals n)) (sym (entered_hull s n count lt)) (h n lt)

-- ---- after a return

module _ (f : PairFacts) (exit : List AbsByte) (entry : Bool) (g : PairFacts) (registers : List AbsByte) where
  abbrev back : ℕ → Option Interval
  back = interval_back f.intervals exit g.intervals registers

  each_in : (is : List Interval) → collected back 0 16 ≡ Some is → (n : ℕ) → n < 16 → IsIntervalWithin (interval_at is n) (hull_at registers n)
  each_in is e n lt =
      let all = collected_was back 0 16 is e in
      let z : 0 + n ≡ n = omega arith in
      let o = kept_pair (value_at exit (2 * n)).tag (value_at exit (2 * n + 1)).tag in
      let was = cut_was (hull_at registers n) (interval_kept f.intervals o (interval_at g.intervals n)) (interval_at is n) (ap back (sym z) ∙ all.1 n lt) in
      (intervals_meet.under was.0 (hull_at registers n) (interval_at is n) was.1.1).1

  facts_in : (o : Option (List Interval)) → collected back 0 16 ≡ o → (k : PairFacts) → facts_with f exit entry o ≡ Some k → AreInHulls registers (Some k)
  facts_in None is k d = absurd (cc)
  facts_in (Some js) is k d = by entry d
    where
      by : (entry : Bool) → facts_with f exit entry (Some js) ≡ Some k → AreInHulls registers (Some k)
      by true d =
          let same : record { intervals = js; sum = sum_after exit f.sum; compare = compare_after exit f.compare; zero = zero_after exit f.zero } ≡ k = cc in
          subst (λ (h : PairFacts). AreInHulls registers (Some h)) same (each_in js is)
      by false d =
          let same : record { intervals = js; sum = sum.None; compare = compare.None; zero = zero_tag.None } ≡ k = cc in
          subst (λ (h : PairFacts). AreInHulls registers (Some h)) same (each_in js is)

returns_by : (caller : Option PairFacts) (exit : List AbsByte) (entry : Bool) (found : Option PairFacts) (registers : List AbsByte) (x : Option PairFacts)
    → known_back caller exit entry found registers ≡ Some x → AreInHulls registers x
returns_by None exit entry found registers x e = let same : None ≡ x = cc in subst (AreInHulls registers) same tt
returns_by (Some f) exit entry None registers x e = let same : None ≡ x = cc in subst (AreInHulls registers) same tt
returns_by (Some f) exit entry (Some g) registers x e =
    let was = following_was (facts_with f exit entry (collected (interval_back f.intervals exit g.intervals registers) 0 16)) x e in
    subst (AreInHulls registers) was.1.1 (facts_in f exit entry g registers (collected (interval_back f.intervals exit g.intervals registers) 0 16) refl was.0 was.1.0)

returned_in : (caller exit t : AbsState) → returned caller exit ≡ Some t → IsInHulls t
returned_in caller exit t e =
    let was = with_pairs_was caller exit t e in
    subst IsInHulls was.1.1.2 (returns_by caller.facts exit.registers exit.flags.entry exit.facts was.0.registers was.1.0 was.1.1.1)

pub hulls_hold_intervals : HullsHoldIntervals
hulls_hold_intervals = record {
  root = tt;
  following_root = following_holds;
  joins = λ s t m k h g. joins_by s t m k s.facts t.facts m.pairs k.pairs h g;
  entered = λ s count h. enters_by s count s.facts h;
  returned = returned_in;
}
