-- Order and join of facts, and what holds in greater ones.
use Rattle.std.proofs.Common.{◌≡◌, sym, ◌∙◌, subst, ℕ, ◌*◌, ◌<◌, length, arith}
use Rattle.std.proofs.lemmas.List.{get_or-replicate}
use Rattle.pair_domain.specs.declared.intervals.Interval.{Interval}
use Rattle.pair_domain.specs.declared.facts.PairFacts.{PairFacts}
use Rattle.pair_domain.specs.Intervals.{InInterval, IsIntervalWithin, whole, interval_join}
use Rattle.pair_domain.specs.Tags.{pair_number, IsNear}
use Rattle.pair_domain.specs.Facts.{nothing, interval_at, AreFactsWithin, facts_join, AreLeastFactsAbove}
use Rattle.pair_domain.specs.Rank.{FactsFit}
use Rattle.pair_domain.specs.Laws.{FactsAreOrdered, FactsSayLess}
use Rattle.pair_domain.proofs.Ordered.{intervals_are_ordered, sums_are_ordered, compares_are_ordered, zeros_are_ordered, sum_less, compare_less, zero_less}
use Rattle.pair_domain.proofs.Listed.{same_items, length-intervals_join, interval_at-join}

facts_same : (f : PairFacts) → AreFactsWithin f f
facts_same f = record {
  intervals = λ n h. intervals_are_ordered.same (interval_at f.intervals n);
  sum = sums_are_ordered.same f.sum;
  compare = compares_are_ordered.same f.compare;
  zero = zeros_are_ordered.same f.zero;
}

facts_through : (f g h : PairFacts) → AreFactsWithin f g → AreFactsWithin g h → AreFactsWithin f h
facts_through f g h a b = record {
  intervals = λ n lt.
      intervals_are_ordered.through (interval_at f.intervals n) (interval_at g.intervals n) (interval_at h.intervals n) (a.intervals n lt) (b.intervals n lt);
  sum = sums_are_ordered.through f.sum g.sum h.sum a.sum b.sum;
  compare = compares_are_ordered.through f.compare g.compare h.compare a.compare b.compare;
  zero = zeros_are_ordered.through f.zero g.zero h.zero a.zero b.zero;
}

pub facts_both : (f g : PairFacts) → length f.intervals ≡ 16 → length g.intervals ≡ 16 → IsNear f.sum → IsNear g.sum → AreFactsWithin f g → AreFactsWithin g f → f ≡ g
facts_both f g m n near near' a b =
    let p : f.intervals ≡ g.intervals = same_items whole f.intervals g.intervals (m ∙ sym n) (λ k h.
    intervals_are_ordered.both (interval_at f.intervals k) (interval_at g.intervals k) (a.intervals k (omega arith)) (b.intervals k (omega arith))) in
    let q = sums_are_ordered.both f.sum g.sum near near' a.sum b.sum in
    let r = compares_are_ordered.both f.compare g.compare a.compare b.compare in
    let s = zeros_are_ordered.both f.zero g.zero a.zero b.zero in
    λ i. record { intervals = p i; sum = q i; compare = r i; zero = s i }

pub facts_least : (f g : PairFacts) → length f.intervals ≡ 16 → length g.intervals ≡ 16 → AreLeastFactsAbove f g (facts_join f g)
facts_least f g m n =
    let is : (k : ℕ) → k < 16 → interval_at (facts_join f g).intervals k ≡ interval_join (interval_at f.intervals k) (interval_at g.intervals k) = λ k h.
    interval_at-join f.intervals g.intervals k (omega arith) (omega arith) in
    record {
      first = record {
        intervals = λ k h. subst (IsIntervalWithin (interval_at f.intervals k)) (sym (is k h)) (intervals_are_ordered.first (interval_at f.intervals k) (interval_at g.intervals k));
        sum = sums_are_ordered.first f.sum g.sum;
        compare = compares_are_ordered.first f.compare g.compare;
        zero = zeros_are_ordered.first f.zero g.zero;
      };
      second = record {
        intervals = λ k h. subst (IsIntervalWithin (interval_at g.intervals k)) (sym (is k h)) (intervals_are_ordered.second (interval_at f.intervals k) (interval_at g.intervals k));
        sum = sums_are_ordered.second f.sum g.sum;
        compare = compares_are_ordered.second f.compare g.compare;
        zero = zeros_are_ordered.second f.zero g.zero;
      };
      least = λ v a b. record {
        intervals = λ k h.
            subst (λ (i : Interval). IsIntervalWithin i (interval_at v.intervals k)) (sym (is k h))
            (intervals_are_ordered.least (interval_at f.intervals k) (interval_at g.intervals k) (interval_at v.intervals k) (a.intervals k h) (b.intervals k h));
        sum = sums_are_ordered.least f.sum g.sum v.sum a.sum b.sum;
        compare = compares_are_ordered.least f.compare g.compare v.compare a.compare b.compare;
        zero = zeros_are_ordered.least f.zero g.zero v.zero a.zero b.zero;
      };
    }

pub count_joined : (f g : PairFacts) → length f.intervals ≡ 16 → length g.intervals ≡ 16 → length (facts_join f g).intervals ≡ 16
count_joined f g m n = length-intervals_join f.intervals g.intervals (m ∙ sym n) ∙ m

pub facts_within : (f g : PairFacts) → length f.intervals ≡ 16 → length g.intervals ≡ 16 → IsNear f.sum → AreFactsWithin g f → facts_join f g ≡ f
facts_within f g m n near le =
    let join = facts_least f g m n in
    facts_both (facts_join f g) f (count_joined f g m n) m (sums_are_ordered.near f.sum g.sum) near (join.least f (facts_same f) le) join.first

pub interval_at-nothing : (n : ℕ) → n < 16 → interval_at nothing.intervals n ≡ whole
interval_at-nothing n h = grind (arith, get_or-replicate)

facts_top : (f : PairFacts) → FactsFit f → AreFactsWithin f nothing
facts_top f fit = record {
  intervals = λ n h.
      subst (IsIntervalWithin (interval_at f.intervals n)) (sym (interval_at-nothing n h))
      (intervals_are_ordered.top (interval_at f.intervals n) (let k = fit.intervals n h in k.small));
  sum = tt;
  compare = tt;
  zero = tt;
}

pub facts_are_ordered : FactsAreOrdered
facts_are_ordered = record {
  same = facts_same;
  through = facts_through;
  both = facts_both;
  join = facts_least;
  within = facts_within;
  joins = λ f g f' g' m n m' n' a b.
      let above = facts_least f' g' m' n' in
      (facts_least f g m n).least (facts_join f' g')
      (facts_through f f' (facts_join f' g') a above.first)
      (facts_through g g' (facts_join f' g') b above.second);
  top = facts_top;
}

interval_less : (i j : Interval) (x : ℕ) → IsIntervalWithin i j → InInterval i x → InInterval j x
interval_less i j x le h = record { low = omega (arith, le.low, h.low); high = omega (arith, le.high, h.high) }

pub facts_say_less : FactsSayLess
facts_say_less = record {
  interval = interval_less;
  sum = sum_less;
  compare = compare_less;
  zero = zero_less;
  facts = λ f g registers c z s le h. record {
    intervals = λ n lt. interval_less (interval_at f.intervals n) (interval_at g.intervals n) (pair_number registers (2 * n)) (le.intervals n lt) (h.intervals n lt);
    sum = sum_less registers f.sum g.sum c le.sum h.sum;
    compare = compare_less registers f.compare g.compare c z s le.compare h.compare;
    zero = zero_less registers f.zero g.zero z le.zero h.zero;
  };
}
