-- Intervals by number.
use Rattle.std.proofs.Common.{◌≡◌, refl, ap, ℕ, zero, suc, ◌<◌, List, [], ◌∷◌, length, slice_index_or, arith}
use Rattle.pair_domain.specs.declared.intervals.Interval.{Interval}
use Rattle.pair_domain.specs.Intervals.{interval_join}
use Rattle.pair_domain.specs.Facts.{interval_at, intervals_join}

-- two lists of one length with the same items are equal
pub same_items : {A : Type 0} (d : A) (xs ys : List A) → length xs ≡ length ys
    → ((k : ℕ) → k < length xs → slice_index_or xs k d ≡ slice_index_or ys k d) → xs ≡ ys
same_items d [] [] n e = refl
same_items d [] (y ∷ ys) n e = absurd (omega arith)
same_items d (x ∷ xs) [] n e = absurd (omega arith)
same_items d (x ∷ xs) (y ∷ ys) n e =
    let head : x ≡ y = e 0 (omega arith) in
    let tail : xs ≡ ys = same_items d xs ys (omega arith) (λ k h. e (suc k) (omega arith)) in
    λ i. head i ∷ tail i

pub length-intervals_join : (is js : List Interval) → length is ≡ length js → length (intervals_join is js) ≡ length is
unfolding intervals_join
length-intervals_join [] js n = refl
length-intervals_join (i ∷ is) [] n = absurd (omega arith)
length-intervals_join (i ∷ is) (j ∷ js) n = ap suc (length-intervals_join is js (omega arith))

pub interval_at-join : (is js : List Interval) (n : ℕ) → n < length is → n < length js
    → interval_at (intervals_join is js) n ≡ interval_join (interval_at is n) (interval_at js n)
unfolding intervals_join
interval_at-join [] js n h k = absurd (omega arith)
interval_at-join (i ∷ is) [] n h k = absurd (omega arith)
interval_at-join (i ∷ is) (j ∷ js) zero h k = refl
interval_at-join (i ∷ is) (j ∷ js) (suc n) h k = interval_at-join is js n (omega arith) (omega arith)
