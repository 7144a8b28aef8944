-- Marks as an ascending list.
use Rattle.std.proofs.Common.{◌≡◌, refl, sym, ◌∙◌, subst, ℕ, zero, suc, ◌+◌, ◌-◌, ◌<◌, ◌≤◌, ◌⊎◌, inl, inr, ⊎_elim, leb, ltb, Bool, true, false, List, [], ◌∷◌, ◌++◌, length, get_or, Contains, arith}
use Rattle.std.specs.Prelude.{◌↔◌}
use Rattle.std.specs.List.Sorted.{IsNonDecreasingBy, IsPartitionPoint}
use Rattle.std.proofs.lemmas.Bool.{cases_lt, leb-true, leb-false}
use Rattle.std.proofs.lemmas.List.{get_or_default}
use Rattle.std.proofs.lemmas.List.Elements.{Contains-get_or, Contains-push, Contains-push_cases, Contains-append_left}
use Rattle.std.proofs.lemmas.List.Sorted.{IsNonDecreasingBy-push, IsNonDecreasingBy-short}
use Rattle.basics.specs.Booleans.{never_both}
use Rattle.basics.specs.Items.{none_in}
use Rattle.basics.specs.Numbers.{before_or_last}
use Rattle.pair_domain.specs.Marks.{mark_below, mark_above}
use Rattle.flash_image.specs.Marked.{AreListed, IsListOfMarks}
use Rattle.flash_image.proofs.Marked.{below_is, above_is}

-- marked numbers are in the table
on_inside : (table : List Bool) (k : ℕ) → get_or table k false ≡ true → k < length table
on_inside [] k e = absurd (let wrong : false ≡ true = e in cc)
on_inside (b ∷ t) zero e = omega arith
on_inside (b ∷ t) (suc k) e = let lt = on_inside t k e in omega (arith, lt)

-- ---- the list as it is made

-- the list has the marks below a number, ascending
pub record AreListedBelow (n : ℕ) (table : List Bool) (list : List ℕ) : Type 0 where
  pub ascending : IsNonDecreasingBy (λ m. m) list
  pub exact : (m : ℕ) → Contains list m ↔ ((m < n) × (get_or table m false ≡ true))

pub listed_none : (table : List Bool) → AreListedBelow 0 table []
listed_none table =
    record { ascending = IsNonDecreasingBy-short (λ m. m) [] (omega arith); exact = λ m. (λ h. absurd (none_in m h), λ t. absurd (let lt = t.0 in omega (arith, lt))) }

module _ (n : ℕ) (table : List Bool) (list : List ℕ) (so : AreListedBelow n table list) where
  pub listed_more : get_or table n false ≡ true → AreListedBelow (n + 1) table (list ++ n ∷ [])
  listed_more on = record { ascending = IsNonDecreasingBy-push (λ m. m) list n so.ascending last; exact = λ m. (down m, up m) }
    where
      last : (d : ℕ) → 0 < length list → get_or list (length list - 1) d ≤ n
      last d some =
          let inside : length list - 1 < length list = omega (arith, some) in
          let lt = ((so.exact (get_or list (length list - 1) d)).0 (Contains-get_or list (length list - 1) d inside)).0 in
          omega (arith, lt)

      down : (m : ℕ) → Contains (list ++ n ∷ []) m → (m < n + 1) × (get_or table m false ≡ true)
      down m h =
          ⊎_elim (λ old. let t = (so.exact m).0 old in (let lt = t.0 in omega (arith, lt), t.1))
          (λ e. (omega (arith, e), subst (λ k. get_or table k false ≡ true) e on)) (Contains-push_cases list n m h)

      up : (m : ℕ) → (m < n + 1) × (get_or table m false ≡ true) → Contains (list ++ n ∷ []) m
      up m t =
          ⊎_elim (λ lt. Contains-append_left list (n ∷ []) m ((so.exact m).1 (lt, t.1)))
          (λ e. subst (Contains (list ++ n ∷ [])) (sym e) (Contains-push list n)) (before_or_last m n t.0)

  pub listed_same : get_or table n false ≡ false → AreListedBelow (n + 1) table list
  listed_same off =
      record {
        ascending = so.ascending;
        exact = λ m. (
          λ h. let t = (so.exact m).0 h in (let lt = t.0 in omega (arith, lt), t.1),
          λ t. ⊎_elim (λ lt. (so.exact m).1 (lt, t.1))
              (λ e. absurd (never_both (get_or table n false) (subst (λ k. get_or table k false ≡ true) e t.1) off)) (before_or_last m n t.0),
        );
      }

  pub listed_all : length table ≤ n → AreListed table list
  listed_all all =
      record {
        ascending = so.ascending;
        exact = λ m. ((λ h. ((so.exact m).0 h).1), (λ on. (so.exact m).1 (let lt = on_inside table m on in omega (arith, lt, all), on)));
      }

-- ---- by bisection

module _ (ms list : List ℕ) (of : IsListOfMarks ms list) where
  -- a marked number has a place
  placed : (m : ℕ) → get_or of.table m false ≡ true → (i : ℕ) × ((i < length list) × (get_or list i 0 ≡ m))
  placed m on =
      let h = (of.listed.exact m).1 on in
      (h.0, (h.1, get_or_default list h.0 0 m h.1 ∙ h.2))

  on_at : (i : ℕ) → i < length list → get_or of.table (get_or list i 0) false ≡ true
  on_at i lt = (of.listed.exact (get_or list i 0)).0 (Contains-get_or list i 0 lt)

  off : (m : ℕ) → (get_or of.table m false ≡ true → ⊥) → get_or of.table m false ≡ false
  off m never = by (get_or of.table m false) refl
    where
      by : (b : Bool) → get_or of.table m false ≡ b → get_or of.table m false ≡ false
      by true e = absurd (never e)
      by false e = e

  pub below_listed : (x k : ℕ) → x < 65536 → k ≤ length list → IsPartitionPoint (λ y. leb y x ≡ true) (λ y. leb y x ≡ false) list k → (r : ℕ) → (k ≡ 0 → r ≡ 0)
      → (0 < k → r ≡ get_or list (k - 1) 0) → r ≡ mark_below ms x
  below_listed x k lt within point r first last = below_is ms of.table x r of.tells lt low here (λ m more le. off m (none m more le))
    where
      low : r ≤ x
      low =
          ⊎_elim (λ some. let le = leb-true (get_or list (k - 1) 0) x (point.0 (k - 1) 0 (omega arith) (omega (arith, some))) in let is = last some in omega (arith, le, is))
          (λ none. let is = first (omega (arith, none)) in omega (arith, is)) (cases_lt 0 k)

      here : (r ≡ 0) ⊎ (get_or of.table r false ≡ true)
      here =
          ⊎_elim (λ some. inr (subst (λ m. get_or of.table m false ≡ true) (sym (last some)) (on_at (k - 1) (omega (arith, some, within)))))
          (λ none. inl (first (omega (arith, none)))) (cases_lt 0 k)

      none : (m : ℕ) → r < m → m ≤ x → get_or of.table m false ≡ true → ⊥
      none m more le on =
          let p = placed m on in
          let is = p.1.1 in
          ⊎_elim (λ before.
          let up = of.listed.ascending p.0 (k - 1) 0 (omega (arith, before)) (omega (arith, before, within)) in
          let at = last (omega (arith, before)) in
          omega (arith, up, at, is, more))
          (λ from.
          let over = leb-false (get_or list p.0 0) x (point.1 p.0 0 from p.1.0) in
          omega (arith, over, is, le)) (cases_lt p.0 k)

  pub above_listed : (x k : ℕ) → k ≤ length list → IsPartitionPoint (λ y. ltb y x ≡ true) (λ y. ltb y x ≡ false) list k → (r : ℕ) → (length list ≤ k → r ≡ 65535)
      → (k < length list → r ≡ get_or list k 0) → x < 65536 → r ≡ mark_above ms x
  above_listed x k within point r past there lt = above_is ms of.table x r of.tells high small here (λ m le less. off m (none m le less))
    where
      high : x ≤ r
      high =
          ⊎_elim (λ some. let le = leb-false (suc (get_or list k 0)) x (point.1 k 0 (omega arith) some) in let is = there some in omega (arith, le, is))
          (λ end. let is = past end in omega (arith, is, lt)) (cases_lt k (length list))

      here : (r ≡ 65535) ⊎ (get_or of.table r false ≡ true)
      here =
          ⊎_elim (λ some. inr (subst (λ m. get_or of.table m false ≡ true) (sym (there some)) (on_at k some)))
          (λ end. inl (past end)) (cases_lt k (length list))

      small : r < 65536
      small =
          ⊎_elim (λ some. let is = there some in let lt = on_inside of.table (get_or list k 0) (on_at k some) in let size = of.tells.count in omega (arith, is, lt, size))
          (λ end. let is = past end in omega (arith, is)) (cases_lt k (length list))

      none : (m : ℕ) → x ≤ m → m < r → get_or of.table m false ≡ true → ⊥
      none m le less on =
          let p = placed m on in
          let is = p.1.1 in
          ⊎_elim (λ before.
          let under = leb-true (suc (get_or list p.0 0)) x (point.0 p.0 0 (omega arith) before) in
          omega (arith, under, is, le))
          (λ from.
          let inside = p.1.0 in
          let up = of.listed.ascending k p.0 0 from inside in
          let at = there (omega (arith, from, inside)) in
          omega (arith, up, at, is, less)) (cases_lt p.0 k)
