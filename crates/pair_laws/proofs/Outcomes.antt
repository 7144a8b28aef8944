-- Intervals of two sides by an outcome.
use Rattle.std.proofs.Common.{◌≡◌, ◌≢◌, refl, sym, ◌∙◌, subst, ℕ, ◌*◌, ◌<◌, ◌≤◌, Bool, true, false, Some, None}
use Rattle.std.specs.Prelude.{◌==◌, if◌then◌else◌}
use Rattle.std.proofs.lemmas.Bool.{eqb-true, eqb-false, ltb-true, ltb-false}
use Rattle.avr_model.specs.Sreg.{flag}
use Rattle.pair_domain.specs.declared.intervals.Interval.{Interval}
use Rattle.pair_domain.specs.Intervals.{InInterval, IsIntervalWithin}
use Rattle.pair_domain.specs.Tags.{signed_below, IsCompared}
use Rattle.pair_domain.specs.CompareLaws.{KeepsMember, LeavesMore}
use Rattle.pair_domain.proofs.AllLaws.{intervals_meet, compares_cut, cuts_are_monotone}
use Rattle.pair_cuts.specs.declared.outcomes.Outcome.{Outcome}
use Rattle.pair_cuts.specs.declared.outcomes.Outcome.TheVariants as outcome
use Rattle.pair_cuts.specs.Outcomes.{left_part, right_part, outcome_if, outcome_of}

-- x and y have this outcome
abbrev pub AgreesWith : Outcome → ℕ → ℕ → ℕ → Type 0
AgreesWith outcome.Below half x y = x < y
AgreesWith outcome.NotBelow half x y = y ≤ x
AgreesWith outcome.Equal half x y = x ≡ y
AgreesWith outcome.NotEqual half x y = x ≢ y
AgreesWith outcome.Less half x y = signed_below half x y ≡ true
AgreesWith outcome.NotLess half x y = signed_below half x y ≡ false

-- ---- the flags tell it

module _ (half x y sreg : ℕ) (h : IsCompared half x y (flag sreg 0) (flag sreg 1) (flag sreg 4)) where
  by_c : (b : Bool) (o : Outcome) → outcome_if outcome.Below outcome.NotBelow b ≡ Some o → flag sreg 0 ≡ b → AgreesWith o half x y
  by_c true o e is =
      let same : outcome.Below ≡ o = cc in
      let lt : x < y = ltb-true x y (sym h.below ∙ is) in
      subst (λ (q : Outcome). AgreesWith q half x y) same lt
  by_c false o e is =
      let same : outcome.NotBelow ≡ o = cc in
      let le : y ≤ x = ltb-false x y (sym h.below ∙ is) in
      subst (λ (q : Outcome). AgreesWith q half x y) same le

  by_z : (b : Bool) (o : Outcome) → outcome_if outcome.Equal outcome.NotEqual b ≡ Some o → flag sreg 1 ≡ b → AgreesWith o half x y
  by_z true o e is =
      let same : outcome.Equal ≡ o = cc in
      let eq : x ≡ y = eqb-true x y (sym h.equal ∙ is) in
      subst (λ (q : Outcome). AgreesWith q half x y) same eq
  by_z false o e is =
      let same : outcome.NotEqual ≡ o = cc in
      let ne : x ≢ y = eqb-false x y (sym h.equal ∙ is) in
      subst (λ (q : Outcome). AgreesWith q half x y) same ne

  by_s : (b : Bool) (o : Outcome) → outcome_if outcome.Less outcome.NotLess b ≡ Some o → flag sreg 4 ≡ b → AgreesWith o half x y
  by_s true o e is =
      let same : outcome.Less ≡ o = cc in
      let less : signed_below half x y ≡ true = sym h.less ∙ is in
      subst (λ (q : Outcome). AgreesWith q half x y) same less
  by_s false o e is =
      let same : outcome.NotLess ≡ o = cc in
      let not_less : signed_below half x y ≡ false = sym h.less ∙ is in
      subst (λ (q : Outcome). AgreesWith q half x y) same not_less

  pub agrees : (n : ℕ) (b : Bool) (o : Outcome) → outcome_of n b ≡ Some o → flag sreg n ≡ b → AgreesWith o half x y
  agrees n b o e is = by_0 (n == 0) refl e
    where
      at : (k : ℕ) → (n == k) ≡ true → flag sreg k ≡ b
      at k e = subst (λ (j : ℕ). flag sreg j ≡ b) (eqb-true n k e) is

      by_4 : (t : Bool) → (n == 4) ≡ t → (if t then outcome_if outcome.Less outcome.NotLess b else None) ≡ Some o → AgreesWith o half x y
      by_4 true t e = by_s b o e (at 4 t)
      by_4 false t e = absurd (cc)

      by_1 : (t : Bool) → (n == 1) ≡ t
          → (if t then outcome_if outcome.Equal outcome.NotEqual b else (if n == 4 then outcome_if outcome.Less outcome.NotLess b else None)) ≡ Some o → AgreesWith o half x y
      by_1 true t e = by_z b o e (at 1 t)
      by_1 false t e = by_4 (n == 4) refl e

      by_0 : (t : Bool) → (n == 0) ≡ t
          → (if t then outcome_if outcome.Below outcome.NotBelow b
          else (if n == 1 then outcome_if outcome.Equal outcome.NotEqual b else (if n == 4 then outcome_if outcome.Less outcome.NotLess b else None))) ≡ Some o
          → AgreesWith o half x y
      by_0 true t e = by_c b o e (at 0 t)
      by_0 false t e = by_1 (n == 1) refl e

-- ---- it keeps what agrees with it

pub parts_keep : (o : Outcome) (half : ℕ) (i j : Interval) (x y : ℕ) → 0 < half → i.high < 2 * half → j.high < 2 * half → InInterval i x → InInterval j y
    → AgreesWith o half x y → KeepsMember (left_part o half i j) x × KeepsMember (right_part o i j) y
parts_keep outcome.Below half i j x y some a b p q lt = compares_cut.below i j x y p q lt
parts_keep outcome.NotBelow half i j x y some a b p q le = compares_cut.from i j x y p q le
parts_keep outcome.Equal half i j x y some a b p q eq =
    let both = compares_cut.equal i j x p (subst (InInterval j) (sym eq) q) in
    let P : ℕ → Type 0 = λ k. KeepsMember (left_part outcome.Equal half i j) k in
    (both, subst P eq both)
parts_keep outcome.NotEqual half i j x y some a b p q ne = (compares_cut.off i j x y p q ne, compares_cut.off j i y x q p (λ e. ne (sym e)))
parts_keep outcome.Less half i j x y some a b p q less = (compares_cut.less half i j x y some a b p q less, (j, (refl, q)))
parts_keep outcome.NotLess half i j x y some a b p q less = (compares_cut.not_less half i j x y some a b p q less, (j, (refl, q)))

-- ---- and leaves more of more

itself_more : (j j' : Interval) → IsIntervalWithin j j' → LeavesMore (Some j) (Some j')
itself_more j j' le m e = let P : Interval → Type 0 = λ i. IsIntervalWithin i j' in let same : j ≡ m = cc in (j', (refl, subst P same le))

pub parts_more : (o : Outcome) (half : ℕ) (i j i' j' : Interval) → 0 < half → i.low ≤ i.high → j.low ≤ j.high → j'.high < 2 * half → IsIntervalWithin i i'
    → IsIntervalWithin j j' → LeavesMore (left_part o half i j) (left_part o half i' j') × LeavesMore (right_part o i j) (right_part o i' j')
parts_more outcome.Below half i j i' j' some p q small a b = (cuts_are_monotone.below i j i' j' a b, cuts_are_monotone.above i j i' j' a b)
parts_more outcome.NotBelow half i j i' j' some p q small a b = (cuts_are_monotone.from i j i' j' a b, cuts_are_monotone.to i j i' j' a b)
parts_more outcome.Equal half i j i' j' some p q small a b = ((λ m e. intervals_meet.more i j i' j' m a b e), (λ m e. intervals_meet.more i j i' j' m a b e))
parts_more outcome.NotEqual half i j i' j' some p q small a b = (cuts_are_monotone.off i j i' j' p q a b, cuts_are_monotone.off j i j' i' q p b a)
parts_more outcome.Less half i j i' j' some p q small a b = (cuts_are_monotone.less half i j i' j' some q small a b, itself_more j j' b)
parts_more outcome.NotLess half i j i' j' some p q small a b = (cuts_are_monotone.not_less half i j i' j' some q small a b, itself_more j j' b)
