-- Reading and spelling of the intervals of a word are inverse.
use Rattle.std.proofs.Common.{ℕ, zero, suc, ◌+◌, ◌*◌, ◌<◌, ◌≤◌, ◌^◌, ◌≡◌, ◌==◌, ◌&&◌, nat_le, not, inl, inr, List, [], ◌∷◌, ◌++◌, length, Bool, true, false, refl, ap, ap₂, sym, ◌∙◌, arith, Option, Some, None, subst, append_assoc, ne_eqb}
use Rattle.std.specs.Prelude.{⊤}
use Rattle.std.proofs.lemmas.Bool.{eqb-true, and_parts, cases_Bool}
use Rattle.std.proofs.lemmas.Option.{cond_some, same_Some}
use Rattle.basics.specs.Lists.{chosen}
use Rattle.basics.specs.Numbers.{equals_itself, at_most_from_test, test_from_at_most}
use Rattle.text_base.specs.Digits.{hex_digits}
use Rattle.line_reading.specs.Letters.{digits_at}
use Rattle.line_reading.specs.Words.{WordLaws}
use Rattle.line_reading.proofs.AllLaws.{map_some, bind_some, digits_take, digits_again}
use Rattle.pair_domain.specs.declared.intervals.Interval.{Interval}
use Rattle.pair_domain.specs.Facts.{interval_at as nth}
use Rattle.pair_domain.specs.Rank.{IntervalFits}
use Rattle.pair_words.specs.Spelling.{are_ends, interval_text, intervals_text}
use Rattle.pair_words.specs.Reading.{is_inside, inside_at, interval_by, interval_at, intervals_at}

-- ---- intervals that lie within their hulls

-- two ends are ordered and within the hull
pub record LiesWithin (hull : Interval) (least most : ℕ) : Type 0 where
  pub low : hull.low ≤ least
  pub ordered : least ≤ most
  pub high : most ≤ hull.high

-- one by one
abbrev pub LieWithin : List Interval → List Interval → Type 0
LieWithin [] [] = ⊤
LieWithin [] (i ∷ is) = ⊥
LieWithin (hull ∷ hulls) [] = ⊥
LieWithin (hull ∷ hulls) (i ∷ is) = LiesWithin hull i.low i.high × LieWithin hulls is

-- hulls in order, of numbers of 16 bits
abbrev pub AreAll : List Interval → Type 0
AreAll [] = ⊤
AreAll (hull ∷ hulls) = IntervalFits hull × AreAll hulls

pub lie_at : (hulls is : List Interval) → LieWithin hulls is → (n : ℕ) → n < length hulls → LiesWithin (nth hulls n) (nth is n).low (nth is n).high
lie_at [] is h n lt = absurd (omega arith)
lie_at (hull ∷ hulls) [] h n lt = absurd h
lie_at (hull ∷ hulls) (i ∷ is) h zero lt = h.0
lie_at (hull ∷ hulls) (i ∷ is) h (suc n) lt = lie_at hulls is h.1 n (omega arith)

pub lie_from : (hulls is : List Interval) → length is ≡ length hulls → ((n : ℕ) → n < length hulls → LiesWithin (nth hulls n) (nth is n).low (nth is n).high) → LieWithin hulls is
lie_from [] [] e h = tt
lie_from [] (i ∷ is) e h = absurd (omega arith)
lie_from (hull ∷ hulls) [] e h = absurd (omega arith)
lie_from (hull ∷ hulls) (i ∷ is) e h = (h 0 (omega arith), lie_from hulls is (omega arith) (λ n lt. h (suc n) (omega arith)))

pub count_same : (hulls is : List Interval) → LieWithin hulls is → length is ≡ length hulls
count_same [] [] h = refl
count_same [] (i ∷ is) h = absurd h
count_same (hull ∷ hulls) [] h = absurd h
count_same (hull ∷ hulls) (i ∷ is) h = ap suc (count_same hulls is h.1)

pub all_from : (hulls : List Interval) → ((n : ℕ) → n < length hulls → IntervalFits (nth hulls n)) → AreAll hulls
all_from [] h = tt
all_from (hull ∷ hulls) h = (h 0 (omega arith), all_from hulls (λ n lt. h (suc n) (omega arith)))

pub own : (hulls : List Interval) → AreAll hulls → LieWithin hulls hulls
own [] h = tt
own (hull ∷ hulls) h = (record { low = omega arith; ordered = h.0.ordered; high = omega arith }, own hulls h.1)

-- ---- ends that are those of the hull

are_own : (hull : Interval) → are_ends hull hull.low hull.high ≡ true
are_own hull = rw (equals_itself hull.low, equals_itself hull.high) refl

same_interval : (hull i : Interval) → are_ends hull i.low i.high ≡ true → i ≡ hull
same_interval hull i e =
    let both = and_parts (i.low == hull.low) (i.high == hull.high) e in
    ap₂ (λ (l h : ℕ). record { low = l; high = h }) (eqb-true i.low hull.low both.0) (eqb-true i.high hull.high both.1)

own_text : (r : ℕ) (hull : Interval) → interval_text r hull hull ≡ []
own_text r hull = rw (are_own hull) refl

pub own_texts : (r : ℕ) (hulls : List Interval) → intervals_text r hulls hulls ≡ []
unfolding intervals_text
own_texts r [] = refl
own_texts r (hull ∷ hulls) = rw (own_text r hull) (own_texts (r + 2) hulls)

-- ---- an interval behind its number

record InsideRead (hull : Interval) (bs : List ℕ) (z : Interval × List ℕ) : Type 0 where
  pub text : bs ≡ hex_digits z.0.low 4 ++ (hex_digits z.0.high 4 ++ z.1)
  pub lies : LiesWithin hull z.0.low z.0.high
  pub other : are_ends hull z.0.low z.0.high ≡ false

inside_tests : (hull : Interval) (low high : ℕ) → is_inside hull low high ≡ true → LiesWithin hull low high × (are_ends hull low high ≡ false)
inside_tests hull low high e =
    let a = and_parts (nat_le hull.low low && nat_le low high && nat_le high hull.high) (not (are_ends hull low high)) e in
    let b = and_parts (nat_le hull.low low && nat_le low high) (nat_le high hull.high) a.0 in
    let c = and_parts (nat_le hull.low low) (nat_le low high) b.0 in
    (record { low = at_most_from_test hull.low low c.0; ordered = at_most_from_test low high c.1; high = at_most_from_test high hull.high b.1 }, false_from_not (are_ends hull low high) a.1)
  where
    false_from_not : (b : Bool) → not b ≡ true → b ≡ false
    false_from_not true h = cc
    false_from_not false h = refl

inside_take : WordLaws → (hull : Interval) (bs : List ℕ) (z : Interval × List ℕ) → inside_at hull bs ≡ Some z → InsideRead hull bs z
unfolding inside_at
inside_take k hull bs z e =
    let l = bind_some (digits_at 4 bs) _ z e in
    let h = bind_some (digits_at 4 l.0.1) _ z l.2 in
    let last = cond_some {A = Interval × List ℕ} (is_inside hull l.0.0 h.0.0) (record { low = l.0.0; high = h.0.0 }, h.0.1) z h.2 in
    let first = digits_take k 4 bs l.0 l.1 in
    let second = digits_take k 4 l.0.1 h.0 h.1 in
    let tests = inside_tests hull l.0.0 h.0.0 last.0 in
    let P : Interval × List ℕ → Type 0 = λ y. InsideRead hull bs y in
    subst P last.1 (record { text = first.0 ∙ ap (λ (xs : List ℕ). hex_digits l.0.0 4 ++ xs) second.0; lies = tests.0; other = tests.1 })

inside_again : WordLaws → (hull i : Interval) (rest : List ℕ) → IntervalFits hull → LiesWithin hull i.low i.high → are_ends hull i.low i.high ≡ false
    → inside_at hull (hex_digits i.low 4 ++ (hex_digits i.high 4 ++ rest)) ≡ Some (i, rest)
unfolding inside_at
inside_again k hull i rest fits h other =
    let high : i.high < 16 ^ 4 = omega (arith, h.high, fits.small) in
    let low : i.low < 16 ^ 4 = omega (arith, h.ordered, high) in
    rw (
      digits_again k 4 i.low (hex_digits i.high 4 ++ rest) low,
      digits_again k 4 i.high rest high,
      test_from_at_most hull.low i.low h.low,
      test_from_at_most i.low i.high h.ordered,
      test_from_at_most i.high hull.high h.high,
      other,
    ) refl

-- ---- a pair

record IntervalRead (r : ℕ) (hull : Interval) (bs : List ℕ) (z : Interval × List ℕ) : Type 0 where
  pub text : bs ≡ interval_text r hull z.0 ++ z.1
  pub lies : LiesWithin hull z.0.low z.0.high

left_out : (r : ℕ) (hull : Interval) (bs : List ℕ) (z : Interval × List ℕ) → IntervalFits hull → Some (hull, bs) ≡ Some z → IntervalRead r hull bs z
left_out r hull bs z fits e =
    let P : Interval × List ℕ → Type 0 = λ y. IntervalRead r hull bs y in
    subst P (same_Some {A = Interval × List ℕ} (hull, bs) z e)
    (record { text = ap (λ (xs : List ℕ). xs ++ bs) (sym (own_text r hull)); lies = record { low = omega arith; ordered = fits.ordered; high = omega arith } })

-- the text of a pair whose interval isn't the hull
other_text : (r : ℕ) (hull i : Interval) → are_ends hull i.low i.high ≡ false → interval_text r hull i ≡ hex_digits r 2 ++ (hex_digits i.low 4 ++ hex_digits i.high 4)
other_text r hull i e = rw e refl

three_parts : (ws xs ys zs : List ℕ) → (ws ++ (xs ++ ys)) ++ zs ≡ ws ++ (xs ++ (ys ++ zs))
three_parts ws xs ys zs = append_assoc ws (xs ++ ys) zs ∙ ap (λ (us : List ℕ). ws ++ us) (append_assoc xs ys zs)

interval_by_take : WordLaws → (r : ℕ) (hull : Interval) (bs : List ℕ) (z : Interval × List ℕ) (o : Option (ℕ × List ℕ)) → IntervalFits hull → digits_at 2 bs ≡ o
    → interval_by r hull bs o ≡ Some z → IntervalRead r hull bs z
interval_by_take k r hull bs z None fits is e = left_out r hull bs z fits e
interval_by_take k r hull bs z (Some n) fits is e = elim (chosen (n.0 == r) _ _ (Some z) e) [
  | inl h ↦
      let first = digits_take k 2 bs n is in
      let t = inside_take k hull n.1 z h.1 in
      record {
        text = first.0
            ∙ ap₂ (λ (m : ℕ) (xs : List ℕ). hex_digits m 2 ++ xs) (eqb-true n.0 r h.0) t.text
            ∙ sym (three_parts (hex_digits r 2) (hex_digits z.0.low 4) (hex_digits z.0.high 4) z.1)
            ∙ ap (λ (xs : List ℕ). xs ++ z.1) (sym (other_text r hull z.0 t.other));
        lies = t.lies;
      }
  | inr h ↦ left_out r hull bs z fits h.1
]

interval_take : WordLaws → (r : ℕ) (hull : Interval) (bs : List ℕ) (z : Interval × List ℕ) → IntervalFits hull → interval_at r hull bs ≡ Some z → IntervalRead r hull bs z
unfolding interval_at
interval_take k r hull bs z fits e = interval_by_take k r hull bs z (digits_at 2 bs) fits refl e

-- there is no number, or a greater one
abbrev IsLater : ℕ → Option (ℕ × List ℕ) → Type 0
IsLater r None = ⊤
IsLater r (Some n) = r < n.0

passed_by : (r : ℕ) (hull : Interval) (bs : List ℕ) (o : Option (ℕ × List ℕ)) → IsLater r o → interval_by r hull bs o ≡ Some (hull, bs)
passed_by r hull bs None h = refl
passed_by r hull bs (Some n) h = rw (ne_eqb n.0 r (λ e. omega (arith, e, h))) refl

passed : (r : ℕ) (hull : Interval) (bs : List ℕ) → IsLater r (digits_at 2 bs) → interval_at r hull bs ≡ Some (hull, bs)
unfolding interval_at
passed r hull bs h = passed_by r hull bs (digits_at 2 bs) h

there : WordLaws → (r : ℕ) (hull i : Interval) (rest : List ℕ) → r < 256 → IntervalFits hull → LiesWithin hull i.low i.high → are_ends hull i.low i.high ≡ false
    → interval_at r hull (hex_digits r 2 ++ (hex_digits i.low 4 ++ (hex_digits i.high 4 ++ rest))) ≡ Some (i, rest)
unfolding interval_at
there k r hull i rest low fits h other =
    rw (digits_again k 2 r (hex_digits i.low 4 ++ (hex_digits i.high 4 ++ rest)) (omega (arith, low)), equals_itself r) (inside_again k hull i rest fits h other)

interval_again : WordLaws → (r : ℕ) (hull i : Interval) (rest : List ℕ) → r < 256 → IntervalFits hull → LiesWithin hull i.low i.high → IsLater r (digits_at 2 rest)
    → interval_at r hull (interval_text r hull i ++ rest) ≡ Some (i, rest)
interval_again k r hull i rest low fits h later = elim (cases_Bool (are_ends hull i.low i.high)) [
  | inl e ↦
      let same = same_interval hull i e in
      let none : interval_text r hull i ≡ [] = ap (interval_text r hull) same ∙ own_text r hull in
      ap (λ (xs : List ℕ). interval_at r hull (xs ++ rest)) none ∙ passed r hull rest later ∙ ap (λ (j : Interval). Some (j, rest)) (sym same)
  | inr e ↦
      let text = ap (λ (xs : List ℕ). xs ++ rest) (other_text r hull i e) ∙ three_parts (hex_digits r 2) (hex_digits i.low 4) (hex_digits i.high 4) rest in
      ap (interval_at r hull) text ∙ there k r hull i rest low fits h e
]

-- ---- all pairs

pub intervals_take : WordLaws → (r : ℕ) (hulls : List Interval) (bs : List ℕ) (z : List Interval × List ℕ) → AreAll hulls → intervals_at r hulls bs ≡ Some z
    → (bs ≡ intervals_text r hulls z.0 ++ z.1) × LieWithin hulls z.0
unfolding intervals_at intervals_text
intervals_take k r [] bs z fits e =
    let P : List Interval × List ℕ → Type 0 = λ y. (bs ≡ intervals_text r [] y.0 ++ y.1) × LieWithin [] y.0 in
    subst P (same_Some {A = List Interval × List ℕ} ([], bs) z e) (refl, tt)
intervals_take k r (hull ∷ hulls) bs z fits e =
    let i = bind_some (interval_at r hull bs) _ z e in
    let is = map_some (intervals_at (r + 2) hulls i.0.1) (λ x. (i.0.0 ∷ x.0, x.1)) z i.2 in
    let first = interval_take k r hull bs i.0 fits.0 i.1 in
    let behind = intervals_take k (r + 2) hulls i.0.1 is.0 fits.1 is.1 in
    let P : List Interval × List ℕ → Type 0 = λ y. (bs ≡ intervals_text r (hull ∷ hulls) y.0 ++ y.1) × LieWithin (hull ∷ hulls) y.0 in
    subst P is.2 (
      first.text
          ∙ ap (λ (xs : List ℕ). interval_text r hull i.0.0 ++ xs) behind.0
          ∙ sym (append_assoc (interval_text r hull i.0.0) (intervals_text (r + 2) hulls is.0.0) is.0.1),
      (first.lies, behind.1),
    )

no_digits : digits_at 2 [] ≡ None
unfolding digits_at
no_digits = refl

-- the first number is that of one of the pairs
texts_later : WordLaws → (m r : ℕ) (hulls is : List Interval) → m < r → r + 2 * length hulls ≤ 256 → IsLater m (digits_at 2 (intervals_text r hulls is))
unfolding intervals_text
texts_later k m r [] is lt few = subst (IsLater m) (sym no_digits) tt
texts_later k m r (hull ∷ hulls) [] lt few = subst (IsLater m) (sym no_digits) tt
texts_later k m r (hull ∷ hulls) (i ∷ is) lt few = elim (cases_Bool (are_ends hull i.low i.high)) [
  | inl e ↦
      let none : interval_text r hull i ≡ [] = ap (interval_text r hull) (same_interval hull i e) ∙ own_text r hull in
      let behind = texts_later k m (r + 2) hulls is (omega (arith, lt)) (omega (arith, few)) in
      subst (λ (xs : List ℕ). IsLater m (digits_at 2 (xs ++ intervals_text (r + 2) hulls is))) (sym none) behind
  | inr e ↦
      let rest = intervals_text (r + 2) hulls is in
      let text = ap (λ (xs : List ℕ). xs ++ rest) (other_text r hull i e) ∙ three_parts (hex_digits r 2) (hex_digits i.low 4) (hex_digits i.high 4) rest in
      let read = ap (digits_at 2) text ∙ digits_again k 2 r (hex_digits i.low 4 ++ (hex_digits i.high 4 ++ rest)) (omega (arith, few)) in
      subst (IsLater m) (sym read) lt
]

pub intervals_again : WordLaws → (r : ℕ) (hulls is : List Interval) → r + 2 * length hulls ≤ 256 → AreAll hulls → LieWithin hulls is
    → intervals_at r hulls (intervals_text r hulls is) ≡ Some (is, [])
unfolding intervals_at intervals_text
intervals_again k r [] [] few fits h = refl
intervals_again k r [] (i ∷ is) few fits h = absurd h
intervals_again k r (hull ∷ hulls) [] few fits h = absurd h
intervals_again k r (hull ∷ hulls) (i ∷ is) few fits h =
    let rest = intervals_text (r + 2) hulls is in
    let later = texts_later k r (r + 2) hulls is (omega arith) (omega (arith, few)) in
    rw (interval_again k r hull i rest (omega (arith, few)) fits.0 h.0 later, intervals_again k (r + 2) hulls is (omega (arith, few)) fits.1 h.1) refl

-- without a number, all intervals are the hulls
pub none_read : (r : ℕ) (hulls : List Interval) (bs : List ℕ) → digits_at 2 bs ≡ None → intervals_at r hulls bs ≡ Some (hulls, bs)
unfolding intervals_at
none_read r [] bs e = refl
none_read r (hull ∷ hulls) bs e =
    let none : IsLater r (digits_at 2 bs) = subst (IsLater r) (sym e) tt in
    rw (passed r hull bs none, none_read (r + 2) hulls bs e) refl
