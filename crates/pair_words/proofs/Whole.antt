-- Reading and spelling of all four words are inverse.
use Rattle.std.proofs.Common.{ℕ, ◌*◌, ◌<◌, ◌≤◌, ◌≡◌, inl, inr, List, [], ◌∷◌, ◌++◌, length, codes, false, refl, ap, ap₂, sym, ◌∙◌, arith, Option, Some, None, subst}
use Rattle.std.proofs.lemmas.Bool.{cases_Bool}
use Rattle.std.proofs.lemmas.List.{append-nil}
use Rattle.std.proofs.lemmas.Option.{cond_some, same_Some, none-some}
use Rattle.std.proofs.lemmas.Slice.Eq.{bytes_eq-Decides}
use Rattle.std.specs.Str.{bytes_eq}
use Rattle.basics.specs.Lists.{chosen}
use Rattle.line_reading.specs.Reading.{word_by}
use Rattle.line_reading.specs.Letters.{digits_at, is_end}
use Rattle.line_reading.specs.Words.{WordLaws}
use Rattle.line_reading.proofs.AllLaws.{map_some, bind_some, end_is}
use Rattle.pair_domain.specs.declared.intervals.Interval.{Interval}
use Rattle.pair_domain.specs.declared.facts.PairFacts.{PairFacts}
use Rattle.pair_words.specs.Spelling.{sum_word, compare_word, zero_word, intervals_text, or_dash, intervals_word, facts_words}
use Rattle.pair_words.specs.Reading.{sum_in, compare_in, zero_in, intervals_at, ended, intervals_in, facts_at}
use Rattle.pair_words.specs.Laws.{AreHulls, FitWithin}
use Rattle.pair_words.proofs.Tags.{sum_take, sum_again, compare_take, compare_again, zero_take, zero_again}
use Rattle.pair_words.proofs.Inside.{LieWithin, AreAll, lie_at, lie_from, count_same, all_from, own, own_texts, intervals_take, intervals_again, none_read}

-- ---- the word of intervals

no_dash_for : (w : List ℕ) → is_end w ≡ false → or_dash w ≡ w
no_dash_for [] e = cc
no_dash_for (b ∷ bs) e = refl

ended_is : (o : Option (List Interval × List ℕ)) (is : List Interval) → ended o ≡ Some is → o ≡ Some (is, [])
ended_is o is e =
    let z = bind_some o _ is e in
    let last = cond_some {A = List Interval} (is_end z.0.1) z.0.0 is z.2 in
    z.1 ∙ ap₂ (λ (js : List Interval) (xs : List ℕ). Some (js, xs)) last.1 (end_is z.0.1 last.0)

intervals_word_take : WordLaws → (hulls : List Interval) (w : List ℕ) (is : List Interval) → AreAll hulls → intervals_in hulls w ≡ Some is
    → (w ≡ intervals_word hulls is) × LieWithin hulls is
unfolding intervals_in
intervals_word_take k hulls w is fits e = elim (chosen (bytes_eq w (codes "-")) _ _ (Some is) e) [
  | inl h ↦
      let P : List Interval → Type 0 = λ js. (w ≡ intervals_word hulls js) × LieWithin hulls js in
      subst P (same_Some hulls is h.1) ((bytes_eq-Decides w (codes "-")).0 h.0 ∙ ap or_dash (sym (own_texts 0 hulls)), own hulls fits)
  | inr h ↦ elim (chosen (is_end w) _ _ (Some is) h.1) [
    | inl g ↦ absurd (none-some is g.1)
    | inr g ↦
        let t = intervals_take k 0 hulls w (is, []) fits (ended_is (intervals_at 0 hulls w) is g.1) in
        let text : w ≡ intervals_text 0 hulls is = t.0 ∙ append-nil (intervals_text 0 hulls is) in
        (sym (no_dash_for w g.0) ∙ ap or_dash text, t.1)
  ]
]

no_letters : digits_at 2 [] ≡ None
unfolding digits_at
no_letters = refl

dash_is_none : digits_at 2 (codes "-") ≡ None
unfolding digits_at
dash_is_none = refl

-- intervals with an empty text are the hulls, and a dash is no text of intervals
by_text : WordLaws → (hulls is : List Interval) (text : List ℕ) → AreAll hulls → intervals_at 0 hulls text ≡ Some (is, []) → intervals_in hulls (or_dash text) ≡ Some is
unfolding intervals_in
by_text k hulls is [] fits e =
    let same = same_Some {A = List Interval × List ℕ} (hulls, []) (is, []) (sym (none_read 0 hulls [] no_letters) ∙ e) in
    ap (λ (z : List Interval × List ℕ). Some z.0) same
by_text k hulls is (b ∷ bs) fits e = rw (no_dash (b ∷ bs) e, e) refl
  where
    no_dash : (text : List ℕ) → intervals_at 0 hulls text ≡ Some (is, []) → bytes_eq text (codes "-") ≡ false
    no_dash text e = elim (cases_Bool (bytes_eq text (codes "-"))) [
      | inl dash ↦
          let read = ap (intervals_at 0 hulls) (sym ((bytes_eq-Decides text (codes "-")).0 dash)) ∙ e in
          let same = same_Some {A = List Interval × List ℕ} (hulls, codes "-") (is, []) (sym (none_read 0 hulls (codes "-") dash_is_none) ∙ read) in
          let left : codes "-" ≡ [] = ap (λ (z : List Interval × List ℕ). z.1) same in
          cc
      | inr other ↦ other
    ]

intervals_word_again : WordLaws → (hulls is : List Interval) → 2 * length hulls ≤ 256 → AreAll hulls → LieWithin hulls is → intervals_in hulls (intervals_word hulls is) ≡ Some is
intervals_word_again k hulls is few fits h =
    by_text k hulls is (intervals_text 0 hulls is) fits (intervals_again k 0 hulls is (omega (arith, few)) fits h)

-- ---- all four words

pub all_hulls : (hulls : List Interval) → AreHulls hulls → AreAll hulls
all_hulls hulls h = all_from hulls (λ n lt. h.each n (omega (arith, lt, h.count)))

pub lie_within : (hulls : List Interval) (f : PairFacts) → AreHulls hulls → FitWithin hulls f → LieWithin hulls f.intervals
lie_within hulls f h g =
    lie_from hulls f.intervals (g.fit.count ∙ sym h.count) (λ n lt.
    let small : n < 16 = omega (arith, lt, h.count) in
    record { low = (g.within n small).low; ordered = (g.fit.intervals n small).ordered; high = (g.within n small).high })

word_take : {A : Type 0} (f : List ℕ → Option A) (ws : List (List ℕ)) (z : A × List (List ℕ)) → word_by f ws ≡ Some z → (w : List ℕ) × (ws ≡ w ∷ z.1) × (f w ≡ Some z.0)
word_take {A} f [] z e = absurd (none-some z e)
word_take {A} f (w ∷ ws) z e =
    let x = map_some (f w) (λ x. (x, ws)) z e in
    (w, ap (λ (y : A × List (List ℕ)). w ∷ y.1) x.2, x.1 ∙ ap (λ (y : A × List (List ℕ)). Some y.0) x.2)

cons : (x y : List ℕ) (xs ys : List (List ℕ)) → x ≡ y → xs ≡ ys → x ∷ xs ≡ y ∷ ys
cons x y xs ys e f = rw (e, f) refl

pub facts_take : WordLaws → (hulls : List Interval) (ws rest : List (List ℕ)) (f : PairFacts) → AreHulls hulls → facts_at hulls ws ≡ Some (f, rest)
    → (ws ≡ facts_words hulls f ++ rest) × FitWithin hulls f
unfolding facts_at
facts_take k hulls ws rest f h e =
    let z : PairFacts × List (List ℕ) = (f, rest) in
    let s = bind_some (word_by sum_in ws) _ z e in
    let c = bind_some (word_by compare_in s.0.1) _ z s.2 in
    let o = bind_some (word_by zero_in c.0.1) _ z c.2 in
    let i = bind_some (word_by (intervals_in hulls) o.0.1) _ z o.2 in
    let facts : PairFacts = record { intervals = i.0.0; sum = s.0.0; compare = c.0.0; zero = o.0.0 } in
    let same = same_Some {A = PairFacts × List (List ℕ)} (facts, i.0.1) z i.2 in
    let sw = word_take sum_in ws s.0 s.1 in
    let cw = word_take compare_in s.0.1 c.0 c.1 in
    let ow = word_take zero_in c.0.1 o.0 o.1 in
    let iw = word_take (intervals_in hulls) o.0.1 i.0 i.1 in
    let st = sum_take k sw.0 s.0.0 sw.2 in
    let ct = compare_take k cw.0 c.0.0 cw.2 in
    let ot = zero_take k ow.0 o.0.0 ow.2 in
    let all = all_hulls hulls h in
    let it = intervals_word_take k hulls iw.0 i.0.0 all iw.2 in
    let text : ws ≡ facts_words hulls facts ++ i.0.1 =
    sw.1
    ∙ cons sw.0 (sum_word s.0.0) s.0.1 _ st.0
    (cw.1
    ∙ cons cw.0 (compare_word c.0.0) c.0.1 _ ct.0
    (ow.1 ∙ cons ow.0 (zero_word o.0.0) o.0.1 _ ot.0 (iw.1 ∙ cons iw.0 (intervals_word hulls i.0.0) i.0.1 _ it.0 refl))) in
    let lies : (n : ℕ) → n < 16 → _ = λ n lt. lie_at hulls i.0.0 it.1 n (omega (arith, lt, h.count)) in
    let fit : FitWithin hulls facts =
    record {
      fit = record {
        count = count_same hulls i.0.0 it.1 ∙ h.count;
        intervals = λ n lt. record { ordered = (lies n lt).ordered; small = omega (arith, (lies n lt).high, (h.each n lt).small) };
        sum = st.1;
        compare = ct.1;
        zero = ot.1;
      };
      within = λ n lt. record { low = (lies n lt).low; high = (lies n lt).high };
    } in
    let P : PairFacts × List (List ℕ) → Type 0 = λ y. (ws ≡ facts_words hulls y.0 ++ y.1) × FitWithin hulls y.0 in
    subst P same (text, fit)

pub facts_again : WordLaws → (hulls : List Interval) (f : PairFacts) (rest : List (List ℕ)) → AreHulls hulls → FitWithin hulls f
    → facts_at hulls (facts_words hulls f ++ rest) ≡ Some (f, rest)
unfolding facts_at
facts_again k hulls f rest h g =
    let intervals = intervals_word_again k hulls f.intervals (omega (arith, h.count)) (all_hulls hulls h) (lie_within hulls f h g) in
    rw (sum_again k f.sum g.fit.sum, compare_again k f.compare g.fit.compare, zero_again k f.zero g.fit.zero, intervals) refl
