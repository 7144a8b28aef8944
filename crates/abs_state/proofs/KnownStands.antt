-- Facts on pairs after a return hold, and are monotone.
use Rattle.std.proofs.Common.{◌≡◌, refl, sym, ◌∙◌, ap, subst, ℕ, ◌+◌, ◌*◌, ◌%◌, ◌<◌, Bool, true, false, ◌&&◌, List, Option, Some, None, slice_index, arith}
use Rattle.std.specs.Prelude.{◌==◌, if◌then◌else◌}
use Rattle.std.proofs.lemmas.Bool.{eqb-true, eq-eqb, false≢true}
use Rattle.bit_domain.specs.Ranges.{SetHas, IsSetWithin}
use Rattle.sp_domain.specs.declared.tags.Tag.{Tag}
use Rattle.sp_domain.specs.declared.tags.Tag.TheVariants as tag
use Rattle.sp_domain.specs.Tags.{Origin, TagHolds, IsTagWithin, is_same_tag}
use Rattle.pair_domain.specs.declared.intervals.Interval.{Interval}
use Rattle.pair_domain.specs.declared.facts.PairFacts.{PairFacts}
use Rattle.pair_domain.specs.declared.tags.SumTag.{SumTag}
use Rattle.pair_domain.specs.declared.tags.SumTag.TheVariants as sum
use Rattle.pair_domain.specs.declared.tags.Side.{Side}
use Rattle.pair_domain.specs.declared.tags.Side.TheVariants as side
use Rattle.pair_domain.specs.declared.tags.CompareTag.{CompareTag}
use Rattle.pair_domain.specs.declared.tags.CompareTag.TheVariants as compare
use Rattle.pair_domain.specs.declared.tags.ZeroTag.{ZeroTag}
use Rattle.pair_domain.specs.declared.tags.ZeroTag.TheVariants as zero
use Rattle.pair_domain.specs.Intervals.{InInterval, IsIntervalWithin, hull}
use Rattle.pair_domain.specs.Tags.{pair_number, side_byte, LiesUp, LiesDown, IsCompared, SumHolds, CompareHolds, ZeroHolds, IsSumTagWithin, IsCompareWithin, IsZeroWithin}
use Rattle.std.specs.Int.{from_bool}
use Rattle.pair_domain.specs.Facts.{interval_at, KnownHolds, AreFactsWithin, IsKnownWithin}
use Rattle.pair_domain.specs.Rank.{SideFits, SumFits, CompareFits, ZeroFits, FactsFit, KnownFits}
use Rattle.pair_domain.proofs.AllLaws.{intervals_meet, hulls_hold}
use Rattle.abs_state.specs.declared.values.AbsByte.{AbsByte}
use Rattle.abs_state.specs.Values.{value_at, set_of}
use Rattle.abs_state.specs.Stands.{RegistersStand}
use Rattle.abs_state.specs.Order.{IsByteWithin}
use Rattle.abs_state.specs.Formed.{NamesRegister}
use Rattle.abs_state.specs.PairsBack.{kept_pair, interval_kept, cut_to, interval_back, collected, keeps, keeps_side, sum_after, compare_after, zero_after, facts_with, following, known_back}
use Rattle.abs_state.proofs.PairsBack.{collected_was, collected_there, cut_was, kept_holds, kept_more, kept_is, kept_less}
use Rattle.abs_state.proofs.KnownBack.{following_was}

same_entry : (t : Tag) (r : ℕ) → is_same_tag t (tag.Entry r) ≡ true → t ≡ tag.Entry r
same_entry (tag.Entry s) r e = ap tag.Entry (eqb-true s r e)
same_entry tag.None r e = cc
same_entry tag.EntryFlags r e = cc
same_entry (tag.SpLo j) r e = cc
same_entry (tag.SpHi k) r e = cc

both : (a b : Bool) → a && b ≡ true → (a ≡ true) × (b ≡ true)
both true true e = (refl, refl)
both true false e = absurd (false≢true e)
both false b e = absurd (false≢true e)

-- ---- what holds

module _ (o callee : Origin) (exit after : List AbsByte) (registers : List ℕ) (out : RegistersStand callee exit registers) (names : (r : ℕ) → r < 34 → NamesRegister (value_at exit r).tag)
    (in_frame : RegistersStand o after registers) where
  held_at : (r : ℕ) → r < 34 → SetHas (set_of (value_at after r)) (slice_index registers r)
  held_at r lt = let h = in_frame r lt in record { bits = h.bits; low = h.low; high = h.high; small = h.small }

  entry_value : (r a : ℕ) → r < 34 → (value_at exit r).tag ≡ tag.Entry a → (slice_index registers r ≡ slice_index callee.registers a) × (a < 34)
  entry_value r a lt e =
      (subst (λ (t : Tag). TagHolds callee t (slice_index registers r)) e (out r lt).tag, subst NamesRegister e (names r lt))

  kept_register : (r : ℕ) → r < 32 → keeps exit r ≡ true → slice_index registers r ≡ slice_index callee.registers r
  kept_register r lt e = (entry_value r r (omega (arith, lt)) (same_entry (value_at exit r).tag r e)).0

  interval_holds : (caller found : List Interval) → ((n : ℕ) → n < 16 → InInterval (interval_at caller n) (pair_number callee.registers (2 * n)))
      → ((n : ℕ) → n < 16 → InInterval (interval_at found n) (pair_number registers (2 * n)))
      → (n : ℕ) → n < 16 → (i : Interval) × ((interval_back caller exit found after n ≡ Some i) × InInterval i (pair_number registers (2 * n)))
  interval_holds caller found known h n lt =
      let t = (value_at exit (2 * n)).tag in
      let u = (value_at exit (2 * n + 1)).tag in
      let w = pair_number registers (2 * n) in
      let from : (a : ℕ) → kept_pair t u ≡ Some a → InInterval (interval_at caller a) w = λ a e.
      let is = kept_is t u a e in
      let x = entry_value (2 * n) (2 * a) (omega (arith, lt)) is.first in
      let y = entry_value (2 * n + 1) (2 * a + 1) (omega (arith, lt)) is.second in
      let same : pair_number callee.registers (2 * a) ≡ w = omega (arith, x.0, y.0) in
      subst (InInterval (interval_at caller a)) same (known a is.small) in
      let kept = kept_holds caller (kept_pair t u) (interval_at found n) w from (h n lt) in
      let lo = set_of (value_at after (2 * n)) in
      let hi = set_of (value_at after (2 * n + 1)) in
      let inside = hulls_hold.holds lo hi (slice_index registers (2 * n)) (slice_index registers (2 * n + 1)) (held_at (2 * n) (omega (arith, lt))) (held_at (2 * n + 1) (omega (arith, lt))) in
      let met = intervals_meet.meets kept.0 (hull lo hi) w kept.1.1 inside in
      (met.0, (ap (cut_to (hull lo hi)) kept.1.0 ∙ met.1.0, met.1.1))

  -- the tags of the caller's flags, if these flags are c, z and s again
  kept_number : (r : ℕ) → r < 32 → r % 2 ≡ 0 → keeps exit r ≡ true → keeps exit (r + 1) ≡ true → pair_number callee.registers r ≡ pair_number registers r
  kept_number r lt even a b = omega (arith, kept_register r lt a, kept_register (r + 1) (omega (arith, lt, even)) b)

  kept_side : (y : Side) → SideFits y → keeps_side exit y ≡ true → side_byte callee.registers y ≡ side_byte registers y
  kept_side (side.Byte k) fits e = refl
  kept_side (side.Register q) fits e = sym (kept_register q fits e)

  sum_by : (t : SumTag) (c : Bool) → (b : Bool) → (b ≡ true → SumHolds registers t c) → SumHolds registers (if b then t else sum.None) c
  sum_by t c true h = h refl
  sum_by t c false h = tt

  sum_holds : (t : SumTag) (c : Bool) → SumFits t → SumHolds callee.registers t c → SumHolds registers (sum_after exit t) c
  sum_holds sum.None c fits h = tt
  sum_holds (sum.Up r a b) c fits h =
      sum_by (sum.Up r a b) c (keeps exit r && keeps exit (r + 1)) (λ e.
      let k = both (keeps exit r) (keeps exit (r + 1)) e in
      λ near. subst (λ (w : ℕ). LiesUp a b w (from_bool c)) (kept_number r fits.pair.register fits.pair.even k.0 k.1) (h near))
  sum_holds (sum.Down r a b) c fits h =
      sum_by (sum.Down r a b) c (keeps exit r && keeps exit (r + 1)) (λ e.
      let k = both (keeps exit r) (keeps exit (r + 1)) e in
      λ near. subst (λ (w : ℕ). LiesDown a b w (from_bool c)) (kept_number r fits.pair.register fits.pair.even k.0 k.1) (h near))

  compare_by : (t : CompareTag) (c z s : Bool) → (b : Bool) → (b ≡ true → CompareHolds registers t c z s) → CompareHolds registers (if b then t else compare.None) c z s
  compare_by t c z s true h = h refl
  compare_by t c z s false h = tt

  compare_holds : (t : CompareTag) (c z s : Bool) → CompareFits t → CompareHolds callee.registers t c z s → CompareHolds registers (compare_after exit t) c z s
  compare_holds compare.None c z s fits h = tt
  compare_holds (compare.Byte x y) c z s fits h =
      compare_by (compare.Byte x y) c z s (keeps exit x && keeps_side exit y) (λ e.
      let k = both (keeps exit x) (keeps_side exit y) e in
      subst (λ (v : ℕ). IsCompared 128 v (side_byte registers y) c z s) (sym (kept_register x fits.0 k.0))
      (subst (λ (v : ℕ). IsCompared 128 (slice_index callee.registers x) v c z s) (kept_side y fits.1 k.1) h))
  compare_holds (compare.Pair r y p) c z s fits h =
      compare_by (compare.Pair r y p) c z s (keeps exit r && keeps exit (r + 1) && keeps_side exit y && keeps exit p) (λ e.
      let k = both (keeps exit r && keeps exit (r + 1) && keeps_side exit y) (keeps exit p) e in
      let l = both (keeps exit r && keeps exit (r + 1)) (keeps_side exit y) k.0 in
      let m = both (keeps exit r) (keeps exit (r + 1)) l.0 in
      let right : side_byte callee.registers y + 256 * slice_index callee.registers p ≡ side_byte registers y + 256 * slice_index registers p =
      omega (arith, kept_side y fits.1 l.1, kept_register p fits.2 k.1) in
      subst (λ (v : ℕ). IsCompared 32768 v (side_byte registers y + 256 * slice_index registers p) c z s) (kept_number r fits.0.register fits.0.even m.0 m.1)
      (subst (λ (v : ℕ). IsCompared 32768 (pair_number callee.registers r) v c z s) right h))

  zero_by : (t : ZeroTag) (z : Bool) → (b : Bool) → (b ≡ true → ZeroHolds registers t z) → ZeroHolds registers (if b then t else zero.None) z
  zero_by t z true h = h refl
  zero_by t z false h = tt

  zero_holds : (t : ZeroTag) (z : Bool) → ZeroFits t → ZeroHolds callee.registers t z → ZeroHolds registers (zero_after exit t) z
  zero_holds zero.None z fits h = tt
  zero_holds (zero.Byte x) z fits h =
      zero_by (zero.Byte x) z (keeps exit x) (λ e. h ∙ ap (λ (v : ℕ). v == 0) (sym (kept_register x fits e)))
  zero_holds (zero.Pair r) z fits h =
      zero_by (zero.Pair r) z (keeps exit r && keeps exit (r + 1)) (λ e.
      let k = both (keeps exit r) (keeps exit (r + 1)) e in
      h ∙ ap (λ (v : ℕ). v == 0) (kept_number r fits.register fits.even k.0 k.1))

  pub known_holds : (caller found : Option PairFacts) (entry : Bool) (c z s c' z' s' : Bool) → KnownFits caller → KnownHolds caller callee.registers c z s
      → KnownHolds found registers c' z' s' → (new_c new_z new_s : Bool) → (entry ≡ true → (new_c ≡ c) × (new_z ≡ z) × (new_s ≡ s))
      → (x : Option PairFacts) × ((known_back caller exit entry found after ≡ Some x) × KnownHolds x registers new_c new_z new_s)
  known_holds None found entry c z s c' z' s' fits a b nc nz ns same = (None, (refl, tt))
  known_holds (Some f) None entry c z s c' z' s' fits a b nc nz ns same = (None, (refl, tt))
  known_holds (Some f) (Some g) entry c z s c' z' s' fits a b nc nz ns same =
      let step = interval_back f.intervals exit g.intervals after in
      let each = interval_holds f.intervals g.intervals a.intervals b.intervals in
      let there = collected_there step 0 16 (λ j low lt. let i = each j (omega (arith, lt)) in (i.0, i.1.0)) in
      let was = collected_was step 0 16 there.0 there.1 in
      let hold : (n : ℕ) → n < 16 → InInterval (interval_at there.0 n) (pair_number registers (2 * n)) = λ n lt.
      let i = each n lt in
      let e : 0 + n ≡ n = omega arith in
      let one : Some i.0 ≡ Some (interval_at there.0 n) = sym i.1.0 ∙ ap step (sym e) ∙ was.1 n lt in
      let same : i.0 ≡ interval_at there.0 n = cc in
      subst (λ (j : Interval). InInterval j (pair_number registers (2 * n))) same i.1.1 in
      by entry same there.0 there.1 hold
    where
      by : (entry : Bool) → (entry ≡ true → (nc ≡ c) × (nz ≡ z) × (ns ≡ s)) → (is : List Interval) → collected (interval_back f.intervals exit g.intervals after) 0 16 ≡ Some is
          → ((n : ℕ) → n < 16 → InInterval (interval_at is n) (pair_number registers (2 * n)))
          → (x : Option PairFacts) × ((following (facts_with f exit entry (collected (interval_back f.intervals exit g.intervals after) 0 16)) ≡ Some x) × KnownHolds x registers nc nz ns)
      by true same is e hold =
          let q = same refl in (
            Some (record { intervals = is; sum = sum_after exit f.sum; compare = compare_after exit f.compare; zero = zero_after exit f.zero }),
            (
              ap (λ (l : Option (List Interval)). following (facts_with f exit true l)) e,
              record {
                intervals = hold;
                sum = subst (SumHolds registers (sum_after exit f.sum)) (sym q.0) (sum_holds f.sum c fits.sum a.sum);
                compare =
                    subst (λ (v : Bool). CompareHolds registers (compare_after exit f.compare) v nz ns) (sym q.0)
                    (subst (λ (v : Bool). CompareHolds registers (compare_after exit f.compare) c v ns) (sym q.1)
                    (subst (λ (v : Bool). CompareHolds registers (compare_after exit f.compare) c z v) (sym q.2) (compare_holds f.compare c z s fits.compare a.compare)));
                zero = subst (ZeroHolds registers (zero_after exit f.zero)) (sym q.1) (zero_holds f.zero z fits.zero a.zero);
              },
            ),
          )
      by false same is e hold = (
        Some (record { intervals = is; sum = sum.None; compare = compare.None; zero = zero.None }),
        (ap (λ (l : Option (List Interval)). following (facts_with f exit false l)) e, record { intervals = hold; sum = tt; compare = tt; zero = tt }),
      )

-- ---- what is more

module _ (exit exit' after after' : List AbsByte) (over : (r : ℕ) → r < 34 → IsByteWithin (value_at exit r) (value_at exit' r))
    (above : (r : ℕ) → r < 34 → IsByteWithin (value_at after r) (value_at after' r)) where
  set_above : (r : ℕ) → r < 34 → IsSetWithin (set_of (value_at after r)) (set_of (value_at after' r))
  set_above r lt = let h = above r lt in record { bits = h.bits; low = h.low; high = h.high }

  interval_more : (caller caller' found found' : List Interval) → ((n : ℕ) → n < 16 → IsIntervalWithin (interval_at caller n) (interval_at caller' n))
      → ((n : ℕ) → n < 16 → IsIntervalWithin (interval_at found n) (interval_at found' n)) → ((r : ℕ) → r < 34 → NamesRegister (value_at exit' r).tag)
      → (n : ℕ) → n < 16 → (m : Interval) → interval_back caller exit found after n ≡ Some m
      → (m' : Interval) × ((interval_back caller' exit' found' after' n ≡ Some m') × IsIntervalWithin m m')
  interval_more caller caller' found found' a b names n lt m e =
      let t = (value_at exit (2 * n)).tag in
      let u = (value_at exit (2 * n + 1)).tag in
      let t' = (value_at exit' (2 * n)).tag in
      let u' = (value_at exit' (2 * n + 1)).tag in
      let h = hull (set_of (value_at after (2 * n))) (set_of (value_at after (2 * n + 1))) in
      let h' = hull (set_of (value_at after' (2 * n))) (set_of (value_at after' (2 * n + 1))) in
      let hulls = hulls_hold.more (set_of (value_at after (2 * n))) (set_of (value_at after (2 * n + 1))) (set_of (value_at after' (2 * n))) (set_of (value_at after' (2 * n + 1)))
      (set_above (2 * n) (omega (arith, lt))) (set_above (2 * n + 1) (omega (arith, lt))) in
      let was = cut_was h (interval_kept caller (kept_pair t u) (interval_at found n)) m e in
      let small : (k : ℕ) → kept_pair t' u' ≡ Some k → k < 16 = λ k is.
      (kept_is t' u' k is).small in
      let kept =
      kept_more caller caller' (kept_pair t u) (kept_pair t' u') (interval_at found n) (interval_at found' n) was.0
      (kept_less t u t' u' (over (2 * n) (omega (arith, lt))).tag (over (2 * n + 1) (omega (arith, lt))).tag) (λ k is. a k (small k is)) (b n lt) was.1.0 in
      let met = intervals_meet.more was.0 h kept.0 h' m kept.1.1 hulls was.1.1 in
      (met.0, (ap (cut_to h') kept.1.0 ∙ met.1.0, met.1.1))

  -- the lesser keeps what the greater keeps
  keeps_more : (r : ℕ) → r < 32 → keeps exit' r ≡ true → keeps exit r ≡ true
  keeps_more r lt e =
      let is : IsTagWithin (value_at exit r).tag (tag.Entry r) = subst (IsTagWithin (value_at exit r).tag) (same_entry (value_at exit' r).tag r e) (over r (omega (arith, lt))).tag in
      ap (λ (t : Tag). is_same_tag t (tag.Entry r)) is ∙ eq-eqb r r refl

  both_true : (a b : Bool) → a ≡ true → b ≡ true → a && b ≡ true
  both_true true b p q = q
  both_true false b p q = absurd (false≢true p)

  side_more : (y : Side) → SideFits y → keeps_side exit' y ≡ true → keeps_side exit y ≡ true
  side_more (side.Byte k) fits e = refl
  side_more (side.Register q) fits e = keeps_more q fits e

  pair_keeps_more : (r : ℕ) → r < 32 → r % 2 ≡ 0 → keeps exit' r && keeps exit' (r + 1) ≡ true → keeps exit r && keeps exit (r + 1) ≡ true
  pair_keeps_more r lt even e =
      let k = both (keeps exit' r) (keeps exit' (r + 1)) e in
      both_true (keeps exit r) (keeps exit (r + 1)) (keeps_more r lt k.0) (keeps_more (r + 1) (omega (arith, lt, even)) k.1)

  sum_if : (b b' : Bool) (t t' : SumTag) → (b' ≡ true → b ≡ true) → IsSumTagWithin t t' → IsSumTagWithin (if b then t else sum.None) (if b' then t' else sum.None)
  sum_if b false t t' same le = tt
  sum_if true true t t' same le = le
  sum_if false true t t' same le = absurd (false≢true (same refl))

  sum_more : (t t' : SumTag) → SumFits t' → IsSumTagWithin t t' → IsSumTagWithin (sum_after exit t) (sum_after exit' t')
  sum_more t sum.None fits le = tt
  sum_more (sum.Up r a b) (sum.Up q c d) fits le =
      sum_if (keeps exit r && keeps exit (r + 1)) (keeps exit' q && keeps exit' (q + 1)) (sum.Up r a b) (sum.Up q c d)
      (λ e. subst (λ (k : ℕ). keeps exit k && keeps exit (k + 1) ≡ true) (sym (le fits.near).pair) (pair_keeps_more q fits.pair.register fits.pair.even e)) le
  sum_more (sum.Down r a b) (sum.Down q c d) fits le =
      sum_if (keeps exit r && keeps exit (r + 1)) (keeps exit' q && keeps exit' (q + 1)) (sum.Down r a b) (sum.Down q c d)
      (λ e. subst (λ (k : ℕ). keeps exit k && keeps exit (k + 1) ≡ true) (sym (le fits.near).pair) (pair_keeps_more q fits.pair.register fits.pair.even e)) le
  sum_more sum.None (sum.Up q c d) fits le = absurd (le fits.near)
  sum_more sum.None (sum.Down q c d) fits le = absurd (le fits.near)
  sum_more (sum.Up r a b) (sum.Down q c d) fits le = absurd (le fits.near)
  sum_more (sum.Down r a b) (sum.Up q c d) fits le = absurd (le fits.near)

  compare_if : (b b' : Bool) (t : CompareTag) → (b' ≡ true → b ≡ true) → IsCompareWithin t t → IsCompareWithin (if b then t else compare.None) (if b' then t else compare.None)
  compare_if b false t same le = tt
  compare_if true true t same le = le
  compare_if false true t same le = absurd (false≢true (same refl))

  compare_more : (t t' : CompareTag) → CompareFits t' → IsCompareWithin t t' → IsCompareWithin (compare_after exit t) (compare_after exit' t')
  compare_more t compare.None fits le = tt
  compare_more t (compare.Byte x y) fits le =
      subst (λ (v : CompareTag). IsCompareWithin (compare_after exit v) (compare_after exit' (compare.Byte x y))) (sym le)
      (compare_if (keeps exit x && keeps_side exit y) (keeps exit' x && keeps_side exit' y) (compare.Byte x y) (λ e.
      let k = both (keeps exit' x) (keeps_side exit' y) e in
      both_true (keeps exit x) (keeps_side exit y) (keeps_more x fits.0 k.0) (side_more y fits.1 k.1)) refl)
  compare_more t (compare.Pair r y p) fits le =
      subst (λ (v : CompareTag). IsCompareWithin (compare_after exit v) (compare_after exit' (compare.Pair r y p))) (sym le)
      (compare_if (keeps exit r && keeps exit (r + 1) && keeps_side exit y && keeps exit p) (keeps exit' r && keeps exit' (r + 1) && keeps_side exit' y && keeps exit' p) (compare.Pair r y p) (λ e.
      let k = both (keeps exit' r && keeps exit' (r + 1) && keeps_side exit' y) (keeps exit' p) e in
      let l = both (keeps exit' r && keeps exit' (r + 1)) (keeps_side exit' y) k.0 in
      both_true (keeps exit r && keeps exit (r + 1) && keeps_side exit y) (keeps exit p)
      (both_true (keeps exit r && keeps exit (r + 1)) (keeps_side exit y) (pair_keeps_more r fits.0.register fits.0.even l.0) (side_more y fits.1 l.1)) (keeps_more p fits.2 k.1)) refl)

  zero_if : (b b' : Bool) (t : ZeroTag) → (b' ≡ true → b ≡ true) → IsZeroWithin t t → IsZeroWithin (if b then t else zero.None) (if b' then t else zero.None)
  zero_if b false t same le = tt
  zero_if true true t same le = le
  zero_if false true t same le = absurd (false≢true (same refl))

  zero_more : (t t' : ZeroTag) → ZeroFits t' → IsZeroWithin t t' → IsZeroWithin (zero_after exit t) (zero_after exit' t')
  zero_more t zero.None fits le = tt
  zero_more t (zero.Byte x) fits le =
      subst (λ (v : ZeroTag). IsZeroWithin (zero_after exit v) (zero_after exit' (zero.Byte x))) (sym le)
      (zero_if (keeps exit x) (keeps exit' x) (zero.Byte x) (keeps_more x fits) refl)
  zero_more t (zero.Pair r) fits le =
      subst (λ (v : ZeroTag). IsZeroWithin (zero_after exit v) (zero_after exit' (zero.Pair r))) (sym le)
      (zero_if (keeps exit r && keeps exit (r + 1)) (keeps exit' r && keeps exit' (r + 1)) (zero.Pair r) (pair_keeps_more r fits.register fits.even) refl)

  -- a list of intervals within another, with the caller's tags or without
  facts_more : (f f' : PairFacts) (is is' : List Interval) (k : PairFacts) (entry entry' : Bool) → FactsFit f' → AreFactsWithin f f'
      → ((n : ℕ) → n < 16 → IsIntervalWithin (interval_at is n) (interval_at is' n)) → (entry' ≡ true → entry ≡ true) → facts_with f exit entry (Some is) ≡ Some k
      → (k' : PairFacts) × ((facts_with f' exit' entry' (Some is') ≡ Some k') × AreFactsWithin k k')
  facts_more f f' is is' k true true fits le within same e =
      let P : PairFacts → Type 0 = λ h. AreFactsWithin h (record { intervals = is'; sum = sum_after exit' f'.sum; compare = compare_after exit' f'.compare; zero = zero_after exit' f'.zero }) in
      let is_k : record { intervals = is; sum = sum_after exit f.sum; compare = compare_after exit f.compare; zero = zero_after exit f.zero } ≡ k = cc in (
        record { intervals = is'; sum = sum_after exit' f'.sum; compare = compare_after exit' f'.compare; zero = zero_after exit' f'.zero },
        (
          refl,
          subst P is_k (record {
            intervals = within;
            sum = sum_more f.sum f'.sum fits.sum le.sum;
            compare = compare_more f.compare f'.compare fits.compare le.compare;
            zero = zero_more f.zero f'.zero fits.zero le.zero;
          }),
        ),
      )
  facts_more f f' is is' k true false fits le within same e =
      let P : PairFacts → Type 0 = λ h. AreFactsWithin h (record { intervals = is'; sum = sum.None; compare = compare.None; zero = zero.None }) in
      let is_k : record { intervals = is; sum = sum_after exit f.sum; compare = compare_after exit f.compare; zero = zero_after exit f.zero } ≡ k = cc in
      (record { intervals = is'; sum = sum.None; compare = compare.None; zero = zero.None }, (refl, subst P is_k (record { intervals = within; sum = tt; compare = tt; zero = tt })))
  facts_more f f' is is' k false false fits le within same e =
      let P : PairFacts → Type 0 = λ h. AreFactsWithin h (record { intervals = is'; sum = sum.None; compare = compare.None; zero = zero.None }) in
      let is_k : record { intervals = is; sum = sum.None; compare = compare.None; zero = zero.None } ≡ k = cc in
      (record { intervals = is'; sum = sum.None; compare = compare.None; zero = zero.None }, (refl, subst P is_k (record { intervals = within; sum = tt; compare = tt; zero = tt })))
  facts_more f f' is is' k false true fits le within same e = absurd (false≢true (same refl))

  pub known_more : (caller caller' found found' : Option PairFacts) (entry entry' : Bool) → KnownFits caller' → IsKnownWithin caller caller' → IsKnownWithin found found'
      → (entry' ≡ true → entry ≡ true) → ((r : ℕ) → r < 34 → NamesRegister (value_at exit' r).tag) → (x : Option PairFacts) → known_back caller exit entry found after ≡ Some x
      → (x' : Option PairFacts) × ((known_back caller' exit' entry' found' after' ≡ Some x') × IsKnownWithin x x')
  known_more caller None found found' entry entry' fits le over same names x e = (None, (refl, tt))
  known_more caller (Some f') found None entry entry' fits le over same names x e = (None, (refl, tt))
  known_more None (Some f') found (Some g') entry entry' fits le over same names x e = absurd le
  known_more (Some f) (Some f') None (Some g') entry entry' fits le over same names x e = absurd over
  known_more (Some f) (Some f') (Some g) (Some g') entry entry' fits le over same names x e =
      let was = following_was (facts_with f exit entry (collected (interval_back f.intervals exit g.intervals after) 0 16)) x e in
      by (collected (interval_back f.intervals exit g.intervals after) 0 16) refl was.0 was.1.0 was.1.1
    where
      by : (o : Option (List Interval)) → collected (interval_back f.intervals exit g.intervals after) 0 16 ≡ o → (k : PairFacts) → facts_with f exit entry o ≡ Some k → Some k ≡ x
          → (x' : Option PairFacts) × ((known_back (Some f') exit' entry' (Some g') after' ≡ Some x') × IsKnownWithin x x')
      by None is k d kx = absurd (cc)
      by (Some is) all k d kx =
          let step = interval_back f.intervals exit g.intervals after in
          let step' = interval_back f'.intervals exit' g'.intervals after' in
          let was = collected_was step 0 16 is all in
          let each : (n : ℕ) → n < 16 → (m : Interval) × ((step' n ≡ Some m) × IsIntervalWithin (interval_at is n) m) = λ n lt.
          let z : n ≡ 0 + n = omega arith in
          interval_more f.intervals f'.intervals g.intervals g'.intervals le.intervals over.intervals names n lt (interval_at is n) (ap step z ∙ was.1 n lt) in
          let there = collected_there step' 0 16 (λ j low lt. let i = each j (omega (arith, lt)) in (i.0, i.1.0)) in
          let was' = collected_was step' 0 16 there.0 there.1 in
          let within : (n : ℕ) → n < 16 → IsIntervalWithin (interval_at is n) (interval_at there.0 n) = λ n lt.
          let i = each n lt in
          let z : n ≡ 0 + n = omega arith in
          let one : Some i.0 ≡ Some (interval_at there.0 n) = sym i.1.0 ∙ ap step' z ∙ was'.1 n lt in
          let at : i.0 ≡ interval_at there.0 n = cc in
          subst (IsIntervalWithin (interval_at is n)) at i.1.1 in
          let more = facts_more f f' is there.0 k entry entry' fits le within same d in (
            Some more.0,
            (
              ap (λ (l : Option (List Interval)). following (facts_with f' exit' entry' l)) there.1 ∙ ap following more.1.0,
              subst (λ (y : Option PairFacts). IsKnownWithin y (Some more.0)) kx more.1.1,
            ),
          )
