-- The intervals of written pairs are their hulls.
use Rattle.std.proofs.Common.{◌≡◌, refl, sym, ◌∙◌, ap, subst, ℕ, ◌+◌, ◌*◌, ◌/◌, ◌<◌, ◌≤◌, ◌⊎◌, inl, inr, ⊎_elim, Bool, List, [], ◌∷◌, length, Option, Some, None, slice_set, length-set, arith}
use Rattle.std.specs.Prelude.{⊤, ◌||◌, ◌==◌, true, if◌then◌else◌}
use Rattle.std.proofs.lemmas.Bool.{cases_eq, cases_lt, eq-eqb}
use Rattle.std.proofs.lemmas.List.{get_or_past}
use Rattle.basics.specs.Booleans.{or_with_true}
use Rattle.std.proofs.lemmas.Grind.{elements}
use Rattle.avr_model.specs.declared.instruction.Instr.{Instr}
use Rattle.avr_model.specs.declared.instruction.Instr.TheVariants as i
use Rattle.avr_model.specs.declared.instruction.BinaryOp.{BinaryOp}
use Rattle.avr_model.specs.declared.instruction.BinaryOp.TheVariants as binary
use Rattle.avr_model.specs.declared.instruction.ImmediateOp.{ImmediateOp}
use Rattle.avr_model.specs.declared.instruction.ImmediateOp.TheVariants as immediate
use Rattle.avr_model.specs.declared.instruction.Pointer.{Pointer}
use Rattle.avr_model.specs.declared.instruction.Pointer.TheVariants as pointer
use Rattle.avr_model.specs.Written.{moved_pair, set_by_binary, set_by_immediate, written}
use Rattle.bit_domain.proofs.AllLaws.{ranges_fit}
use Rattle.sp_domain.specs.Tags.{Origin}
use Rattle.pair_domain.specs.declared.intervals.Interval.{Interval}
use Rattle.pair_domain.specs.declared.facts.PairFacts.{PairFacts}
use Rattle.pair_domain.specs.Intervals.{whole, IsIntervalWithin}
use Rattle.pair_domain.specs.Facts.{interval_at, HasSixteen, IsKnownWithin}
use Rattle.pair_domain.specs.Rank.{KnownFits}
use Rattle.pair_domain.proofs.AllLaws.{intervals_are_ordered, known_is_ordered}
use Rattle.abs_state.specs.declared.values.AbsByte.{AbsByte}
use Rattle.abs_state.specs.Stands.{RegistersStand}
use Rattle.abs_state.specs.Laws.{HoldsAt}
use Rattle.abs_state.specs.Values.{value_at}
use Rattle.abs_state.specs.Order.{IsByteWithin}
use Rattle.abs_state.specs.Formed.{ByteFits}
use Rattle.abs_state.specs.Ended.{is_one_of, in_pair, intervals_ended, ended, hull_at, written_hull}
use Rattle.abs_state.proofs.AllLaws.{writes_end_facts, ended_at}
use Rattle.pair_rules.specs.Fits.{HasRegisters}
use Rattle.pair_rules.specs.Hulls.{all_hulled}

-- ---- the registers that are written are there

abbrev pub AreBytesBelow : List ℕ → Type 0
AreBytesBelow [] = ⊤
AreBytesBelow (r ∷ rs) = (r < 34) × AreBytesBelow rs

below : {d : ℕ} → d < 32 → d < 34
below lt = omega (arith, lt)

moved_below : (p : Pointer) → AreBytesBelow (moved_pair p)
moved_below pointer.ZPlus = (omega arith, (omega arith, tt))
moved_below pointer.MinusZ = (omega arith, (omega arith, tt))
moved_below pointer.YPlus = (omega arith, (omega arith, tt))
moved_below pointer.MinusY = (omega arith, (omega arith, tt))
moved_below pointer.X = tt
moved_below pointer.XPlus = (omega arith, (omega arith, tt))
moved_below pointer.MinusX = (omega arith, (omega arith, tt))

binary_below : (op : BinaryOp) (d : ℕ) → d < 32 → AreBytesBelow (set_by_binary op d)
binary_below binary.Cpc d lt = tt
binary_below binary.Sbc d lt = (below lt, tt)
binary_below binary.Add d lt = (below lt, tt)
binary_below binary.Cpse d lt = tt
binary_below binary.Cp d lt = tt
binary_below binary.Sub d lt = (below lt, tt)
binary_below binary.Adc d lt = (below lt, tt)
binary_below binary.And d lt = (below lt, tt)
binary_below binary.Eor d lt = (below lt, tt)
binary_below binary.Or d lt = (below lt, tt)
binary_below binary.Mov d lt = (below lt, tt)
binary_below binary.Mul d lt = (omega arith, (omega arith, tt))

immediate_below : (op : ImmediateOp) (d : ℕ) → d < 32 → AreBytesBelow (set_by_immediate op d)
immediate_below immediate.Cpi d lt = tt
immediate_below immediate.Sbci d lt = (below lt, tt)
immediate_below immediate.Subi d lt = (below lt, tt)
immediate_below immediate.Ori d lt = (below lt, tt)
immediate_below immediate.Andi d lt = (below lt, tt)
immediate_below immediate.Ldi d lt = (below lt, tt)

pair_below : (d : ℕ) → d < 16 → AreBytesBelow (2 * d ∷ (2 * d + 1) ∷ [])
pair_below d lt = (omega (arith, lt), (omega (arith, lt), tt))

product_below : AreBytesBelow (0 ∷ 1 ∷ [])
product_below = (omega arith, (omega arith, tt))

pub written_below : (instr : Instr) → HasRegisters instr → AreBytesBelow (written instr)
written_below (i.Movw d r) fit = pair_below d fit.0
written_below (i.Muls d r) fit = product_below
written_below (i.Mulsu d r) fit = product_below
written_below (i.Fmul d r) fit = product_below
written_below (i.Fmuls d r) fit = product_below
written_below (i.Fmulsu d r) fit = product_below
written_below (i.Binary op d r) fit = binary_below op d fit.0
written_below (i.Immediate op d k) fit = immediate_below op d fit.0
written_below (i.Ldd d b q) fit = (below fit, tt)
written_below (i.Lds d a) fit = (below fit, tt)
written_below (i.Ld d p) fit = (below fit, moved_below p)
written_below (i.LpmZ d) fit = (below fit, tt)
written_below (i.ElpmZ d) fit = (below fit, tt)
written_below (i.LpmZPlus d) fit = (below fit, (omega arith, (omega arith, tt)))
written_below (i.ElpmZPlus d) fit = (below fit, (omega arith, (omega arith, (omega arith, tt))))
written_below (i.Pop d) fit = (below fit, tt)
written_below (i.St p r) fit = moved_below p
written_below (i.Unary op d) fit = (below fit, tt)
written_below i.Lpm fit = (omega arith, tt)
written_below i.Elpm fit = (omega arith, tt)
written_below (i.Adiw d k) fit = pair_below d fit.0
written_below (i.Sbiw d k) fit = pair_below d fit.0
written_below (i.In d a) fit = (below fit, tt)
written_below (i.Bld d b) fit = (below fit, tt)
written_below _ fit = tt

-- ---- all of them

abbrev pub AreWithin : List AbsByte → List AbsByte → Type 0
AreWithin values values' = (r : ℕ) → r < 34 → IsByteWithin (value_at values r) (value_at values' r)

abbrev pub AreValuesFit : List AbsByte → Type 0
AreValuesFit values = (r : ℕ) → r < 34 → ByteFits (value_at values r)

pub all_hold : (o : Origin) (values : List AbsByte) (registers : List ℕ) (sreg : ℕ) (rs : List ℕ) (x : Option PairFacts) → HasSixteen x → RegistersStand o values registers
    → HoldsAt x registers sreg → HoldsAt (all_hulled values rs x) registers sreg
all_hold o values registers sreg [] x count stand h = h
all_hold o values registers sreg (r ∷ rs) x count stand h =
    all_hold o values registers sreg rs (written_hull values r x) (writes_end_facts.hull_count values r x count) stand
    (writes_end_facts.hull_holds o values registers r x sreg count stand h)

pub all_more : (values values' : List AbsByte) (rs : List ℕ) (x y : Option PairFacts) → HasSixteen x → HasSixteen y → AreWithin values values' → IsKnownWithin x y
    → IsKnownWithin (all_hulled values rs x) (all_hulled values' rs y)
all_more values values' [] x y a b within le = le
all_more values values' (r ∷ rs) x y a b within le =
    all_more values values' rs (written_hull values r x) (written_hull values' r y) (writes_end_facts.hull_count values r x a) (writes_end_facts.hull_count values' r y b) within
    (writes_end_facts.hull_more values values' r x y a b (λ k lt. within k (below lt)) le)

pub all_fit : (values : List AbsByte) (rs : List ℕ) (x : Option PairFacts) → AreValuesFit values → KnownFits x → KnownFits (all_hulled values rs x)
all_fit values [] x fit fits = fits
all_fit values (r ∷ rs) x fit fits = all_fit values rs (written_hull values r x) fit (writes_end_facts.hull_fits values r x (λ k lt. fit k (below lt)) fits)

-- ---- where the intervals were ended before

-- the pair's interval is above its hull
abbrev IsAboveHull : List AbsByte → ℕ → Option PairFacts → Type 0
IsAboveHull values n None = ⊤
IsAboveHull values n (Some f) = IsIntervalWithin (hull_at values n) (interval_at f.intervals n)

abbrev AreAbove : List AbsByte → List ℕ → Option PairFacts → Type 0
AreAbove values [] x = ⊤
AreAbove values (r ∷ rs) x = IsAboveHull values (r / 2) x × AreAbove values rs x

set_or_not : (is : List Interval) (n : ℕ) (j : Interval) → (interval_at (slice_set is n j) n ≡ j) ⊎ (interval_at (slice_set is n j) n ≡ interval_at is n)
set_or_not is n j = by (cases_lt n (length is))
  where
    by : (n < length is) ⊎ (length is ≤ n) → (interval_at (slice_set is n j) n ≡ j) ⊎ (interval_at (slice_set is n j) n ≡ interval_at is n)
    by (inl lt) = inl (grind (arith, elements))
    by (inr past) = inr (get_or_past (slice_set is n j) n whole (omega (arith, past, length-set is n j)) ∙ sym (get_or_past is n whole past))

set_elsewhere : (is : List Interval) (k n : ℕ) (j : Interval) → (k ≡ n → ⊥) → interval_at (slice_set is n j) k ≡ interval_at is k
set_elsewhere is k n j ne = grind (arith, elements)

module _ (values : List AbsByte) (f : PairFacts) (n : ℕ) where
  abbrev left : List Interval
  left = slice_set f.intervals n (hull_at values n)

  one_less : IsAboveHull values n (Some f) → (k : ℕ) → (k ≡ n) ⊎ (k ≡ n → ⊥) → IsIntervalWithin (interval_at left k) (interval_at f.intervals k)
  one_less above k (inl e) =
      let P : ℕ → Type 0 = λ m. IsIntervalWithin (interval_at left m) (interval_at f.intervals m) in
      subst P (sym e) (⊎_elim (λ set. subst (λ (j : Interval). IsIntervalWithin j (interval_at f.intervals n)) (sym set) above)
      (λ not. subst (λ (j : Interval). IsIntervalWithin j (interval_at f.intervals n)) (sym not) (intervals_are_ordered.same (interval_at f.intervals n)))
      (set_or_not f.intervals n (hull_at values n)))
  one_less above k (inr ne) =
      subst (λ (j : Interval). IsIntervalWithin j (interval_at f.intervals k)) (sym (set_elsewhere f.intervals k n (hull_at values n) ne)) (intervals_are_ordered.same (interval_at f.intervals k))

  one_above : (k : ℕ) → IsAboveHull values k (Some f) → (k ≡ n) ⊎ (k ≡ n → ⊥) → IsIntervalWithin (hull_at values k) (interval_at left k)
  one_above k above (inl e) =
      let P : ℕ → Type 0 = λ m. IsIntervalWithin (hull_at values m) (interval_at f.intervals m) → IsIntervalWithin (hull_at values m) (interval_at left m) in
      subst P (sym e) (λ old. ⊎_elim (λ set. subst (IsIntervalWithin (hull_at values n)) (sym set) (intervals_are_ordered.same (hull_at values n)))
      (λ not. subst (IsIntervalWithin (hull_at values n)) (sym not) old) (set_or_not f.intervals n (hull_at values n))) above
  one_above k above (inr ne) = subst (IsIntervalWithin (hull_at values k)) (sym (set_elsewhere f.intervals k n (hull_at values n) ne)) above

hulled_less : (values : List AbsByte) (r : ℕ) (x : Option PairFacts) → IsAboveHull values (r / 2) x → IsKnownWithin (written_hull values r x) x
hulled_less values r None above = tt
hulled_less values r (Some f) above =
    let same = known_is_ordered.same (Some f) in
    record {
      intervals = λ k small. one_less values f (r / 2) above k (cases_eq k (r / 2));
      sum = same.sum;
      compare = same.compare;
      zero = same.zero;
    }

above_stays : (values : List AbsByte) (r k : ℕ) (x : Option PairFacts) → IsAboveHull values k x → IsAboveHull values k (written_hull values r x)
above_stays values r k None above = tt
above_stays values r k (Some f) above = one_above values f (r / 2) k above (cases_eq k (r / 2))

all_above : (values : List AbsByte) (q : ℕ) (rs : List ℕ) (x : Option PairFacts) → AreAbove values rs x → AreAbove values rs (written_hull values q x)
all_above values q [] x above = tt
all_above values q (r ∷ rs) x above = (above_stays values q (r / 2) x above.0, all_above values q rs x above.1)

all_less : (values : List AbsByte) (rs : List ℕ) (x : Option PairFacts) → AreAbove values rs x → IsKnownWithin (all_hulled values rs x) x
all_less values [] x above = known_is_ordered.same x
all_less values (r ∷ rs) x above =
    known_is_ordered.through (all_hulled values rs (written_hull values r x)) (written_hull values r x) x
    (all_less values rs (written_hull values r x) (all_above values r rs x above.1)) (hulled_less values r x above.0)

-- a written register belongs to its pair
in_its_pair : (written : ℕ → Bool) (r : ℕ) → written r ≡ true → in_pair written (2 * (r / 2)) ≡ true
in_its_pair written r e = by (cases_eq (2 * (r / 2)) r)
  where
    by : (2 * (r / 2) ≡ r) ⊎ (2 * (r / 2) ≡ r → ⊥) → (written (2 * (r / 2)) || written (2 * (r / 2) + 1)) ≡ true
    by (inl same) = let hit : written (2 * (r / 2)) ≡ true = ap written same ∙ e in ap (λ (b : Bool). b || written (2 * (r / 2) + 1)) hit
    by (inr other) =
        let odd : 2 * (r / 2) + 1 ≡ r = omega arith in
        let hit : written (2 * (r / 2) + 1) ≡ true = ap written odd ∙ e in
        ap (λ (b : Bool). written (2 * (r / 2)) || b) hit ∙ or_with_true (written (2 * (r / 2)))

module _ (values : List AbsByte) (fit : AreValuesFit values) (f : PairFacts) (flags carry : Bool) (written : ℕ → Bool) where
  written_above : (r : ℕ) → r < 34 → written r ≡ true → IsAboveHull values (r / 2) (ended written flags carry (Some f))
  written_above r lt e =
      let whole_there : interval_at (intervals_ended written 0 f.intervals) (r / 2) ≡ whole =
      ended_at written f.intervals (r / 2) ∙ ap (λ (b : Bool). if b then whole else interval_at f.intervals (r / 2)) (in_its_pair written r e) in
      let lo = fit (2 * (r / 2)) (omega (arith, lt)) in
      let hi = fit (2 * (r / 2) + 1) (omega (arith, lt)) in
      subst (IsIntervalWithin (hull_at values (r / 2))) (sym whole_there)
      (intervals_are_ordered.top (hull_at values (r / 2))
      (omega (arith, lo.high, hi.high, ranges_fit.most (value_at values (2 * (r / 2))).bits, ranges_fit.most (value_at values (2 * (r / 2) + 1)).bits)))

  each_above : (rs : List ℕ) → AreBytesBelow rs → ((r : ℕ) → is_one_of rs r ≡ true → written r ≡ true) → AreAbove values rs (ended written flags carry (Some f))
  each_above [] below among = tt
  each_above (r ∷ rs) below among = (
    written_above r below.0 (among r (ap (λ (b : Bool). b || is_one_of rs r) (eq-eqb r r refl))),
    each_above rs below.1 (λ q h. among q (ap (λ (b : Bool). (r == q) || b) h ∙ or_with_true (r == q))),
  )

none_above : (values : List AbsByte) (rs : List ℕ) → AreAbove values rs None
none_above values [] = tt
none_above values (r ∷ rs) = (tt, none_above values rs)

-- the hulls are above what was left
pub hulls_less : (values : List AbsByte) → AreValuesFit values → (rs : List ℕ) (flags carry : Bool) (x : Option PairFacts) → AreBytesBelow rs
    → IsKnownWithin (all_hulled values rs (ended (is_one_of rs) flags carry x)) (ended (is_one_of rs) flags carry x)
hulls_less values fit rs flags carry None below = all_less values rs None (none_above values rs)
hulls_less values fit rs flags carry (Some f) below =
    all_less values rs (ended (is_one_of rs) flags carry (Some f)) (each_above values fit f flags carry (is_one_of rs) rs below (λ r h. h))
