-- In refined states intervals lie in the hulls of their registers.
use Rattle.std.proofs.Common.{◌≡◌, refl, sym, ◌∙◌, ap, subst, ℕ, ◌+◌, ◌*◌, ◌/◌, ◌<◌, ◌==◌, ◌||◌, if◌then◌else◌, ◌⊎◌, inl, inr, Bool, true, false, List, [], ◌∷◌, length, Option, Some, None, slice_set, arith}
use Rattle.std.specs.Prelude.{⊤}
use Rattle.std.proofs.lemmas.Bool.{cases_eq, eq-eqb, ne_eqb, false≢true}
use Rattle.std.proofs.lemmas.Option.{same_Some}
use Rattle.avr_model.specs.declared.instruction.Instr.{Instr}
use Rattle.avr_model.specs.declared.instruction.Instr.TheVariants as i
use Rattle.avr_model.specs.declared.instruction.BinaryOp.{BinaryOp}
use Rattle.avr_model.specs.declared.instruction.BinaryOp.TheVariants as binary
use Rattle.avr_model.specs.Written.{set_by_binary, written}
use Rattle.avr_model.specs.Devices.{Image}
use Rattle.avr_model.specs.State.{RAMPZ}
use Rattle.pair_domain.specs.declared.intervals.Interval.{Interval}
use Rattle.pair_domain.specs.declared.facts.PairFacts.{PairFacts}
use Rattle.pair_domain.specs.Intervals.{whole, IsIntervalWithin, interval_meet, hull}
use Rattle.pair_domain.specs.Facts.{interval_at, HasSixteen}
use Rattle.pair_domain.specs.PairSets.{PairSet, narrow_pair}
use Rattle.pair_domain.specs.Marks.{outward}
use Rattle.pair_domain.proofs.AllLaws.{intervals_are_ordered, intervals_meet}
use Rattle.abs_state.specs.declared.values.AbsByte.{AbsByte}
use Rattle.abs_state.specs.declared.state.AbsState.{AbsState}
use Rattle.abs_state.specs.Values.{value_at, set_of}
use Rattle.abs_state.specs.Formed.{IsWhole, IsFormed}
use Rattle.abs_state.specs.Cuts.{pair_of, pair_set, cut_known}
use Rattle.abs_state.specs.Ended.{is_one_of, in_pair, intervals_ended, hull_at, written_hull}
use Rattle.abs_state.specs.Hulls.{AreInHulls, IsInHulls}
use Rattle.abs_state.proofs.AllLaws.{writes_end_facts, ended_at, joins_are_formed}
use Rattle.pair_rules.specs.declared.told.Told.{Told}
use Rattle.pair_rules.specs.declared.told.Told.TheVariants as told
use Rattle.pair_rules.specs.Hulls.{ended_by, all_hulled}
use Rattle.pair_rules.specs.Flash.{few_in_flash, flash_joined}
use Rattle.pair_rules.specs.Tags.{tagged}
use Rattle.pair_rules.specs.Values.{with_value, doubled_by, with_joined, flash_read, rampz_of, extended_read, retold}
use Rattle.pair_rules.specs.Refined.{meet_pair, cut_told}
use Rattle.pair_laws.proofs.Bytes.{pair_ends}
use Rattle.pair_laws.proofs.Steps.{value_other, interval_there, interval_other, low_there, high_there, rest_there, with_was, pair_state, others_in, state_hulls}
use Rattle.pair_laws.proofs.CutTold.{meet_was}
use Rattle.pair_laws.proofs.Tellings.{ToldFits}

-- ---- one pair

-- the interval of pair 2 k lies in its hull
abbrev pub PairIn : List AbsByte → Option PairFacts → ℕ → Type 0
PairIn registers None k = ⊤
PairIn registers (Some f) k = IsIntervalWithin (interval_at f.intervals k) (hull_at registers k)

pub all_of_pairs : (registers : List AbsByte) (x : Option PairFacts) → ((k : ℕ) → k < 16 → PairIn registers x k) → AreInHulls registers x
all_of_pairs registers None h = tt
all_of_pairs registers (Some f) h = h

same_hull : (vs ws : List AbsByte) (k : ℕ) → set_of (value_at ws (2 * k)) ≡ set_of (value_at vs (2 * k)) → set_of (value_at ws (2 * k + 1)) ≡ set_of (value_at vs (2 * k + 1))
    → hull_at vs k ≡ hull_at ws k
same_hull vs ws k low high = ap (λ p. hull p (set_of (value_at vs (2 * k + 1)))) (sym low) ∙ ap (hull (set_of (value_at ws (2 * k)))) (sym high)

pub pair_same : (vs ws : List AbsByte) (x : Option PairFacts) (k : ℕ) → set_of (value_at ws (2 * k)) ≡ set_of (value_at vs (2 * k))
    → set_of (value_at ws (2 * k + 1)) ≡ set_of (value_at vs (2 * k + 1)) → PairIn vs x k → PairIn ws x k
pair_same vs ws None k low high h = tt
pair_same vs ws (Some f) k low high h = subst (IsIntervalWithin (interval_at f.intervals k)) (same_hull vs ws k low high) h

pub neither : (written : ℕ → Bool) (r : ℕ) → in_pair written r ≡ false → (written r ≡ false) × (written (r + 1) ≡ false)
neither written r e = by (written r) (written (r + 1)) e
  where
    by : (a b : Bool) → (a || b) ≡ false → (a ≡ false) × (b ≡ false)
    by true b is = absurd (cc)
    by false b is = (refl, is)

-- ---- pairs of which no register is written

pub pair_ended : (registers : List AbsByte) (instr : Instr) (x : Option PairFacts) (k : ℕ) → k < 16 → in_pair (is_one_of (written instr)) (2 * k) ≡ false
    → AreInHulls registers x → PairIn registers (ended_by instr x) k
pair_ended registers instr None k small kept h = tt
pair_ended registers instr (Some f) k small kept h =
    let there : interval_at (intervals_ended (is_one_of (written instr)) 0 f.intervals) k ≡ interval_at f.intervals k =
    ended_at (is_one_of (written instr)) f.intervals k ∙ ap (λ (b : Bool). if b then whole else interval_at f.intervals k) kept in
    subst (λ (j : Interval). IsIntervalWithin j (hull_at registers k)) (sym there) (h k small)

-- values of written registers are refined
set_kept : (t : AbsState) (d : ℕ) (v : AbsByte) (rs : List ℕ) (r : ℕ) → is_one_of (d ∷ rs) r ≡ false → value_at (with_value t d v).registers r ≡ value_at t.registers r
set_kept t d v rs r kept =
    value_other t.registers d r v (λ same. let hit : is_one_of (d ∷ rs) r ≡ true = ap (λ (b : Bool). b || is_one_of rs r) (eq-eqb d r (sym same)) in false≢true (sym kept ∙ hit))

module _ (s t a : AbsState) (r : ℕ) where
  abbrev IsKept : AbsState → Type 0
  IsKept b = value_at b.registers r ≡ value_at t.registers r

  by_kept : (op : BinaryOp) (d : ℕ) → is_one_of (set_by_binary op d) r ≡ false → IsKept (doubled_by s op d t)
  by_kept binary.Cpc d kept = refl
  by_kept binary.Sbc d kept = refl
  by_kept binary.Add d kept = set_kept t d _ [] r kept
  by_kept binary.Cpse d kept = refl
  by_kept binary.Cp d kept = refl
  by_kept binary.Sub d kept = refl
  by_kept binary.Adc d kept = set_kept t d _ [] r kept
  by_kept binary.And d kept = refl
  by_kept binary.Eor d kept = refl
  by_kept binary.Or d kept = refl
  by_kept binary.Mov d kept = refl
  by_kept binary.Mul d kept = refl

  binary_kept : (op : BinaryOp) (d q : ℕ) → is_one_of (set_by_binary op d) r ≡ false → Some (if d == q then doubled_by s op d t else t) ≡ Some a → IsKept a
  binary_kept op d q kept e = by (d == q) (same_Some (if d == q then doubled_by s op d t else t) a e)
    where
      by : (b : Bool) → (if b then doubled_by s op d t else t) ≡ a → IsKept a
      by true is = subst IsKept is (by_kept op d kept)
      by false is = subst IsKept is refl

  joined_kept : (d : ℕ) (rs : List ℕ) (o : Option AbsByte) → is_one_of (d ∷ rs) r ≡ false → with_joined t d o ≡ Some a → IsKept a
  joined_kept d rs None kept e = absurd (cc)
  joined_kept d rs (Some v) kept e = subst IsKept (same_Some (with_value t d v) a e) (set_kept t d v rs r kept)

  flash_kept : (image : Image) (from d : ℕ) (permits : ℕ → Bool) (rs : List ℕ) → is_one_of (d ∷ rs) r ≡ false → flash_read image from t d permits ≡ Some a → IsKept a
  flash_kept image from d permits rs kept e = by (few_in_flash image from permits) e
    where
      by : (few : Bool) → (if few then with_joined t d (flash_joined image from permits) else Some t) ≡ Some a → IsKept a
      by true is = joined_kept d rs (flash_joined image from permits) kept is
      by false is = subst IsKept (same_Some t a is) refl

  extended_kept : (image : Image) (bank : Option ℕ) (d : ℕ) (permits : ℕ → Bool) (rs : List ℕ) → is_one_of (d ∷ rs) r ≡ false → extended_read image bank t d permits ≡ Some a → IsKept a
  extended_kept image None d permits rs kept e = subst IsKept (same_Some t a e) refl
  extended_kept image (Some b) d permits rs kept e = flash_kept image (65536 * b) d permits rs kept e

  pub retold_kept : (image : Image) (f : PairFacts) (instr : Instr) → retold image s f instr t ≡ Some a → is_one_of (written instr) r ≡ false → IsKept a
  retold_kept image f (i.Binary op d q) e kept = binary_kept op d q kept e
  retold_kept image f (i.LpmZ d) e kept = flash_kept image 0 d _ [] kept e
  retold_kept image f (i.LpmZPlus d) e kept = flash_kept image 0 d _ (30 ∷ 31 ∷ []) kept e
  retold_kept image f i.Lpm e kept = flash_kept image 0 0 _ [] kept e
  retold_kept image f (i.ElpmZ d) e kept = extended_kept image (rampz_of s) d _ [] kept e
  retold_kept image f (i.ElpmZPlus d) e kept = extended_kept image (rampz_of s) d _ (30 ∷ 31 ∷ RAMPZ ∷ []) kept e
  retold_kept image f i.Elpm e kept = extended_kept image (rampz_of s) 0 _ [] kept e
  retold_kept image f _ e kept = subst IsKept (same_Some t a e) refl

-- ---- pairs that have their hulls

-- pair 2 k is in its hull, or among the remaining ones
abbrev InOrLeft : List AbsByte → List ℕ → Option PairFacts → ℕ → Type 0
InOrLeft vs rs x k = PairIn vs x k ⊎ (in_pair (is_one_of rs) (2 * k) ≡ true)

one_hulled : (vs : List AbsByte) (r : ℕ) (rs : List ℕ) (x : Option PairFacts) (k : ℕ) → k < 16 → HasSixteen x → InOrLeft vs (r ∷ rs) x k → (k ≡ r / 2) ⊎ (k ≡ r / 2 → ⊥)
    → InOrLeft vs rs (written_hull vs r x) k
one_hulled vs r rs None k small count was at = inl tt
one_hulled vs r rs (Some f) k small count was (inl same) =
    let P : ℕ → Type 0 = λ n. IsIntervalWithin (interval_at (slice_set f.intervals (r / 2) (hull_at vs (r / 2))) n) (hull_at vs n) in
    inl (subst P (sym same)
    (subst (λ (j : Interval). IsIntervalWithin j (hull_at vs (r / 2))) (sym (interval_there f.intervals (r / 2) (hull_at vs (r / 2)) (omega (arith, small, same, count))))
    (intervals_are_ordered.same (hull_at vs (r / 2)))))
one_hulled vs r rs (Some f) k small count (inl h) (inr ne) =
    inl (subst (λ (j : Interval). IsIntervalWithin j (hull_at vs k)) (sym (interval_other f.intervals (r / 2) k (hull_at vs (r / 2)) ne)) h)
one_hulled vs r rs (Some f) k small count (inr left) (inr ne) =
    let low : (r == 2 * k) ≡ false = ne_eqb r (2 * k) (λ e. ne (omega (arith, e))) in
    let high : (r == 2 * k + 1) ≡ false = ne_eqb r (2 * k + 1) (λ e. ne (omega (arith, e))) in
    inr (ap (λ (b : Bool). (b || is_one_of rs (2 * k)) || is_one_of rs (2 * k + 1)) (sym low)
    ∙ (ap (λ (b : Bool). ((r == 2 * k) || is_one_of rs (2 * k)) || (b || is_one_of rs (2 * k + 1))) (sym high) ∙ left))

pub pair_hulled : (vs : List AbsByte) (rs : List ℕ) (x : Option PairFacts) (k : ℕ) → k < 16 → HasSixteen x → InOrLeft vs rs x k → PairIn vs (all_hulled vs rs x) k
pair_hulled vs [] x k small count (inl h) = h
pair_hulled vs [] x k small count (inr left) = absurd (false≢true left)
pair_hulled vs (r ∷ rs) x k small count was =
    pair_hulled vs rs (written_hull vs r x) k small (writes_end_facts.hull_count vs r x count) (one_hulled vs r rs x k small count was (cases_eq k (r / 2)))

-- ---- what is told

-- an interval that is cut alone
module _ (v : AbsState) (n : ℕ) (whole_state : IsWhole v) (lt : n < 16) (f : PairFacts) (count : length f.intervals ≡ 16)
    (h : (k : ℕ) → k < 16 → IsIntervalWithin (interval_at f.intervals k) (hull_at v.registers k)) (j : Interval) (within : IsIntervalWithin j (interval_at f.intervals n)) where
  abbrev cut_pair : PairSet
  cut_pair = record (pair_of v.registers f.intervals n) { interval = j }

  abbrev new : List AbsByte
  new = pair_set v.registers n cut_pair

  met_at : (k : ℕ) → k < 16 → (k ≡ n) ⊎ (k ≡ n → ⊥) → IsIntervalWithin (interval_at (slice_set f.intervals n j) k) (hull_at new k)
  met_at k small (inl same) =
      let P : ℕ → Type 0 = λ m. IsIntervalWithin (interval_at (slice_set f.intervals n j) m) (hull_at new m) in
      let hulls =
      same_hull v.registers new n (ap set_of (low_there v.registers n cut_pair whole_state.registers lt)) (ap set_of (high_there v.registers n cut_pair whole_state.registers lt)) in
      subst P (sym same)
      (subst (λ (m : Interval). IsIntervalWithin m (hull_at new n)) (sym (interval_there f.intervals n j (omega (arith, lt, count))))
      (subst (IsIntervalWithin j) hulls (intervals_are_ordered.through j (interval_at f.intervals n) (hull_at v.registers n) within (h n lt))))
  met_at k small (inr ne) =
      let hulls =
      same_hull v.registers new k (ap set_of (rest_there v.registers n cut_pair whole_state.registers lt (2 * k) (omega (arith, ne)) (omega arith)))
      (ap set_of (rest_there v.registers n cut_pair whole_state.registers lt (2 * k + 1) (omega arith) (omega (arith, ne)))) in
      subst (λ (m : Interval). IsIntervalWithin m (hull_at new k)) (sym (interval_other f.intervals n k j ne)) (subst (IsIntervalWithin (interval_at f.intervals k)) hulls (h k small))

  met_hulls : IsInHulls (pair_state v f n cut_pair)
  met_hulls = λ k small. met_at k small (cases_eq k n)

meet_known : (v u : AbsState) (n : ℕ) (j : Interval) → IsWhole v → n < 16 → (x : Option PairFacts) → v.facts ≡ x → HasSixteen x
    → cut_known (λ p. meet_pair p j) v n x ≡ Some u → AreInHulls v.registers x → IsInHulls u
meet_known v u n j whole_state lt None is count e h =
    let P : Option PairFacts → Type 0 = λ x. AreInHulls v.registers x in
    subst IsInHulls (same_Some v u e) (subst P (sym is) tt)
meet_known v u n j whole_state lt (Some f) is count e h =
    let p : PairSet = pair_of v.registers f.intervals n in
    let was = with_was v u f n (meet_pair p j) e in
    let met = meet_was p was.0 (interval_meet p.interval j) was.1.0 in
    let within = (intervals_meet.under p.interval j met.0 met.1.0).0 in
    subst IsInHulls was.1.1 (subst (λ (q : PairSet). IsInHulls (pair_state v f n q)) met.1.1 (met_hulls v n whole_state lt f count h met.0 within))

pub cut_hulls : (marks : List ℕ) (t : Told) (v u : AbsState) (offset : ℕ) → ToldFits t → IsFormed v offset → IsInHulls v → cut_told marks t v ≡ Some u → IsInHulls u
cut_hulls marks told.Nothing v u offset fits formed h e = subst IsInHulls (same_Some v u e) h
cut_hulls marks (told.Kept n j) v u offset fits formed h e =
    let whole_state = joins_are_formed.whole v offset formed in meet_known v u n j whole_state fits v.facts refl whole_state.pairs e h
cut_hulls marks (told.Computed n j) v u offset fits formed h e =
    state_hulls n fits.0 (λ p. narrow_pair p (outward marks j)) (pair_ends (outward marks j)) v u offset formed (others_in n v.registers v.facts h) e

-- ---- tags

pub tags_in_hulls : (vs ws : List AbsByte) (f : PairFacts) (instr : Instr) (x : Option PairFacts) → AreInHulls ws x → AreInHulls ws (tagged vs f instr x)
tags_in_hulls vs ws f instr None h = tt
tags_in_hulls vs ws f instr (Some g) h = h
