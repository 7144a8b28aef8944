-- Successors follow pairs if the node does, and their intervals lie in the hulls of their registers.
use Rattle.std.proofs.Common.{◌≡◌, ◌≢◌, refl, sym, subst, subst₂, ap, ap₂, ◌∙◌, ℕ, ◌+◌, ◌*◌, ◌/◌, ◌<◌, ◌==◌, Bool, true, false, List, [], ◌∷◌, length, Option, Some, None, if◌then◌else◌, slice_set, ◌⊎◌, inl, inr, ⊎_elim, ◌≤◌, length-set, arith, nat_lt}
use Rattle.std.specs.Prelude.{◌||◌}
use Rattle.std.proofs.lemmas.List.{get_or_past}
use Rattle.std.proofs.lemmas.Bool.{cases_eq, cases_lt, ne_eqb}
use Rattle.std.proofs.lemmas.Grind.{elements}
use Rattle.avr_model.specs.Devices.{has_sph}
use Rattle.avr_model.specs.declared.device.Device.{Device}
use Rattle.avr_model.specs.State.{RAMPZ, EIND, REGISTERS, has_register}
use Rattle.avr_model.specs.Written.{written}
use Rattle.bit_domain.specs.declared.bits.Tri.{Tri}
use Rattle.bit_domain.specs.declared.bits.Tri.TheVariants.{Zero, One, Any}
use Rattle.sp_domain.specs.declared.tags.Tag.{Tag}
use Rattle.sp_domain.specs.declared.tags.Tag.TheVariants as tag
use Rattle.sp_domain.specs.Tags.{is_same_tag}
use Rattle.sp_domain.specs.declared.tags.CarryTag.{CarryTag}
use Rattle.sp_domain.specs.declared.tags.CarryTag.TheVariants as carry
use Rattle.pair_domain.specs.declared.facts.PairFacts.{PairFacts}
use Rattle.pair_domain.specs.declared.intervals.Interval.{Interval}
use Rattle.pair_domain.specs.Intervals.{whole, hull, IsIntervalWithin}
use Rattle.pair_domain.specs.Facts.{HasSixteen, interval_at, is_followed}
use Rattle.pair_domain.proofs.AllLaws.{intervals_are_ordered}
use Rattle.abs_state.specs.declared.values.AbsByte.{AbsByte}
use Rattle.abs_state.specs.declared.values.AbsFlags.{AbsFlags}
use Rattle.abs_state.specs.declared.state.AbsState.{AbsState}
use Rattle.abs_state.specs.Values.{value_at, set_of, unknown, with_bits}
use Rattle.abs_state.specs.Ended.{is_one_of, in_pair, intervals_ended, ended, hull_at, written_hull}
use Rattle.abs_state.specs.Banks.{is_tag_of, absent, IsBankIn, IsStateOf}
use Rattle.abs_state.specs.Hulls.{AreInHulls, IsInHulls}
use Rattle.abs_state.proofs.AllLaws.{writes_end_facts, ended_at}
use Rattle.node_keys.specs.declared.keys.NodeKey.{NodeKey}
use Rattle.local_rules.specs.Raw.{Raw, nowhere, all_of, off_table}
use Rattle.local_rules.specs.Registers.{value, carry_bit, forgetting}
use Rattle.local_rules.specs.Banks.{own_tag, bank_value, stored_value}
use Rattle.local_rules.specs.Flow.{branch, part_of, with_value, where_carry, going_where, carry_branch, flag_branch}
use Rattle.local_rules.specs.Writes.{written_at, pointer_write, put_register, put_flags}
use Rattle.local_laws.proofs.EachState.{AllOf, each_none, each_both, each_branch, each_where}
use Rattle.local_laws.proofs.EachStore.{HasBehind, written_each, pointer_each}
use Rattle.local_laws.proofs.MonotoneValues.{set_same, set_other}
use Rattle.local_laws.proofs.SettledNodes.{IsLow}
use Rattle.local_rules.specs.Site.{Task}
use Rattle.local_rules.specs.Writes.{write_at}

-- it follows pairs as `followed` says, and its intervals lie in their hulls
pub record IsModeKept (followed : Bool) (t : AbsState) : Type 0 where
  pub mode : is_followed t.facts ≡ followed
  pub hulls : IsInHulls t

-- without facts nothing is claimed
pub none_kept : (t : AbsState) → t.facts ≡ None → IsModeKept false t
none_kept t e = record { mode = ap is_followed e; hulls = subst (AreInHulls t.registers) (sym e) tt }

-- ---- writes

ended_in : (written : ℕ → Bool) (flags carry : Bool) (registers : List AbsByte) → ((n : ℕ) → in_pair written n ≡ false) → (x : Option PairFacts) → AreInHulls registers x
    → AreInHulls registers (ended written flags carry x)
ended_in written flags carry registers none None h = tt
ended_in written flags carry registers none (Some f) h = λ n lt.
    subst (λ (j : Interval). IsIntervalWithin j (hull_at registers n))
    (sym (ended_at written f.intervals n ∙ ap (λ (b : Bool). if b then whole else interval_at f.intervals n) (none (2 * n)))) (h n lt)

module _ (followed : Bool) where
  pub forgetting_kept : (flags carry : Bool) (s : AbsState) → IsModeKept followed s → IsModeKept followed (forgetting [] flags carry s)
  forgetting_kept flags carry s h =
      record {
        mode = writes_end_facts.followed (is_one_of []) flags carry s.facts ∙ h.mode;
        hulls = ended_in (is_one_of []) flags carry s.registers (λ n. refl) s.facts h.hulls;
      }

  flags_kept : (s : AbsState) (f : AbsFlags) → IsModeKept followed s → IsModeKept followed (put_flags s f)
  flags_kept s f h =
      record {
        mode = writes_end_facts.followed (λ r. false) true true s.facts ∙ h.mode;
        hulls = ended_in (λ r. false) true true s.registers (λ n. refl) s.facts h.hulls;
      }

  not_there : (a n : ℕ) → n ≢ a / 2 → in_pair (is_one_of (a ∷ [])) (2 * n) ≡ false
  not_there a n ne =
      let low : (a == 2 * n) ≡ false = ne_eqb a (2 * n) (λ e. ne (omega arith)) in
      let high : (a == 2 * n + 1) ≡ false = ne_eqb a (2 * n + 1) (λ e. ne (omega arith)) in
      ap₂ (λ x y. (x || false) || (y || false)) low high

  written_in : (registers : List AbsByte) (a : ℕ) (w : AbsByte) → (x : Option PairFacts) → HasSixteen x → AreInHulls registers x
      → AreInHulls (slice_set registers a w) (written_hull (slice_set registers a w) a (ended (is_one_of (a ∷ [])) false false x))
  written_in registers a w None sixteen h = tt
  written_in registers a w (Some f) sixteen h = λ n lt. by n lt (cases_eq n (a / 2))
    where
      new : List AbsByte
      new = slice_set registers a w

      left : List Interval
      left = intervals_ended (is_one_of (a ∷ [])) 0 f.intervals

      count : length left ≡ 16
      count = writes_end_facts.count (is_one_of (a ∷ [])) false false (Some f) sixteen

      there : a / 2 < 16 → interval_at (slice_set left (a / 2) (hull_at new (a / 2))) (a / 2) ≡ hull_at new (a / 2)
      there low = let inside : a / 2 < length left = omega (arith, low, count) in grind (arith, elements)

      elsewhere : (n : ℕ) → n ≢ a / 2 → interval_at (slice_set left (a / 2) (hull_at new (a / 2))) n ≡ interval_at left n
      elsewhere n ne = grind (arith, elements)

      by : (n : ℕ) → n < 16 → (n ≡ a / 2) ⊎ (n ≡ a / 2 → ⊥) → IsIntervalWithin (interval_at (slice_set left (a / 2) (hull_at new (a / 2))) n) (hull_at new n)
      by n lt (inl e) =
          let P : ℕ → Type 0 = λ k. IsIntervalWithin (interval_at (slice_set left (a / 2) (hull_at new (a / 2))) k) (hull_at new k) in
          subst P (sym e) (subst (λ (j : Interval). IsIntervalWithin j (hull_at new (a / 2))) (sym (there (omega (arith, lt, e)))) (intervals_are_ordered.same (hull_at new (a / 2))))
      by n lt (inr ne) =
          let was : interval_at left n ≡ interval_at f.intervals n =
          ended_at (is_one_of (a ∷ [])) f.intervals n ∙ ap (λ (b : Bool). if b then whole else interval_at f.intervals n) (not_there a n ne) in
          let lo : value_at new (2 * n) ≡ value_at registers (2 * n) = set_other registers a (2 * n) w (λ e. ne (omega arith)) in
          let hi : value_at new (2 * n + 1) ≡ value_at registers (2 * n + 1) = set_other registers a (2 * n + 1) w (λ e. ne (omega arith)) in
          let same : hull_at registers n ≡ hull_at new n =
          ap₂ (λ (v u : AbsByte). hull (set_of v) (set_of u)) (sym lo) (sym hi) in
          subst₂ IsIntervalWithin (sym (elsewhere n ne ∙ was)) same (h n lt)

  register_kept : (s : AbsState) (a : ℕ) (v : AbsByte) → HasSixteen s.facts → IsModeKept followed s → IsModeKept followed (put_register s a v)
  register_kept s a v sixteen h =
      record {
        mode =
            writes_end_facts.hull_followed (slice_set s.registers a v) a (ended (is_one_of (a ∷ [])) false false s.facts)
            ∙ writes_end_facts.followed (is_one_of (a ∷ [])) false false s.facts
            ∙ h.mode;
        hulls = written_in s.registers a v s.facts sixteen h.hulls;
      }

  -- ---- moves

  abbrev pub AllKept : Raw → Type 0
  AllKept r = AllOf (IsModeKept followed) r

  pub kept_none : AllKept nowhere
  kept_none = each_none (IsModeKept followed)

  pub kept_if : (b : Bool) (p q : Raw) → (b ≡ true → AllKept p) → (b ≡ false → AllKept q) → AllKept (if b then p else q)
  kept_if true p q h g = h refl
  kept_if false p q h g = g refl

  pub kept_both : (p q : Raw) → AllKept p → AllKept q → AllKept (all_of (p ∷ q ∷ []))
  kept_both = each_both (IsModeKept followed)

  pub kept_branch : (t : Tri) (k : NodeKey) (s : AbsState) (taken other : ℕ) → IsModeKept followed s → AllKept (branch t k s taken other)
  kept_branch t k s taken other h = each_branch (IsModeKept followed) t (off_table k taken) (off_table k other) s h

  pub kept_where : (k : NodeKey) (x : Option AbsState) (pc : ℕ) → ((u : AbsState) → x ≡ Some u → IsModeKept followed u) → AllKept (going_where k x pc)
  kept_where = each_where (IsModeKept followed)

-- ---- stores

module _ (followed : Bool) where
  pub kept_behind : (device : Device) (s : AbsState) (v : AbsByte) → HasSixteen s.facts → IsModeKept followed s → HasBehind (IsModeKept followed) device s v
  kept_behind device s v sixteen h =
      record {
        same = h;
        flags = λ f. flags_kept followed s f h;
        slots = λ n. record { mode = h.mode; hulls = h.hulls };
        register = λ a r e. register_kept followed s r (stored_value device r v) sixteen h;
      }

  pub kept_written : (device : Device) (pc : ℕ) (k : NodeKey) (s : AbsState) (is_out : Bool) (a : ℕ) (v : AbsByte) → HasSixteen s.facts → IsModeKept followed s
      → AllKept followed (written_at (write_at device pc k s v) is_out a)
  kept_written device pc k s is_out a v sixteen h = written_each (IsModeKept followed) device s v (kept_behind device s v sixteen h) pc k is_out a

  pub kept_pointer : (device : Device) (task : Task) (was : AbsState) (r up : ℕ) (pc : ℕ) (k : NodeKey) (s : AbsState) (v : AbsByte)
      → HasSixteen s.facts → IsModeKept followed s → AllKept followed (pointer_write task was r up (write_at device pc k s v))
  kept_pointer device task was r up pc k s v sixteen h = pointer_each (IsModeKept followed) device s v (kept_behind device s v sixteen h) task was r up pc k

-- ---- tags of high bytes

-- no register has the tag of a high byte
abbrev pub AreLow : AbsState → Type 0
AreLow s = (r : ℕ) → IsLow (value_at s.registers r).tag

low_own : (r : ℕ) (t : Tag) → IsLow t → IsLow (own_tag r t)
low_own r t low = by (is_same_tag t (tag.Entry r))
  where
    by : (same : Bool) → IsLow (if same then t else tag.None)
    by true = low
    by false = tt

low_stored : (device : Device) (r : ℕ) (v : AbsByte) → IsLow v.tag → IsLow (stored_value device r v).tag
low_stored device r v low = by (nat_lt r 32)
  where
    by : (b : Bool) → IsLow (if b then with_bits v.tag v.bits else bank_value device r v).tag
    by true = low
    by false = low_own r v.tag low

low_set : (registers : List AbsByte) (a : ℕ) (v : AbsByte) → IsLow v.tag → ((r : ℕ) → IsLow (value_at registers r).tag) → (r : ℕ) → IsLow (value_at (slice_set registers a v) r).tag
low_set registers a v low all r = by (cases_eq r a) (cases_lt a (length registers))
  where
    by : (r ≡ a) ⊎ (r ≡ a → ⊥) → (a < length registers) ⊎ (length registers ≤ a) → IsLow (value_at (slice_set registers a v) r).tag
    by (inr other) _ = subst (λ (w : AbsByte). IsLow w.tag) (sym (set_other registers a r v other)) (all r)
    by (inl same) (inl inside) = subst (λ (w : AbsByte). IsLow w.tag) (sym (set_same registers a r v same inside)) low
    by (inl same) (inr over) =
        subst (λ (w : AbsByte). IsLow w.tag) (sym (get_or_past (slice_set registers a v) r unknown (omega (arith, length-set registers a v, over, same)))) tt

-- without SPH a state of the device is such
pub low_of : (device : Device) (is_root : Bool) (s : AbsState) → length s.registers ≡ REGISTERS → has_sph device ≡ false → IsStateOf device is_root s → AreLow s
low_of device is_root s count none h r = by (cases_lt r 32) (cases_eq r 32) (cases_eq r 33)
  where
    tag_low : (t : Tag) → is_tag_of device t ≡ true → IsLow t
    tag_low tag.None is = tt
    tag_low (tag.Entry r) is = tt
    tag_low tag.EntryFlags is = tt
    tag_low (tag.SpLo j) is = tt
    tag_low (tag.SpHi k) is = let no : true ≡ false = sym is ∙ none in absurd (cc)

    absent_low : (b : Bool) (r : ℕ) → IsLow (absent b r).tag
    absent_low true r = tt
    absent_low false r = tt

    bank_low : (r : ℕ) (v : AbsByte) → IsBankIn (is_tag_of device) device is_root r v → IsLow v.tag
    bank_low r v bank = has (has_register device r) refl
      where
        has : (b : Bool) → has_register device r ≡ b → IsLow v.tag
        has true e = tag_low v.tag (bank.tag e)
        has false e = subst (λ (w : AbsByte). IsLow w.tag) (sym (bank.lacking e)) (absent_low is_root r)

    beyond : length s.registers ≡ 34 → 32 ≤ r → r ≢ 32 → r ≢ 33 → length s.registers ≤ r
    beyond count over ne ne' = ⊎_elim (λ lt. absurd (⊎_elim (λ lt'. ne (omega (arith, lt', over))) (λ over'. ne' (omega (arith, lt, over'))) (cases_lt r 33))) (λ over'. omega (arith, over', count)) (cases_lt r 34)

    by : (r < 32) ⊎ (32 ≤ r) → (r ≡ 32) ⊎ (r ≡ 32 → ⊥) → (r ≡ 33) ⊎ (r ≡ 33 → ⊥) → IsLow (value_at s.registers r).tag
    by (inl lt) _ _ = tag_low (value_at s.registers r).tag (h.registers r lt)
    by (inr over) (inl is) _ = subst (λ (n : ℕ). IsLow (value_at s.registers n).tag) (sym is) (bank_low RAMPZ (value_at s.registers RAMPZ) h.rampz)
    by (inr over) (inr other) (inl is) = subst (λ (n : ℕ). IsLow (value_at s.registers n).tag) (sym is) (bank_low EIND (value_at s.registers EIND) h.eind)
    by (inr over) (inr other) (inr another) =
        let ne : r ≢ 32 = other in
        let ne' : r ≢ 33 = another in
        subst (λ (w : AbsByte). IsLow w.tag) (sym (get_or_past s.registers r unknown (beyond count over ne ne'))) tt

pub low_behind : (device : Device) (s : AbsState) (v : AbsByte) → IsLow v.tag → AreLow s → HasBehind AreLow device s v
low_behind device s v low all =
    record { same = all; flags = λ f. all; slots = λ n. all; register = λ a r e. low_set s.registers r (stored_value device r v) (low_stored device r v low) all }

-- ---- branches on C, where pairs aren't followed

value_none : (s : AbsState) (r : ℕ) (x : Option AbsByte) (u : AbsState) → s.facts ≡ None → with_value s r x ≡ Some u → u.facts ≡ None
value_none s r None u e is = absurd (cc)
value_none s r (Some v) u e is = let same : record s { registers = slice_set s.registers r v } ≡ u = cc in subst (λ (t : AbsState). t.facts ≡ None) same e

carry_none : (c : CarryTag) (s u : AbsState) (on : Bool) → s.facts ≡ None → where_carry c s on ≡ Some u → u.facts ≡ None
carry_none carry.None s u on e is = let same : s ≡ u = cc in subst (λ (t : AbsState). t.facts ≡ None) same e
carry_none (carry.Borrow j l) s u on e is = let same : s ≡ u = cc in subst (λ (t : AbsState). t.facts ≡ None) same e
carry_none (carry.Sum j l) s u on e is = let same : s ≡ u = cc in subst (λ (t : AbsState). t.facts ≡ None) same e
carry_none (carry.Less r n) s u on e is = value_none s r (part_of on (value s r) n) u e is

where_none : (k : NodeKey) (s : AbsState) (on : Bool) (pc : ℕ) → s.facts ≡ None → AllKept false (going_where k (where_carry s.flags.carry s on) pc)
where_none k s on pc e = kept_where false k (where_carry s.flags.carry s on) pc (λ u is. none_kept u (carry_none s.flags.carry s u on e is))

carry_branch_none : (t : Tri) (k : NodeKey) (s : AbsState) (set clear : ℕ) → s.facts ≡ None → AllKept false (carry_branch t k s set clear)
carry_branch_none One k s set clear e = where_none k s true set e
carry_branch_none Zero k s set clear e = where_none k s false clear e
carry_branch_none Any k s set clear e = kept_both false (going_where k (where_carry s.flags.carry s false) clear) (going_where k (where_carry s.flags.carry s true) set) (where_none k s false clear e) (where_none k s true set e)

pub flag_branch_none : (n : ℕ) (k : NodeKey) (s : AbsState) (set clear : ℕ) (t : Tri) (taken other : ℕ) → s.facts ≡ None → AllKept false (flag_branch n (record { key = k; state = s }) set clear (branch t k s taken other))
flag_branch_none n k s set clear t taken other e =
    kept_if false (n == 0) _ _ (λ is. carry_branch_none (carry_bit s) k s set clear e) (λ is. kept_branch false t k s taken other (none_kept s e))
