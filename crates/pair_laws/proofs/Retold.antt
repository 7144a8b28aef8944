-- Refined values.
use Rattle.std.proofs.Common.{◌≡◌, refl, sym, ◌∙◌, ap, subst, subst₂, ℕ, ◌+◌, ◌*◌, ◌/◌, ◌%◌, ◌<◌, ◌==◌, if◌then◌else◌, ◌⊎◌, inl, inr, ⊎_elim, zero, suc, ◌≤◌, Bool, true, false, List, length, Option, Some, None, slice_index, slice_set, arith, length-set}
use Rattle.std.specs.Int.{from_bool}
use Rattle.std.specs.List.{All}
use Rattle.std.proofs.lemmas.Bool.{cases_eq, eqb-true, false≢true}
use Rattle.std.proofs.lemmas.Grind.{elements}
use Rattle.std.proofs.lemmas.List.{get_or_past}
use Rattle.std.proofs.lemmas.List.Elements.{All-get_or}
use Rattle.std.proofs.lemmas.Bool.{cases_lt}
use Rattle.std.proofs.lemmas.Option.{same_Some}
use Rattle.avr_model.specs.declared.instruction.Instr.{Instr}
use Rattle.avr_model.specs.declared.instruction.Instr.TheVariants as i
use Rattle.avr_model.specs.declared.instruction.BinaryOp.{BinaryOp}
use Rattle.avr_model.specs.declared.instruction.BinaryOp.TheVariants as binary
use Rattle.avr_model.specs.Image.{byte_at}
use Rattle.avr_model.specs.Sreg.{flag}
use Rattle.avr_model.specs.Sums.{sum_of}
use Rattle.avr_model.specs.State.{State, RAMPZ, register, pair}
use Rattle.avr_model.specs.Effects.{flash_read as byte_read, extended_byte, binary_effect}
use Rattle.avr_model.specs.Step.{with_registers}
use Rattle.avr_model.specs.Devices.{Image}
use Rattle.bit_domain.specs.declared.bits.Tri.{Tri}
use Rattle.bit_domain.specs.declared.bits.Tri.TheVariants.{Zero}
use Rattle.bit_domain.specs.declared.bytes.TriByte.{TriByte}
use Rattle.bit_domain.specs.Tri.{Permits, IsTriWithin}
use Rattle.bit_domain.specs.TriByte.{Has, IsWithin, tri_at}
use Rattle.bit_domain.proofs.AllLaws.{bytes_are_sets}
use Rattle.std.proofs.lemmas.Nat.Bits.{bit_at-lt}
use Rattle.std.specs.Int.{bit_at}
use Rattle.sp_domain.specs.Tags.{Origin}
use Rattle.sp_domain.specs.declared.tags.Tag.TheVariants as tag
use Rattle.pair_domain.specs.declared.facts.PairFacts.{PairFacts}
use Rattle.pair_domain.specs.PairSets.{PairSet, PairStands, IsPairWithin}
use Rattle.pair_domain.specs.Facts.{AreFactsWithin}
use Rattle.abs_alu.proofs.ProductCover.{constant_member, constant_within}
use Rattle.abs_state.specs.declared.values.AbsByte.{AbsByte}
use Rattle.abs_state.specs.declared.state.AbsState.{AbsState}
use Rattle.abs_state.specs.Values.{value_at, unknown}
use Rattle.abs_state.specs.Stands.{ByteStands, RegistersStand}
use Rattle.abs_state.specs.Order.{IsByteWithin, IsStateWithin}
use Rattle.abs_state.specs.Formed.{ByteFits}
use Rattle.abs_state.specs.Laws.{HoldsAt}
use Rattle.abs_state.proofs.AllLaws.{bits_make_values, states_are_ordered}
use Rattle.pair_rules.specs.Flash.{pair_permits, few_in_flash, flash_joined}
use Rattle.pair_rules.specs.Values.{with_value, doubled, doubled_value, doubled_by, with_joined, flash_read, rampz_of, extended_read, z_of, retold}
use Rattle.pair_rules.specs.Fits.{HasRegisters, CoversFlash, CoversDoubled, CoversTold}
use Rattle.pair_laws.specs.Laws.{IsBefore, registers_set}
use Rattle.pair_laws.proofs.Doubled.{has_doubled, doubled_more}
use Rattle.pair_laws.proofs.FlashJoin.{permits_more, pair_permits_it, few_less, is_in_flash, joined_more, joined_stands, flash_fits, flash_untagged, flash_covered}
use Rattle.pair_laws.proofs.Numbers.{set_there}
use Rattle.pair_laws.proofs.CutTold.{value_or_not}

-- ---- one value that is set

value_there : (vs : List AbsByte) (d : ℕ) (v : AbsByte) → d < length vs → value_at (slice_set vs d v) d ≡ v
value_there vs d v lt = grind (arith, elements)

value_past : (vs : List AbsByte) (d : ℕ) (v : AbsByte) → length vs ≤ d → value_at (slice_set vs d v) d ≡ value_at vs d
value_past vs d v past = get_or_past (slice_set vs d v) d unknown (omega (arith, past, length-set vs d v)) ∙ sym (get_or_past vs d unknown past)

-- a property of the new value and of all old ones holds of all
pub value_set : (Q : ℕ → AbsByte → Type 0) (values : List AbsByte) (d : ℕ) (v : AbsByte) → Q d v → ((r : ℕ) → r < 34 → Q r (value_at values r))
    → (r : ℕ) → r < 34 → Q r (value_at (slice_set values d v) r)
value_set Q values d v new old r lt = by (cases_eq r d)
  where
    there : (value_at (slice_set values d v) d ≡ v) ⊎ (value_at (slice_set values d v) d ≡ value_at values d)
    there = value_or_not values d v

    by : (r ≡ d) ⊎ (r ≡ d → ⊥) → Q r (value_at (slice_set values d v) r)
    by (inl e) =
        let P : ℕ → Type 0 = λ k. Q k (value_at (slice_set values d v) k) in
        let here : Q d (value_at values d) = subst (λ (k : ℕ). Q k (value_at values k)) e (old r lt) in
        subst P (sym e) (⊎_elim (λ set. subst (Q d) (sym set) new) (λ past. subst (Q d) (sym past) here) there)
    by (inr ne) = let other : value_at (slice_set values d v) r ≡ value_at values r = grind (arith, elements) in subst (Q r) (sym other) (old r lt)

-- a relation of two lists of equal length holds after both are set
pub both_set : (vs ws : List AbsByte) (d : ℕ) (v w : AbsByte) → length vs ≡ length ws → IsByteWithin v w → ((r : ℕ) → r < 34 → IsByteWithin (value_at vs r) (value_at ws r))
    → (r : ℕ) → r < 34 → IsByteWithin (value_at (slice_set vs d v) r) (value_at (slice_set ws d w) r)
both_set vs ws d v w count new old r lt = by (cases_eq r d)
  where
    there : ((value_at (slice_set vs d v) d ≡ v) × (value_at (slice_set ws d w) d ≡ w))
        ⊎ ((value_at (slice_set vs d v) d ≡ value_at vs d) × (value_at (slice_set ws d w) d ≡ value_at ws d))
    there = inside (cases_lt d (length vs))
      where
        inside : (d < length vs) ⊎ (length vs ≤ d)
            → ((value_at (slice_set vs d v) d ≡ v) × (value_at (slice_set ws d w) d ≡ w))
            ⊎ ((value_at (slice_set vs d v) d ≡ value_at vs d) × (value_at (slice_set ws d w) d ≡ value_at ws d))
        inside (inl small) = inl (value_there vs d v small, value_there ws d w (omega (arith, small, count)))
        inside (inr past) = inr (value_past vs d v past, value_past ws d w (omega (arith, past, count)))

    by : (r ≡ d) ⊎ (r ≡ d → ⊥) → IsByteWithin (value_at (slice_set vs d v) r) (value_at (slice_set ws d w) r)
    by (inl e) =
        let P : ℕ → Type 0 = λ k. IsByteWithin (value_at (slice_set vs d v) k) (value_at (slice_set ws d w) k) in
        let here : IsByteWithin (value_at vs d) (value_at ws d) = subst (λ (k : ℕ). IsByteWithin (value_at vs k) (value_at ws k)) e (old r lt) in
        subst P (sym e) (⊎_elim (λ set. subst₂ IsByteWithin (sym set.0) (sym set.1) new) (λ past. subst₂ IsByteWithin (sym past.0) (sym past.1) here) there)
    by (inr ne) =
        let first : value_at (slice_set vs d v) r ≡ value_at vs r = grind (arith, elements) in
        let second : value_at (slice_set ws d w) r ≡ value_at ws r = grind (arith, elements) in
        subst₂ IsByteWithin (sym first) (sym second) (old r lt)

value_less : (t : AbsState) (d : ℕ) (v : AbsByte) → IsByteWithin v (value_at t.registers d) → IsStateWithin (with_value t d v) t
value_less t d v le =
    let same = states_are_ordered.same t in
    record {
      registers = value_set (λ r w. IsByteWithin w (value_at t.registers r)) t.registers d v le same.registers;
      flags = same.flags;
      count = same.count;
      slots = same.slots;
      facts = same.facts;
    }

values_less : (t t' : AbsState) (d : ℕ) (v v' : AbsByte) → length t.registers ≡ length t'.registers → IsByteWithin v v' → IsStateWithin t t'
    → IsStateWithin (with_value t d v) (with_value t' d v')
values_less t t' d v v' count new le = record {
  registers = both_set t.registers t'.registers d v v' count new le.registers;
  flags = le.flags;
  count = le.count;
  slots = le.slots;
  facts = le.facts;
}

-- ---- what is left: t, or t with another value, which fits and has no tag

pub data IsRetold (t u : AbsState) : Type 0 where
  same : u ≡ t → IsRetold t u
  sets : (d : ℕ) (v : AbsByte) → u ≡ with_value t d v → ByteFits v → v.tag ≡ tag.None → IsRetold t u

joined_was : (image : Image) (from : ℕ) (t u : AbsState) (d : ℕ) (permits : ℕ → Bool) (o : Option AbsByte) → flash_joined image from permits ≡ o → with_joined t d o ≡ Some u → IsRetold t u
joined_was image from t u d permits None is e = absurd (cc)
joined_was image from t u d permits (Some v) is e =
    sets d v (sym (same_Some (with_value t d v) u e)) (flash_fits image from permits v is) (flash_untagged image from permits v is)

flash_was : (image : Image) (from : ℕ) (t u : AbsState) (d : ℕ) (permits : ℕ → Bool) → flash_read image from t d permits ≡ Some u → IsRetold t u
flash_was image from t u d permits e = by (few_in_flash image from permits) e
  where
    by : (few : Bool) → (if few then with_joined t d (flash_joined image from permits) else Some t) ≡ Some u → IsRetold t u
    by true is = joined_was image from t u d permits (flash_joined image from permits) refl is
    by false is = same (sym (same_Some t u is))

extended_was : (image : Image) (bank : Option ℕ) (t u : AbsState) (d : ℕ) (permits : ℕ → Bool) → extended_read image bank t d permits ≡ Some u → IsRetold t u
extended_was image None t u d permits e = same (sym (same_Some t u e))
extended_was image (Some b) t u d permits e = flash_was image (65536 * b) t u d permits e

doubled_was : (s t : AbsState) (op : BinaryOp) (d : ℕ) → IsRetold t (doubled_by s op d t)
doubled_was s t binary.Cpc d = same refl
doubled_was s t binary.Sbc d = same refl
doubled_was s t binary.Add d = sets d (doubled_value s d Zero) refl (bits_make_values.fits tag.None (doubled (value_at s.registers d).bits Zero)) refl
doubled_was s t binary.Cpse d = same refl
doubled_was s t binary.Cp d = same refl
doubled_was s t binary.Sub d = same refl
doubled_was s t binary.Adc d =
    sets d (doubled_value s d (tri_at s.flags.bits 0)) refl (bits_make_values.fits tag.None (doubled (value_at s.registers d).bits (tri_at s.flags.bits 0))) refl
doubled_was s t binary.And d = same refl
doubled_was s t binary.Eor d = same refl
doubled_was s t binary.Or d = same refl
doubled_was s t binary.Mov d = same refl
doubled_was s t binary.Mul d = same refl

binary_was : (s t u : AbsState) (op : BinaryOp) (d r : ℕ) → Some (if d == r then doubled_by s op d t else t) ≡ Some u → IsRetold t u
binary_was s t u op d r e = by (d == r) (sym (same_Some (if d == r then doubled_by s op d t else t) u e))
  where
    by : (b : Bool) → u ≡ (if b then doubled_by s op d t else t) → IsRetold t u
    by true is = subst (IsRetold t) (sym is) (doubled_was s t op d)
    by false is = same is

pub retold_was : (image : Image) (s : AbsState) (f : PairFacts) (instr : Instr) (t u : AbsState) → retold image s f instr t ≡ Some u → IsRetold t u
retold_was image s f (i.Binary op d r) t u e = binary_was s t u op d r e
retold_was image s f (i.LpmZ d) t u e = flash_was image 0 t u d (pair_permits (z_of s f)) e
retold_was image s f (i.LpmZPlus d) t u e = flash_was image 0 t u d (pair_permits (z_of s f)) e
retold_was image s f i.Lpm t u e = flash_was image 0 t u 0 (pair_permits (z_of s f)) e
retold_was image s f (i.ElpmZ d) t u e = extended_was image (rampz_of s) t u d (pair_permits (z_of s f)) e
retold_was image s f (i.ElpmZPlus d) t u e = extended_was image (rampz_of s) t u d (pair_permits (z_of s f)) e
retold_was image s f i.Elpm t u e = extended_was image (rampz_of s) t u 0 (pair_permits (z_of s f)) e
retold_was image s f _ t u e = same (sym (same_Some t u e))

-- ---- it says more than the plain rules

joined_under : (image : Image) (from : ℕ) (t u : AbsState) (d : ℕ) (p : PairSet) → CoversFlash image from p (value_at t.registers d) → few_in_flash image from (pair_permits p) ≡ true
    → (o : Option AbsByte) → flash_joined image from (pair_permits p) ≡ o → with_joined t d o ≡ Some u → IsStateWithin u t
joined_under image from t u d p covers few None is e = absurd (cc)
joined_under image from t u d p covers few (Some v) is e =
    subst (λ (w : AbsState). IsStateWithin w t) (same_Some (with_value t d v) u e) (value_less t d v (flash_covered image from p (value_at t.registers d) covers few v is))

flash_under : (image : Image) (from : ℕ) (t u : AbsState) (d : ℕ) (p : PairSet) → CoversFlash image from p (value_at t.registers d) → flash_read image from t d (pair_permits p) ≡ Some u → IsStateWithin u t
flash_under image from t u d p covers e = by (few_in_flash image from (pair_permits p)) refl e
  where
    by : (few : Bool) → few_in_flash image from (pair_permits p) ≡ few → (if few then with_joined t d (flash_joined image from (pair_permits p)) else Some t) ≡ Some u → IsStateWithin u t
    by true few_is is = joined_under image from t u d p covers few_is (flash_joined image from (pair_permits p)) refl is
    by false many is = subst (λ (w : AbsState). IsStateWithin w t) (same_Some t u is) (states_are_ordered.same t)

extended_under : (image : Image) (bank : Option ℕ) (t u : AbsState) (d : ℕ) (p : PairSet) → ((b : ℕ) → bank ≡ Some b → CoversFlash image (65536 * b) p (value_at t.registers d))
    → extended_read image bank t d (pair_permits p) ≡ Some u → IsStateWithin u t
extended_under image None t u d p covers e = subst (λ (w : AbsState). IsStateWithin w t) (same_Some t u e) (states_are_ordered.same t)
extended_under image (Some b) t u d p covers e = flash_under image (65536 * b) t u d p (covers b refl) e

doubled_under : (s t : AbsState) (op : BinaryOp) (d : ℕ) → CoversDoubled s op d (value_at t.registers d) → IsStateWithin (doubled_by s op d t) t
doubled_under s t binary.Cpc d covers = states_are_ordered.same t
doubled_under s t binary.Sbc d covers = states_are_ordered.same t
doubled_under s t binary.Add d covers = value_less t d (doubled_value s d Zero) covers
doubled_under s t binary.Cpse d covers = states_are_ordered.same t
doubled_under s t binary.Cp d covers = states_are_ordered.same t
doubled_under s t binary.Sub d covers = states_are_ordered.same t
doubled_under s t binary.Adc d covers = value_less t d (doubled_value s d (tri_at s.flags.bits 0)) covers
doubled_under s t binary.And d covers = states_are_ordered.same t
doubled_under s t binary.Eor d covers = states_are_ordered.same t
doubled_under s t binary.Or d covers = states_are_ordered.same t
doubled_under s t binary.Mov d covers = states_are_ordered.same t
doubled_under s t binary.Mul d covers = states_are_ordered.same t

binary_under : (s t u : AbsState) (op : BinaryOp) (d r : ℕ) → (d ≡ r → CoversDoubled s op d (value_at t.registers d))
    → Some (if d == r then doubled_by s op d t else t) ≡ Some u → IsStateWithin u t
binary_under s t u op d r covers e = by (d == r) refl (sym (same_Some (if d == r then doubled_by s op d t else t) u e))
  where
    by : (b : Bool) → (d == r) ≡ b → u ≡ (if b then doubled_by s op d t else t) → IsStateWithin u t
    by true few_is is = subst (λ (w : AbsState). IsStateWithin w t) (sym is) (doubled_under s t op d (covers (eqb-true d r few_is)))
    by false many is = subst (λ (w : AbsState). IsStateWithin w t) (sym is) (states_are_ordered.same t)

pub retold_under : (image : Image) (s : AbsState) (f : PairFacts) (instr : Instr) (t u : AbsState) → CoversTold image s instr t → retold image s f instr t ≡ Some u → IsStateWithin u t
retold_under image s f (i.Binary op d r) t u covers e = binary_under s t u op d r covers e
retold_under image s f (i.LpmZ d) t u covers e = flash_under image 0 t u d (z_of s f) (covers f) e
retold_under image s f (i.LpmZPlus d) t u covers e = flash_under image 0 t u d (z_of s f) (covers f) e
retold_under image s f i.Lpm t u covers e = flash_under image 0 t u 0 (z_of s f) (covers f) e
retold_under image s f (i.ElpmZ d) t u covers e = extended_under image (rampz_of s) t u d (z_of s f) (covers f) e
retold_under image s f (i.ElpmZPlus d) t u covers e = extended_under image (rampz_of s) t u d (z_of s f) (covers f) e
retold_under image s f i.Elpm t u covers e = extended_under image (rampz_of s) t u 0 (z_of s f) (covers f) e
retold_under image s f _ t u covers e = subst (λ (w : AbsState). IsStateWithin w t) (same_Some t u e) (states_are_ordered.same t)

-- ---- of more it is more

z_within : (s s' : AbsState) (f f' : PairFacts) → IsStateWithin s s' → AreFactsWithin f f' → IsPairWithin (z_of s f) (z_of s' f')
z_within s s' f f' le facts =
    let lo = le.registers 30 (omega arith) in
    let hi = le.registers 31 (omega arith) in
    record {
      low = record { bits = lo.bits; low = lo.low; high = lo.high };
      high = record { bits = hi.bits; low = hi.low; high = hi.high };
      interval = facts.intervals 15 (omega arith);
    }

-- the second exists and is above u
abbrev IsMoreThan : AbsState → Option AbsState → Type 0
IsMoreThan u o = (u' : AbsState) × (o ≡ Some u') × IsStateWithin u u'

module _ (image : Image) (from : ℕ) (t t' u : AbsState) (d : ℕ) (count : length t.registers ≡ length t'.registers) (le : IsStateWithin t t') (p p' : PairSet) (more : IsPairWithin p p')
    (covers : CoversFlash image from p' (value_at t'.registers d)) where
  -- few numbers are permitted of both
  both_few : (o : Option AbsByte) → flash_joined image from (pair_permits p) ≡ o → with_joined t d o ≡ Some u → IsMoreThan u (with_joined t' d (flash_joined image from (pair_permits p')))
  both_few None is e = absurd (cc)
  both_few (Some v) is e =
      let joined = joined_more (pair_permits p) (pair_permits p') _ (permits_more p p' more) v is in (
        with_value t' d joined.0,
        ap (with_joined t' d) joined.1.0,
        subst (λ (w : AbsState). IsStateWithin w (with_value t' d joined.0)) (same_Some (with_value t d v) u e) (values_less t t' d v joined.0 count joined.1.1 le),
      )

  -- too many are permitted of the second
  first_few : few_in_flash image from (pair_permits p) ≡ true → (o : Option AbsByte) → flash_joined image from (pair_permits p) ≡ o → with_joined t d o ≡ Some u → IsStateWithin u t'
  first_few few None is e = absurd (cc)
  first_few few (Some v) is e =
      let above = flash_covered image from p (value_at t'.registers d) (λ z lt may. covers z lt (permits_more p p' more z lt may)) few v is in
      subst (λ (w : AbsState). IsStateWithin w t') (same_Some (with_value t d v) u e) (record {
        registers = value_set (λ r w. IsByteWithin w (value_at t'.registers r)) t.registers d v above le.registers;
        flags = le.flags;
        count = le.count;
        slots = le.slots;
        facts = le.facts;
      })

  flash_more : flash_read image from t d (pair_permits p) ≡ Some u → IsMoreThan u (flash_read image from t' d (pair_permits p'))
  flash_more e = by (few_in_flash image from (pair_permits p)) (few_in_flash image from (pair_permits p')) refl refl e
    where
      by : (few few' : Bool) → few_in_flash image from (pair_permits p) ≡ few → few_in_flash image from (pair_permits p') ≡ few'
          → (if few then with_joined t d (flash_joined image from (pair_permits p)) else Some t) ≡ Some u
          → IsMoreThan u (if few' then with_joined t' d (flash_joined image from (pair_permits p')) else Some t')
      by true true few_is few_is' is = both_few (flash_joined image from (pair_permits p)) refl is
      by true false few_is many is = (t', refl, first_few few_is (flash_joined image from (pair_permits p)) refl is)
      by false true many few_is is = absurd (false≢true (sym many ∙ few_less image from (pair_permits p) (pair_permits p') (permits_more p p' more) few_is))
      by false false many many' is = (t', refl, subst (λ (w : AbsState). IsStateWithin w t') (same_Some t u is) le)

-- a bank that the greater knows is that of the lesser
bank_within : (s s' : AbsState) → IsStateWithin s s' → (b : ℕ) → rampz_of s' ≡ Some b → rampz_of s ≡ Some b
bank_within s s' le b e = constant_within (value_at s.registers RAMPZ).bits (value_at s'.registers RAMPZ).bits b (le.registers RAMPZ (omega arith)).bits e

extended_more : (image : Image) (bank bank' : Option ℕ) (t t' u : AbsState) (d : ℕ) → length t.registers ≡ length t'.registers → IsStateWithin t t'
    → (p p' : PairSet) → IsPairWithin p p' → ((b : ℕ) → bank' ≡ Some b → bank ≡ Some b) → ((b : ℕ) → bank ≡ Some b → CoversFlash image (65536 * b) p (value_at t.registers d))
    → ((b : ℕ) → bank' ≡ Some b → CoversFlash image (65536 * b) p' (value_at t'.registers d)) → extended_read image bank t d (pair_permits p) ≡ Some u
    → IsMoreThan u (extended_read image bank' t' d (pair_permits p'))
extended_more image bank None t t' u d count le p p' more known covers covers' e =
    (t', refl, states_are_ordered.through u t t' (extended_under image bank t u d p covers e) le)
extended_more image bank (Some b) t t' u d count le p p' more known covers covers' e =
    let here : flash_read image (65536 * b) t d (pair_permits p) ≡ Some u =
    subst (λ (x : Option ℕ). extended_read image x t d (pair_permits p) ≡ Some u) (known b refl) e in
    flash_more image (65536 * b) t t' u d count le p p' more (covers' b refl) here

doubled_within : (s s' : AbsState) (d : ℕ) (low low' : Tri) → IsWithin (value_at s.registers d).bits (value_at s'.registers d).bits → IsTriWithin low low'
    → IsByteWithin (doubled_value s d low) (doubled_value s' d low')
doubled_within s s' d low low' bits first =
    bits_make_values.within tag.None tag.None (doubled (value_at s.registers d).bits low) (doubled (value_at s'.registers d).bits low') tt
    (doubled_more (value_at s.registers d).bits (value_at s'.registers d).bits low low' bits first)

carry_within : (s s' : AbsState) → IsStateWithin s s' → IsTriWithin (tri_at s.flags.bits 0) (tri_at s'.flags.bits 0)
carry_within s s' le = (bytes_are_sets.within s.flags.bits s'.flags.bits).0 le.flags.bits 0 (omega arith)

module _ (s s' t t' : AbsState) (count : length t.registers ≡ length t'.registers) (within : IsStateWithin s s') (le : IsStateWithin t t') where
  by_more : (op : BinaryOp) (d : ℕ) → d < 32 → IsStateWithin (doubled_by s op d t) (doubled_by s' op d t')
  by_more binary.Cpc d lt = le
  by_more binary.Sbc d lt = le
  by_more binary.Add d lt = values_less t t' d _ _ count (doubled_within s s' d Zero Zero (within.registers d (omega (arith, lt))).bits (λ n may. may)) le
  by_more binary.Cpse d lt = le
  by_more binary.Cp d lt = le
  by_more binary.Sub d lt = le
  by_more binary.Adc d lt = values_less t t' d _ _ count (doubled_within s s' d _ _ (within.registers d (omega (arith, lt))).bits (carry_within s s' within)) le
  by_more binary.And d lt = le
  by_more binary.Eor d lt = le
  by_more binary.Or d lt = le
  by_more binary.Mov d lt = le
  by_more binary.Mul d lt = le

  binary_more : (u : AbsState) (op : BinaryOp) (d r : ℕ) → d < 32 → Some (if d == r then doubled_by s op d t else t) ≡ Some u
      → IsMoreThan u (Some (if d == r then doubled_by s' op d t' else t'))
  binary_more u op d r lt e = by (d == r) (same_Some (if d == r then doubled_by s op d t else t) u e)
    where
      by : (b : Bool) → (if b then doubled_by s op d t else t) ≡ u → IsMoreThan u (Some (if b then doubled_by s' op d t' else t'))
      by true is = (doubled_by s' op d t', refl, subst (λ (w : AbsState). IsStateWithin w (doubled_by s' op d t')) is (by_more op d lt))
      by false is = (t', refl, subst (λ (w : AbsState). IsStateWithin w t') is le)

  plain_more : (u : AbsState) → Some t ≡ Some u → IsMoreThan u (Some t')
  plain_more u e = (t', refl, subst (λ (w : AbsState). IsStateWithin w t') (same_Some t u e) le)

  pub retold_more : (image : Image) (f f' : PairFacts) (instr : Instr) (u : AbsState) → HasRegisters instr → AreFactsWithin f f' → CoversTold image s instr t
      → CoversTold image s' instr t' → retold image s f instr t ≡ Some u → (u' : AbsState) × (retold image s' f' instr t' ≡ Some u') × IsStateWithin u u'
  retold_more image f f' (i.Binary op d r) u fit facts covers covers' e = binary_more u op d r fit.0 e
  retold_more image f f' (i.LpmZ d) u fit facts covers covers' e = flash_more image 0 t t' u d count le (z_of s f) (z_of s' f') (z_within s s' f f' within facts) (covers' f') e
  retold_more image f f' (i.LpmZPlus d) u fit facts covers covers' e = flash_more image 0 t t' u d count le (z_of s f) (z_of s' f') (z_within s s' f f' within facts) (covers' f') e
  retold_more image f f' i.Lpm u fit facts covers covers' e = flash_more image 0 t t' u 0 count le (z_of s f) (z_of s' f') (z_within s s' f f' within facts) (covers' f') e
  retold_more image f f' (i.ElpmZ d) u fit facts covers covers' e =
      extended_more image (rampz_of s) (rampz_of s') t t' u d count le (z_of s f) (z_of s' f') (z_within s s' f f' within facts) (bank_within s s' within) (covers f) (covers' f') e
  retold_more image f f' (i.ElpmZPlus d) u fit facts covers covers' e =
      extended_more image (rampz_of s) (rampz_of s') t t' u d count le (z_of s f) (z_of s' f') (z_within s s' f f' within facts) (bank_within s s' within) (covers f) (covers' f') e
  retold_more image f f' i.Elpm u fit facts covers covers' e =
      extended_more image (rampz_of s) (rampz_of s') t t' u 0 count le (z_of s f) (z_of s' f') (z_within s s' f f' within facts) (bank_within s s' within) (covers f) (covers' f') e
  retold_more image f f' _ u fit facts covers covers' e = plain_more u e

-- ---- it stands for what the instruction leaves

flag_permitted : (bits : TriByte) (x : ℕ) → Has bits x → Permits (tri_at bits 0) (from_bool (flag x 0))
flag_permitted bits x has = subst (Permits (tri_at bits 0)) (by (bit_at x 0) (bit_at-lt x 0)) (has 0 (omega arith))
  where
    by : (b : ℕ) → b < 2 → b ≡ from_bool (b == 1)
    by zero lt = refl
    by (suc zero) lt = refl
    by (suc (suc b)) lt = absurd (omega arith)

byte_small : (words : List ℕ) (z : ℕ) → All (λ w. w < 65536) words → byte_at words z < 256
byte_small words z all = here (z % 2 == 0)
  where
    word : slice_index words (z / 2) < 65536
    word =
        ⊎_elim (λ lt. All-get_or (λ x. x < 65536) words (z / 2) 0 lt all) (λ over. subst (λ x. x < 65536) (sym (get_or_past words (z / 2) 0 over)) (omega arith))
        (cases_lt (z / 2) (length words))

    here : (b : Bool) → (if b then slice_index words (z / 2) % 256 else slice_index words (z / 2) / 256) < 256
    here true = omega arith
    here false = omega (arith, word)

-- such a state with these facts exists, and its registers hold
abbrev StandsRetold : Origin → AbsState → Option AbsState → List ℕ → Type 0
StandsRetold o t left registers = (u : AbsState) × (left ≡ Some u) × RegistersStand o u.registers registers × (u.facts ≡ t.facts)

module _ (o : Origin) (m : State) (s t : AbsState) (n : ℕ) (at : IsBefore o s m) (image : Image) (are : All (λ w. w < 65536) image.words) (f : PairFacts)
    (h : HoldsAt (Some f) m.registers m.sreg) (registers : List ℕ) (stand : RegistersStand o t.registers registers) where
  plain_stands : StandsRetold o t (Some t) registers
  plain_stands = (t, refl, stand, refl)

  value_stands : (d : ℕ) (v : AbsByte) → ByteStands o v (slice_index registers d) → StandsRetold o t (Some (with_value t d v)) registers
  value_stands d v new = (with_value t d v, refl, value_set (λ r w. ByteStands o w (slice_index registers r)) t.registers d v new stand, refl)

  z_stands : PairStands (z_of s f) (slice_index m.registers 30) (slice_index m.registers 31)
  z_stands =
      let lo = at.registers 30 (omega arith) in
      let hi = at.registers 31 (omega arith) in
      record {
        low = record { bits = lo.bits; low = lo.low; high = lo.high; small = lo.small };
        high = record { bits = hi.bits; low = hi.low; high = hi.high; small = hi.small };
        interval = h.intervals 15 (omega arith);
      }

  flash_stands : (from d input : ℕ) → slice_index registers d ≡ byte_read image (from + pair m 30) input → StandsRetold o t (flash_read image from t d (pair_permits (z_of s f))) registers
  flash_stands from d input is = by (few_in_flash image from (pair_permits (z_of s f))) refl
    where
      z_small : pair m 30 < 65536
      z_small = omega (arith, at.bytes 30, at.bytes 31)

      may : pair_permits (z_of s f) (pair m 30) ≡ true
      may = pair_permits_it (z_of s f) (slice_index m.registers 30) (slice_index m.registers 31) z_stands

      by : (few : Bool) → few_in_flash image from (pair_permits (z_of s f)) ≡ few
          → StandsRetold o t (if few then with_joined t d (flash_joined image from (pair_permits (z_of s f))) else Some t) registers
      by false many = plain_stands
      by true few_is =
          let joined = joined_stands o image from (pair_permits (z_of s f)) (pair m 30) z_small may (byte_small image.words (from + pair m 30) are) in
          let inside = is_in_flash image from (pair_permits (z_of s f)) (pair m 30) few_is z_small may in
          let byte : slice_index registers d ≡ byte_at image.words (from + pair m 30) = is ∙ ap (λ (b : Bool). if b then byte_at image.words (from + pair m 30) else input) inside in
          let set = value_stands d joined.0 (subst (ByteStands o joined.0) (sym byte) joined.1.1) in
          (set.0, ap (with_joined t d) joined.1.0 ∙ set.1, set.2, set.3)

  -- from bank 0, and from the bank in RAMPZ
  first_stands : (d input : ℕ) → slice_index registers d ≡ byte_read image (pair m 30) input → StandsRetold o t (flash_read image 0 t d (pair_permits (z_of s f))) registers
  first_stands d input is =
      let same : pair m 30 ≡ 0 + pair m 30 = omega arith in flash_stands 0 d input (is ∙ ap (λ (z : ℕ). byte_read image z input) same)

  extended_stands : (d input : ℕ) → slice_index registers d ≡ byte_read image (extended_byte m) input
      → StandsRetold o t (extended_read image (rampz_of s) t d (pair_permits (z_of s f))) registers
  extended_stands d input is = by (rampz_of s) refl
    where
      by : (bank : Option ℕ) → rampz_of s ≡ bank → StandsRetold o t (extended_read image bank t d (pair_permits (z_of s f))) registers
      by None none = plain_stands
      by (Some b) known =
          let rampz = at.registers RAMPZ (omega arith) in
          let holds : register m RAMPZ ≡ b = constant_member (value_at s.registers RAMPZ).bits b (register m RAMPZ) rampz.small known rampz.bits in
          flash_stands (65536 * b) d input (is ∙ ap (λ (r : ℕ). byte_read image (65536 * r + pair m 30) input) holds)

  doubled_stands : (d : ℕ) (low : Tri) (c : Bool) → d < 32 → Permits low (from_bool c) → slice_index registers d ≡ sum_of (slice_index m.registers d) (slice_index m.registers d) c % 256
      → StandsRetold o t (Some (with_value t d (doubled_value s d low))) registers
  doubled_stands d low c lt may is =
      let x = slice_index m.registers d in
      let was = at.registers d (omega (arith, lt)) in
      let small : sum_of x x c % 256 < 256 = omega arith in
      let has = has_doubled (value_at s.registers d).bits low x (from_bool c) was.small (carry_small c) was.bits may in
      value_stands d (doubled_value s d low)
      (subst (ByteStands o (doubled_value s d low)) (sym is)
      (bits_make_values.stands o tag.None (doubled (value_at s.registers d).bits low) (sum_of x x c % 256) small tt has))
    where
      carry_small : (b : Bool) → from_bool b < 2
      carry_small true = omega arith
      carry_small false = omega arith

module _ (o : Origin) (m : State) (s t : AbsState) (n : ℕ) (at : IsBefore o s m) (image : Image) (are : All (λ w. w < 65536) image.words) (f : PairFacts)
    (h : HoldsAt (Some f) m.registers m.sreg) (still : Bool) (b1 b2 : ℕ) where
  set_at : (d x : ℕ) → d < 32 → slice_index (slice_set m.registers d x) d ≡ x
  set_at d x lt = set_there m.registers d x (omega (arith, lt, at.count))

  by_stands : (op : BinaryOp) (d : ℕ) → d < 32 → RegistersStand o t.registers (with_registers m.registers (binary_effect image m op d d).registers)
      → StandsRetold o t (Some (doubled_by s op d t)) (with_registers m.registers (binary_effect image m op d d).registers)
  by_stands binary.Cpc d lt stand = (t, refl, stand, refl)
  by_stands binary.Sbc d lt stand = (t, refl, stand, refl)
  by_stands binary.Add d lt stand = doubled_stands o m s t n at image are f h _ stand d Zero false lt refl (set_at d _ lt)
  by_stands binary.Cpse d lt stand = (t, refl, stand, refl)
  by_stands binary.Cp d lt stand = (t, refl, stand, refl)
  by_stands binary.Sub d lt stand = (t, refl, stand, refl)
  by_stands binary.Adc d lt stand =
      doubled_stands o m s t n at image are f h _ stand d (tri_at s.flags.bits 0) (flag m.sreg 0) lt (flag_permitted s.flags.bits m.sreg at.flags.bits) (set_at d _ lt)
  by_stands binary.And d lt stand = (t, refl, stand, refl)
  by_stands binary.Eor d lt stand = (t, refl, stand, refl)
  by_stands binary.Or d lt stand = (t, refl, stand, refl)
  by_stands binary.Mov d lt stand = (t, refl, stand, refl)
  by_stands binary.Mul d lt stand = (t, refl, stand, refl)

  binary_stands : (op : BinaryOp) (d r : ℕ) → d < 32 → RegistersStand o t.registers (with_registers m.registers (binary_effect image m op d r).registers)
      → StandsRetold o t (Some (if d == r then doubled_by s op d t else t)) (with_registers m.registers (binary_effect image m op d r).registers)
  binary_stands op d r lt stand = by (d == r) refl
    where
      by : (b : Bool) → (d == r) ≡ b → StandsRetold o t (Some (if b then doubled_by s op d t else t)) (with_registers m.registers (binary_effect image m op d r).registers)
      by false many = (t, refl, stand, refl)
      by true few_is =
          let is = eqb-true d r few_is in
          subst (λ (q : ℕ). StandsRetold o t (Some (doubled_by s op d t)) (with_registers m.registers (binary_effect image m op d q).registers)) is
          (by_stands op d lt (subst (λ (q : ℕ). RegistersStand o t.registers (with_registers m.registers (binary_effect image m op d q).registers)) (sym is) stand))

  -- after a pointer moved
  behind_pair : (d x lo hi : ℕ) → d < 32 → slice_index (slice_set (slice_set (slice_set m.registers 30 lo) 31 hi) d x) d ≡ x
  behind_pair d x lo hi lt =
      set_there (slice_set (slice_set m.registers 30 lo) 31 hi) d x
      (omega (arith, lt, at.count, length-set (slice_set m.registers 30 lo) 31 hi, length-set m.registers 30 lo))

  -- and RAMPZ too
  behind_bank : (d x lo hi bank : ℕ) → d < 32 → slice_index (slice_set (slice_set (slice_set (slice_set m.registers 30 lo) 31 hi) RAMPZ bank) d x) d ≡ x
  behind_bank d x lo hi bank lt =
      set_there (slice_set (slice_set (slice_set m.registers 30 lo) 31 hi) RAMPZ bank) d x
      (omega (arith, lt, at.count, length-set (slice_set (slice_set m.registers 30 lo) 31 hi) RAMPZ bank, length-set (slice_set m.registers 30 lo) 31 hi, length-set m.registers 30 lo))

  pub retold_stands : (instr : Instr) → HasRegisters instr → RegistersStand o t.registers (registers_set image still m instr b1 b2)
      → (u : AbsState) × (retold image s f instr t ≡ Some u) × RegistersStand o u.registers (registers_set image still m instr b1 b2) × (u.facts ≡ t.facts)
  retold_stands (i.Binary op d r) fit stand = binary_stands op d r fit.0 stand
  retold_stands (i.LpmZ d) fit stand = first_stands o m s t n at image are f h _ stand d b1 (set_at d _ fit)
  retold_stands (i.LpmZPlus d) fit stand = first_stands o m s t n at image are f h _ stand d b1 (behind_pair d _ _ _ fit)
  retold_stands i.Lpm fit stand = first_stands o m s t n at image are f h _ stand 0 b1 (set_at 0 _ (omega arith))
  retold_stands (i.ElpmZ d) fit stand = extended_stands o m s t n at image are f h _ stand d b1 (set_at d _ fit)
  retold_stands (i.ElpmZPlus d) fit stand = extended_stands o m s t n at image are f h _ stand d b1 (behind_bank d _ _ _ _ fit)
  retold_stands i.Elpm fit stand = extended_stands o m s t n at image are f h _ stand 0 b1 (set_at 0 _ (omega arith))
  retold_stands _ fit stand = (t, refl, stand, refl)
