-- Refined states.
use Rattle.std.proofs.Common.{◌≡◌, refl, sym, ◌∙◌, ap, subst, ℕ, ◌+◌, ◌*◌, ◌<◌, ◌⊎◌, inl, inr, Bool, true, false, List, length, Option, Some, None, length-set, arith}
use Rattle.std.specs.List.{All}
use Rattle.std.proofs.lemmas.Option.{same_Some}
use Rattle.avr_model.specs.declared.device.Device.{Device}
use Rattle.avr_model.specs.declared.instruction.Instr.{Instr}
use Rattle.avr_model.specs.State.{State}
use Rattle.avr_model.specs.Written.{written}
use Rattle.avr_model.specs.Devices.{Image}
use Rattle.sp_domain.specs.Tags.{Origin}
use Rattle.sp_domain.specs.declared.slots.Slot.{Slot}
use Rattle.sp_domain.specs.Slots.{slot_at}
use Rattle.sp_domain.specs.declared.tags.Tag.{Tag}
use Rattle.sp_domain.specs.declared.tags.Tag.TheVariants as tag
use Rattle.pair_domain.specs.declared.facts.PairFacts.{PairFacts}
use Rattle.pair_domain.specs.Facts.{IsKnownWithin}
use Rattle.pair_domain.specs.Rank.{KnownFits}
use Rattle.pair_domain.proofs.AllLaws.{known_is_ordered}
use Rattle.abs_state.specs.declared.values.AbsByte.{AbsByte}
use Rattle.abs_state.specs.declared.values.AbsFlags.{AbsFlags}
use Rattle.abs_state.specs.declared.state.AbsState.{AbsState}
use Rattle.abs_state.specs.Values.{value_at, set_of}
use Rattle.abs_state.specs.Order.{IsStateWithin}
use Rattle.abs_state.specs.Formed.{NamesRegister, ByteFits, IsFormed, SlotIsUntagged, CarryIsUntagged, TagFits, SlotFits}
use Rattle.abs_state.specs.Laws.{HoldsAt}
use Rattle.abs_state.proofs.AllLaws.{states_are_ordered, joins_are_formed}
use Rattle.abs_state.specs.Ended.{is_one_of, in_pair}
use Rattle.abs_state.specs.Hulls.{AreInHulls, IsInHulls}
use Rattle.abs_state.specs.Banks.{IsStateWith}
use Rattle.abs_state.specs.FlagsSet.{sets_flags, sets_carry}
use Rattle.pair_rules.specs.Hulls.{all_hulled, ended_by}
use Rattle.pair_rules.specs.Told.{told_by}
use Rattle.pair_rules.specs.Values.{with_value, retold}
use Rattle.pair_rules.specs.Refined.{cut_told, with_hulls, with_tags, tags_then, told_then, refined_known}
use Rattle.pair_rules.specs.Fits.{HasRegisters, CoversTold}
use Rattle.pair_laws.specs.Laws.{IsBefore, IsBehind, IsLike, registers_set, sreg_set, RefinedHolds, RefinedIsOrdered}
use Rattle.pair_laws.proofs.ToldTrue.{told_true, told_fits}
use Rattle.pair_laws.proofs.ToldLess.{told_less}
use Rattle.pair_laws.proofs.TagsTrue.{tags_true}
use Rattle.pair_laws.proofs.TagsOrder.{tags_more, tags_fit, tags_under}
use Rattle.pair_laws.proofs.CutTold.{cut_keeps, cut_under, cut_formed, cut_of, cut_more, cut_like}
use Rattle.pair_laws.proofs.Banks.{retold_of}
use Rattle.pair_laws.proofs.Hulls.{written_below, all_hold, all_more, all_fit, hulls_less}
use Rattle.pair_laws.proofs.InHulls.{PairIn, all_of_pairs, pair_same, neither, pair_ended, retold_kept, pair_hulled, cut_hulls, tags_in_hulls}
use Rattle.pair_laws.proofs.Retold.{IsRetold, same, sets, retold_was, retold_under, retold_more, retold_stands, value_set}

-- ---- the steps

-- t with refined values, cut by the transfer function
pub record IsRefined (marks : List ℕ) (image : Image) (instr : Instr) (s t u : AbsState) (f : PairFacts) : Type 0 where
  pub values : AbsState
  pub cut : AbsState
  pub retold_is : retold image s f instr t ≡ Some values
  pub cut_is : cut_told marks (told_by s.registers f instr) (with_hulls (written instr) values) ≡ Some cut
  pub tagged_is : with_tags s f instr cut ≡ u

tags_were : (s u : AbsState) (f : PairFacts) (instr : Instr) (o : Option AbsState) → tags_then s f instr o ≡ Some u → (v : AbsState) × (o ≡ Some v) × (with_tags s f instr v ≡ u)
tags_were s u f instr None e = absurd (cc)
tags_were s u f instr (Some v) e = (v, refl, same_Some (with_tags s f instr v) u e)

told_was : (marks : List ℕ) (s u : AbsState) (f : PairFacts) (instr : Instr) (o : Option AbsState) → told_then marks s f instr o ≡ Some u
    → (a : AbsState) × (o ≡ Some a) × (tags_then s f instr (cut_told marks (told_by s.registers f instr) (with_hulls (written instr) a)) ≡ Some u)
told_was marks s u f instr None e = absurd (cc)
told_was marks s u f instr (Some a) e = (a, refl, e)

refined_was : (marks : List ℕ) (image : Image) (instr : Instr) (s t u : AbsState) (f : PairFacts) → refined_known marks image instr s t (Some f) ≡ Some u → IsRefined marks image instr s t u f
refined_was marks image instr s t u f e =
    let first = told_was marks s u f instr (retold image s f instr t) e in
    let second = tags_were s u f instr (cut_told marks (told_by s.registers f instr) (with_hulls (written instr) first.0)) first.2 in
    record { values = first.0; cut = second.0; retold_is = first.1; cut_is = second.1; tagged_is = second.2 }

refined_is : (marks : List ℕ) (image : Image) (instr : Instr) (s t u : AbsState) (f : PairFacts) → IsRefined marks image instr s t u f → refined_known marks image instr s t (Some f) ≡ Some u
refined_is marks image instr s t u f h =
    ap (told_then marks s f instr) h.retold_is ∙ ap (tags_then s f instr) h.cut_is ∙ ap (λ (v : AbsState). Some v) h.tagged_is

-- ---- values that are retold

hulls_formed : (rs : List ℕ) (t : AbsState) (k : ℕ) → IsFormed t k → KnownFits (all_hulled t.registers rs t.facts) → IsFormed (with_hulls rs t) k
hulls_formed rs t k formed facts = record {
  count_registers = formed.count_registers;
  registers = formed.registers;
  bit_7 = formed.bit_7;
  count_slots = formed.count_slots;
  slots = formed.slots;
  carry = formed.carry;
  ranges = formed.ranges;
  slot_ranges = formed.slot_ranges;
  facts = facts;
}

value_formed : (t : AbsState) (k d : ℕ) (v : AbsByte) → IsFormed t k → ByteFits v → v.tag ≡ tag.None → IsFormed (with_value t d v) k
value_formed t k d v formed fits untagged = record {
  count_registers = length-set t.registers d v ∙ formed.count_registers;
  registers = value_set (λ r w. NamesRegister w.tag) t.registers d v (subst NamesRegister (sym untagged) tt) formed.registers;
  bit_7 = formed.bit_7;
  count_slots = formed.count_slots;
  slots = formed.slots;
  carry = formed.carry;
  ranges = value_set (λ r w. ByteFits w) t.registers d v fits formed.ranges;
  slot_ranges = formed.slot_ranges;
  facts = formed.facts;
}

retold_formed : (t u : AbsState) (k : ℕ) → IsRetold t u → IsFormed t k → IsFormed u k
retold_formed t u k (same is) formed = subst (λ (v : AbsState). IsFormed v k) (sym is) formed
retold_formed t u k (sets d v is fits untagged) formed = subst (λ (w : AbsState). IsFormed w k) (sym is) (value_formed t k d v formed fits untagged)

retold_like : (t u : AbsState) → IsRetold t u → IsLike t u
retold_like t u (same is) = subst (IsLike t) (sym is) (record { flags = refl; slots = refl })
retold_like t u (sets d v is fits untagged) = subst (IsLike t) (sym is) (record { flags = refl; slots = refl })

retold_facts : (t u : AbsState) → IsRetold t u → u.facts ≡ t.facts
retold_facts t u (same is) = ap (λ (v : AbsState). v.facts) is
retold_facts t u (sets d v is fits untagged) = ap (λ (w : AbsState). w.facts) is

-- a property of tags, and of none, is preserved
retold_tags : (C : Tag → Type 0) (t u : AbsState) → C tag.None → IsRetold t u → ((r : ℕ) → r < 34 → C (value_at t.registers r).tag) → (r : ℕ) → r < 34 → C (value_at u.registers r).tag
retold_tags C t u none (same is) old = subst (λ (v : AbsState). (r : ℕ) → r < 34 → C (value_at v.registers r).tag) (sym is) old
retold_tags C t u none (sets d v is fits untagged) old =
    subst (λ (w : AbsState). (r : ℕ) → r < 34 → C (value_at w.registers r).tag) (sym is)
    (value_set (λ r w. C w.tag) t.registers d v (subst C (sym untagged) none) old)

-- ---- a state that is refined

module _ (marks : List ℕ) (image : Image) (instr : Instr) (n k : ℕ) (s t : AbsState) (fit : HasRegisters instr) (before : IsFormed s n) (behind : IsFormed t k) where
  -- the state with the hulls as intervals
  hulled_formed : (f : PairFacts) (a : AbsState) → retold image s f instr t ≡ Some a → IsFormed (with_hulls (written instr) a) k
  hulled_formed f a is =
      let formed = retold_formed t a k (retold_was image s f instr t a is) behind in
      hulls_formed (written instr) a k formed (all_fit a.registers (written instr) a.facts formed.ranges formed.facts)

  formed_known : (x : Option PairFacts) → KnownFits x → (u : AbsState) → refined_known marks image instr s t x ≡ Some u → IsFormed u k
  formed_known None fits u e = subst (λ (v : AbsState). IsFormed v k) (same_Some t u e) behind
  formed_known (Some f) fits u e =
      let was = refined_was marks image instr s t u f e in
      let hulled = hulled_formed f was.values was.retold_is in
      let cut = cut_formed marks (told_by s.registers f instr) (with_hulls (written instr) was.values) was.cut k (told_fits s n before f instr fit) hulled was.cut_is in
      subst (λ (v : AbsState). IsFormed v k) was.tagged_is (record {
        count_registers = cut.count_registers;
        registers = cut.registers;
        bit_7 = cut.bit_7;
        count_slots = cut.count_slots;
        slots = cut.slots;
        carry = cut.carry;
        ranges = cut.ranges;
        slot_ranges = cut.slot_ranges;
        facts = tags_fit f fits s n before instr was.cut.facts fit cut.facts;
      })

  -- a property of the tags of t, and of none, holds of those of u
  tags_known : (C : Tag → Type 0) (x : Option PairFacts) (u : AbsState) → C tag.None → ((r : ℕ) → r < 34 → C (value_at t.registers r).tag) → refined_known marks image instr s t x ≡ Some u
      → (r : ℕ) → r < 34 → C (value_at u.registers r).tag
  tags_known C None u none old e = subst (λ (v : AbsState). (r : ℕ) → r < 34 → C (value_at v.registers r).tag) (same_Some t u e) old
  tags_known C (Some f) u none old e =
      let was = refined_was marks image instr s t u f e in
      let values = retold_tags C t was.values none (retold_was image s f instr t was.values was.retold_is) old in
      let like = cut_like marks (told_by s.registers f instr) (with_hulls (written instr) was.values) was.cut was.cut_is in
      subst (λ (v : AbsState). (r : ℕ) → r < 34 → C (value_at v.registers r).tag) was.tagged_is (λ r lt. subst C (sym (like.1 r)) (values r lt))

  -- what the device says
  of_known : (good : Tag → Bool) → good tag.None ≡ true → (device : Device) (is_root : Bool) → IsStateWith good device is_root t → (x : Option PairFacts) (u : AbsState)
      → refined_known marks image instr s t x ≡ Some u → IsStateWith good device is_root u
  of_known good none device is_root of None u e = subst (IsStateWith good device is_root) (same_Some t u e) of
  of_known good none device is_root of (Some f) u e =
      let was = refined_was marks image instr s t u f e in
      let retold_is = retold_was image s f instr t was.values was.retold_is in
      let values = retold_of good none device is_root t of s was.values image f instr fit was.retold_is retold_is (retold_like t was.values retold_is).slots in
      let hulled : IsStateWith good device is_root (with_hulls (written instr) was.values) =
      record { registers = values.registers; slots = values.slots; rampz = values.rampz; eind = values.eind } in
      let whole = joins_are_formed.whole (with_hulls (written instr) was.values) k (hulled_formed f was.values was.retold_is) in
      let cut = cut_of marks (told_by s.registers f instr) good device is_root (with_hulls (written instr) was.values) was.cut (told_fits s n before f instr fit) whole hulled was.cut_is in
      subst (IsStateWith good device is_root) was.tagged_is (record { registers = cut.registers; slots = cut.slots; rampz = cut.rampz; eind = cut.eind })

  under_known : (x : Option PairFacts) (u : AbsState) → t.facts ≡ ended_by instr x → CoversTold image s instr t → refined_known marks image instr s t x ≡ Some u → IsStateWithin u t
  under_known None u plain covers e = subst (λ (v : AbsState). IsStateWithin v t) (same_Some t u e) (states_are_ordered.same t)
  under_known (Some f) u plain covers e =
      let was = refined_was marks image instr s t u f e in
      let retold_is = retold_was image s f instr t was.values was.retold_is in
      let values = retold_under image s f instr t was.values covers was.retold_is in
      let formed = retold_formed t was.values k retold_is behind in
      let hulled = hulled_formed f was.values was.retold_is in
      let whole = joins_are_formed.whole (with_hulls (written instr) was.values) k hulled in
      let cut = cut_under marks (told_by s.registers f instr) (with_hulls (written instr) was.values) was.cut (told_fits s n before f instr fit) whole was.cut_is in
      let facts_is : was.values.facts ≡ ended_by instr (Some f) = retold_facts t was.values retold_is ∙ plain in
      let less : IsKnownWithin (all_hulled was.values.registers (written instr) was.values.facts) was.values.facts =
      subst (λ (y : Option PairFacts). IsKnownWithin (all_hulled was.values.registers (written instr) y) y) (sym facts_is)
      (hulls_less was.values.registers formed.ranges (written instr) (sets_flags instr) (sets_carry instr) (Some f) (written_below instr fit)) in
      let known = known_is_ordered.through was.cut.facts (all_hulled was.values.registers (written instr) was.values.facts) was.values.facts cut.facts less in
      let down = states_are_ordered.through was.cut (with_hulls (written instr) was.values) was.values cut (record {
        registers = (states_are_ordered.same was.values).registers;
        flags = (states_are_ordered.same was.values).flags;
        count = refl;
        slots = (states_are_ordered.same was.values).slots;
        facts = less;
      }) in
      let all = states_are_ordered.through was.cut was.values t down values in
      subst (λ (v : AbsState). IsStateWithin v t) was.tagged_is (record {
        registers = all.registers;
        flags = all.flags;
        count = all.count;
        slots = all.slots;
        facts = tags_under s f instr was.cut.facts t.facts plain all.facts;
      })

  -- cuts leave intervals in hulls
  in_hulls_known : (x : Option PairFacts) (u : AbsState) → t.facts ≡ ended_by instr x
      → ((r : ℕ) → r < 32 → is_one_of (written instr) r ≡ false → set_of (value_at t.registers r) ≡ set_of (value_at s.registers r)) → AreInHulls s.registers x
      → refined_known marks image instr s t x ≡ Some u → IsInHulls u
  in_hulls_known None u plain kept h e =
      let P : Option PairFacts → Type 0 = λ y. AreInHulls t.registers y in
      subst IsInHulls (same_Some t u e) (subst P (sym plain) tt)
  in_hulls_known (Some f) u plain kept h e =
      let was = refined_was marks image instr s t u f e in
      let retold_is = retold_was image s f instr t was.values was.retold_is in
      let facts_is : was.values.facts ≡ ended_by instr (Some f) = retold_facts t was.values retold_is ∙ plain in
      let count = known_is_ordered.count was.values.facts (retold_formed t was.values k retold_is behind).facts in
      let pairs = λ (p : ℕ) (small : p < 16).
      pair_hulled was.values.registers (written instr) was.values.facts p small count (either was.values was.retold_is facts_is p small (in_pair (is_one_of (written instr)) (2 * p)) refl) in
      let cut =
      cut_hulls marks (told_by s.registers f instr) (with_hulls (written instr) was.values) was.cut k (told_fits s n before f instr fit) (hulled_formed f was.values was.retold_is)
      (all_of_pairs was.values.registers (all_hulled was.values.registers (written instr) was.values.facts) pairs) was.cut_is in
      subst IsInHulls was.tagged_is (tags_in_hulls s.registers was.cut.registers f instr was.cut.facts cut)
    where
      same : (a : AbsState) → retold image s f instr t ≡ Some a → (r : ℕ) → r < 32 → is_one_of (written instr) r ≡ false
          → set_of (value_at a.registers r) ≡ set_of (value_at s.registers r)
      same a is r lt free = ap set_of (retold_kept s t a r image f instr is free) ∙ kept r lt free

      old : (a : AbsState) → retold image s f instr t ≡ Some a → a.facts ≡ ended_by instr (Some f) → (p : ℕ) → p < 16
          → in_pair (is_one_of (written instr)) (2 * p) ≡ false → PairIn a.registers a.facts p
      old a is facts_is p small free =
          let none = neither (is_one_of (written instr)) (2 * p) free in
          pair_same s.registers a.registers a.facts p (same a is (2 * p) (omega (arith, small)) none.0) (same a is (2 * p + 1) (omega (arith, small)) none.1)
          (subst (λ (y : Option PairFacts). PairIn s.registers y p) (sym facts_is) (pair_ended s.registers instr (Some f) p small free h))

      either : (a : AbsState) → retold image s f instr t ≡ Some a → a.facts ≡ ended_by instr (Some f) → (p : ℕ) → p < 16 → (b : Bool)
          → in_pair (is_one_of (written instr)) (2 * p) ≡ b → PairIn a.registers a.facts p ⊎ (in_pair (is_one_of (written instr)) (2 * p) ≡ true)
      either a is facts_is p small true e = inr e
      either a is facts_is p small false e = inl (old a is facts_is p small e)

like_known : (marks : List ℕ) (image : Image) (instr : Instr) (s t u : AbsState) (x : Option PairFacts) → refined_known marks image instr s t x ≡ Some u → IsLike t u
like_known marks image instr s t u None e = subst (IsLike t) (same_Some t u e) (record { flags = refl; slots = refl })
like_known marks image instr s t u (Some f) e =
    let was = refined_was marks image instr s t u f e in
    let values = retold_like t was.values (retold_was image s f instr t was.values was.retold_is) in
    let cut = (cut_like marks (told_by s.registers f instr) (with_hulls (written instr) was.values) was.cut was.cut_is).0 in
    subst (IsLike t) was.tagged_is (record { flags = cut.flags ∙ values.flags; slots = cut.slots ∙ values.slots })

-- ---- of more it is more

module _ (marks : List ℕ) (image : Image) (instr : Instr) (n k : ℕ) (s s' t t' u : AbsState) (fit : HasRegisters instr) (before : IsFormed s n) (before' : IsFormed s' n)
    (behind : IsFormed t k) (behind' : IsFormed t' k) (covers : CoversTold image s instr t) (covers' : CoversTold image s' instr t') (within : IsStateWithin s s') (le : IsStateWithin t t')
  where
    more_known : (x x' : Option PairFacts) → KnownFits x → KnownFits x' → t.facts ≡ ended_by instr x → IsKnownWithin x x' → refined_known marks image instr s t x ≡ Some u
        → (u' : AbsState) × (refined_known marks image instr s' t' x' ≡ Some u') × IsStateWithin u u'
    more_known x None fits fits' plain facts e =
        (t', refl, states_are_ordered.through u t t' (under_known marks image instr n k s t fit before behind x u plain covers e) le)
    more_known None (Some f') fits fits' plain facts e = absurd facts
    more_known (Some f) (Some f') fits fits' plain facts e =
        let was = refined_was marks image instr s t u f e in
        let count = behind.count_registers ∙ sym behind'.count_registers in
        let values = retold_more s s' t t' count within le image f f' instr was.values fit facts covers covers' was.retold_is in
        let formed = retold_formed t was.values k (retold_was image s f instr t was.values was.retold_is) behind in
        let formed' = retold_formed t' values.0 k (retold_was image s' f' instr t' values.0 values.1) behind' in
        let hulled = hulled_formed marks image instr n k s t fit before behind f was.values was.retold_is in
        let hulled' = hulled_formed marks image instr n k s' t' fit before' behind' f' values.0 values.1 in
        let hulls : IsStateWithin (with_hulls (written instr) was.values) (with_hulls (written instr) values.0) = record {
          registers = values.2.registers;
          flags = values.2.flags;
          count = values.2.count;
          slots = values.2.slots;
          facts =
              all_more was.values.registers values.0.registers (written instr) was.values.facts values.0.facts (known_is_ordered.count was.values.facts formed.facts)
              (known_is_ordered.count values.0.facts formed'.facts) values.2.registers values.2.facts;
        } in
        let cut =
        cut_more marks (told_by s.registers f instr) (told_by s'.registers f' instr) (with_hulls (written instr) was.values) (with_hulls (written instr) values.0) was.cut
        (told_fits s n before f instr fit) (told_fits s' n before' f' instr fit) (told_less f f' fits fits' facts s s' n before within instr fit)
        (joins_are_formed.whole (with_hulls (written instr) was.values) k hulled) (joins_are_formed.whole (with_hulls (written instr) values.0) k hulled') hulls was.cut_is in (
          with_tags s' f' instr cut.0,
          refined_is marks image instr s' t' (with_tags s' f' instr cut.0) f' (record { values = values.0; cut = cut.0; retold_is = values.1; cut_is = cut.1; tagged_is = refl }),
          subst (λ (v : AbsState). IsStateWithin v (with_tags s' f' instr cut.0)) was.tagged_is (record {
            registers = cut.2.registers;
            flags = cut.2.flags;
            count = cut.2.count;
            slots = cut.2.slots;
            facts = tags_more f f' facts s s' n before within instr was.cut.facts cut.0.facts fit cut.2.facts;
          }),
        )

-- ---- it stands

module _ (marks : List ℕ) (image : Image) (still : Bool) (o : Origin) (m : State) (instr : Instr) (b1 b2 n k : ℕ) (s t : AbsState) (are : All (λ w. w < 65536) image.words) (fit : HasRegisters instr)
    (before : IsFormed s n) (behind : IsFormed t k) (at : IsBefore o s m) (lands : IsBehind o t (registers_set image still m instr b1 b2) (sreg_set image still m instr b1 b2)) where
  holds_known : (x : Option PairFacts) → KnownFits x → HoldsAt x m.registers m.sreg
      → (u : AbsState) × (refined_known marks image instr s t x ≡ Some u) × IsBehind o u (registers_set image still m instr b1 b2) (sreg_set image still m instr b1 b2)
  holds_known None fits h = (t, refl, lands)
  holds_known (Some f) fits h =
      let values = retold_stands o m s t n at image are f h still b1 b2 instr fit lands.registers in
      let facts : HoldsAt values.0.facts (registers_set image still m instr b1 b2) (sreg_set image still m instr b1 b2) =
      subst (λ (y : Option PairFacts). HoldsAt y (registers_set image still m instr b1 b2) (sreg_set image still m instr b1 b2)) (sym values.3) lands.facts in
      let hulls =
      all_hold o values.0.registers (registers_set image still m instr b1 b2) (sreg_set image still m instr b1 b2) (written instr) values.0.facts (known_is_ordered.count values.0.facts (subst KnownFits (sym values.3) behind.facts)) values.2 facts in
      let hulled = hulled_formed marks image instr n k s t fit before behind f values.0 values.1 in
      let cut =
      cut_keeps marks (told_by s.registers f instr) o (with_hulls (written instr) values.0) (registers_set image still m instr b1 b2) (sreg_set image still m instr b1 b2)
      (told_fits s n before f instr fit) (told_true o m s n at before f fits h image still b1 b2 instr fit)
      (joins_are_formed.whole (with_hulls (written instr) values.0) k hulled) values.2 hulls in (
        with_tags s f instr cut.0,
        refined_is marks image instr s t (with_tags s f instr cut.0) f (record { values = values.0; cut = cut.0; retold_is = values.1; cut_is = cut.1; tagged_is = refl }),
        record { registers = cut.2; facts = tags_true o m s n at before f fits h image still b1 b2 instr cut.0.facts fit cut.3 },
      )

-- ---- the laws

pub refined_holds : RefinedHolds
refined_holds = record {
  holds = λ marks image still o m instr b1 b2 n k s t are fit before behind at lands.
      holds_known marks image still o m instr b1 b2 n k s t are fit before behind at lands s.facts before.facts at.facts;
}

pub refined_is_ordered : RefinedIsOrdered
refined_is_ordered = record {
  like = λ marks image instr s t u e. like_known marks image instr s t u s.facts e;
  under = λ marks image instr n k s t u fit before behind plain e. under_known marks image instr n k s t fit before behind s.facts u plain.facts plain.value e;
  more = λ marks image instr n k s s' t t' u fit before before' behind behind' plain plain' within le e.
      more_known marks image instr n k s s' t t' u fit before before' behind behind' plain.value plain'.value within le s.facts s'.facts before.facts before'.facts plain.facts within.facts e;
  formed = λ marks image instr n k s t u fit before behind e. formed_known marks image instr n k s t fit before behind s.facts before.facts u e;
  tags = λ marks image instr n k s t u fit before behind old e. record {
    registers = tags_known marks image instr n k s t fit before behind TagFits s.facts u tt old.registers e;
    slots = subst (λ (slots : List (Slot AbsByte)). (d : ℕ) → d < length slots → SlotFits (slot_at slots d)) (sym (like_known marks image instr s t u s.facts e).slots) old.slots;
  };
  untagged = λ marks image instr n k s t u fit before behind old e.
      let like = like_known marks image instr s t u s.facts e in
      record {
        registers = tags_known marks image instr n k s t fit before behind (λ w. w ≡ tag.None) s.facts u refl old.registers e;
        entry = ap (λ (f : AbsFlags). f.entry) like.flags ∙ old.entry;
        carry = subst (λ (f : AbsFlags). CarryIsUntagged f.carry) (sym like.flags) old.carry;
        slots = subst (λ (slots : List (Slot AbsByte)). (d : ℕ) → d < length slots → SlotIsUntagged (slot_at slots d)) (sym like.slots) old.slots;
      };
  of = λ good device is_root marks image instr n k s t u none fit before behind old e. of_known marks image instr n k s t fit before behind good none device is_root old s.facts u e;
  hulls = λ marks image instr n k s t u fit before behind plain kept old e. in_hulls_known marks image instr n k s t fit before behind s.facts u plain kept old e;
}
