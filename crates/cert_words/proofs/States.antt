-- Reading and spelling of the form of a node are inverse.
use Rattle.std.proofs.Common.{ℕ, ◌<◌, ◌≤◌, ◌≡◌, inl, inr, List, [], ◌∷◌, ◌++◌, length, length-append, map, take, codes, Bool, true, false, refl, ap, ap₂, sym, ◌∙◌, arith, Option, Some, None, nat_lt, subst, lit<, append_assoc}
use Rattle.std.specs.List.{AllByRecursion}
use Rattle.std.specs.Str.{bytes_eq}
use Rattle.std.proofs.lemmas.Bool.Decides.{nat_tests}
use Rattle.std.proofs.lemmas.List.{append-nil, get_or_default}
use Rattle.std.proofs.lemmas.List.Elements.{All-from_recursion, recursion_from_All}
use Rattle.std.proofs.lemmas.Slice.Eq.{bytes_eq-Decides}
use Rattle.std.proofs.lemmas.Option.{cond_some, same_Some as some_is, none-some}
use Rattle.basics.specs.Lists.{chosen}
use Rattle.text_base.specs.Digits.{hex_digits}
use Rattle.line_reading.specs.Reading.{◌>>=◌, dec_at, word_by}
use Rattle.line_reading.specs.Words.{IsWord, WordLaws}
use Rattle.line_reading.proofs.AllLaws.{bind_some, length_hex, map_some}
use Rattle.sp_domain.specs.declared.tags.Tag.{Tag}
use Rattle.sp_domain.specs.declared.tags.Tag.TheVariants as tag
use Rattle.sp_domain.specs.declared.slots.Slot.{Slot}
use Rattle.sp_domain.specs.declared.slots.Slot.TheVariants.{Free, Guarded}
use Rattle.sp_domain.specs.Slots.{slot_at}
use Rattle.pair_domain.specs.declared.facts.PairFacts.{PairFacts}
use Rattle.pair_domain.specs.Intervals.{IsIntervalWithin}
use Rattle.pair_domain.specs.Facts.{interval_at, is_followed}
use Rattle.pair_domain.specs.Rank.{KnownFits}
use Rattle.abs_state.specs.declared.values.AbsByte.{AbsByte}
use Rattle.abs_state.specs.declared.values.AbsFlags.{AbsFlags}
use Rattle.abs_state.specs.declared.state.AbsState.{AbsState}
use Rattle.abs_state.specs.Values.{unknown, value_at}
use Rattle.abs_state.specs.Hulls.{AreInHulls}
use Rattle.abs_state.specs.Banks.{is_tag_of, IsSlotOf, IsStateOf}
use Rattle.abs_state.specs.Formed.{SlotNamesRegister, SlotByteFits, SlotIsUntagged, IsFormed, IsUntagged}
use Rattle.node_keys.specs.declared.keys.Kind.{Kind}
use Rattle.node_keys.specs.declared.keys.Kind.TheVariants.{Root, Call, Vector}
use Rattle.node_keys.specs.declared.keys.NodeKey.{NodeKey}
use Rattle.avr_model.specs.declared.device.Device.{Device}
use Rattle.avr_model.specs.State.{RAMPZ, EIND}
use Rattle.node_keys.specs.Keys.{offset_of, is_root}
use Rattle.local_rules.specs.Cover.{SlotFits, TagsFit, IsNodeIn, IsKey}
use Rattle.edge_rules.specs.declared.seeded.NodeForm.{NodeForm}
use Rattle.edge_rules.specs.declared.seeded.NodeForm.TheVariants.{State, From}
use Rattle.certificate.specs.Claims.{FitsAt}
use Rattle.certificate.specs.declared.version.Version.{Version}
use Rattle.certificate.specs.declared.version.Version.TheVariants.{One, Two, Three}
use Rattle.certificate.specs.Versions.{ValueIsOf, SlotIsOf, StateIsOf, FormIsOf, is_third}
use Rattle.bit_domain.specs.Ranges.{RangesFit}
use Rattle.pair_words.specs.Laws.{AreHulls, FitWithin, FactsWords}
use Rattle.pair_words.specs.Reading.{facts_at}
use Rattle.certificate.specs.Hulls.{hulls_of}
use Rattle.cert_words.specs.Spelling.{value_word, flags_word, carry_word, slot_word, tag_text, bits_text, range_text}
use Rattle.cert_words.specs.KeySpelling.{register_count, pairs_words, state_words, form_words}
use Rattle.cert_words.specs.Reading.{value_in, slot_in, flags_in, carry_in}
use Rattle.cert_words.specs.KeyReading.{words_from, registers_behind, flags_at, pairs_at, state_behind, by_state, from_behind, form_at}
use Rattle.cert_words.specs.Fits.{IsValue, AreFlags, IsCarry, IsSlot}
use Rattle.cert_words.specs.Laws.{ValueWords}
use Rattle.cert_words.specs.KeyLaws.{FormWords}
use Rattle.cert_words.proofs.Fields.{dec_take, word_by_take, words_take, words_again, words_plain, joined_words}
use Rattle.cert_words.proofs.InstKeys.{cons}
use Rattle.cert_words.proofs.PairHulls.{hull_here, are_hulls}
use Rattle.cert_words.proofs.Banks.{IsKept, tag_named, bank_is, AreRegisters, count_all, are_kept, register_is, rampz_is, eind_is, are_registers, registers_take, are_read, registers_plain}

-- ---- what is known of pairs

-- none in the first and second versions; facts that fit the hulls of these registers in the third
abbrev PairsFit : Version → List AbsByte → Option PairFacts → Type 0
PairsFit One registers x = x ≡ None
PairsFit Two registers x = x ≡ None
PairsFit Three registers None = ⊥
PairsFit Three registers (Some f) = FitWithin (hulls_of registers) f

pairs_known : (version : Version) (registers : List AbsByte) (x : Option PairFacts) → PairsFit version registers x → KnownFits x
pairs_known One registers x h = subst KnownFits (sym h) tt
pairs_known Two registers x h = subst KnownFits (sym h) tt
pairs_known Three registers None h = tt
pairs_known Three registers (Some f) h = h.fit

pairs_mode : (version : Version) (registers : List AbsByte) (x : Option PairFacts) → PairsFit version registers x → is_followed x ≡ is_third version
pairs_mode One registers x h = ap is_followed h
pairs_mode Two registers x h = ap is_followed h
pairs_mode Three registers None h = absurd h
pairs_mode Three registers (Some f) h = refl

pairs_inside : (version : Version) (registers : List AbsByte) (x : Option PairFacts) → PairsFit version registers x → AreInHulls registers x
pairs_inside One registers x h = subst (AreInHulls registers) (sym h) tt
pairs_inside Two registers x h = subst (AreInHulls registers) (sym h) tt
pairs_inside Three registers None h = tt
pairs_inside Three registers (Some f) h = λ n lt. subst (IsIntervalWithin (interval_at f.intervals n)) (hull_here registers n lt) (h.within n lt)

pairs_fit : (version : Version) (registers : List AbsByte) (x : Option PairFacts) → KnownFits x → is_followed x ≡ is_third version → AreInHulls registers x → PairsFit version registers x
pairs_fit One registers None fits mode inside = refl
pairs_fit One registers (Some f) fits mode inside = absurd (cc)
pairs_fit Two registers None fits mode inside = refl
pairs_fit Two registers (Some f) fits mode inside = absurd (cc)
pairs_fit Three registers None fits mode inside = absurd (cc)
pairs_fit Three registers (Some f) fits mode inside = record {
  fit = fits;
  within = λ n lt. subst (IsIntervalWithin (interval_at f.intervals n)) (sym (hull_here registers n lt)) (inside n lt);
}

-- ---- what a state has, by its lists

pub record HasParts (device : Device) (version : Version) (root : Bool) (offset : ℕ) (s : AbsState) : Type 0 where
  pub registers : AreRegisters device version root s.registers
  pub flags : AreFlags root s.flags.entry s.flags.bits
  pub carry_fits : IsCarry version root s.flags.carry
  pub count_slots : length s.slots ≡ offset
  pub slots : AllByRecursion (λ t. IsSlot device version root t) s.slots
  pub pairs : PairsFit version s.registers s.facts

slot_names : (device : Device) (version : Version) (root : Bool) (t : Slot AbsByte) → IsSlot device version root t → SlotNamesRegister t
slot_names device version root Free h = tt
slot_names device version root (Guarded v) h = tag_named device root v.tag h.fits_tag

slot_fits : (device : Device) (version : Version) (root : Bool) (t : Slot AbsByte) → IsSlot device version root t → SlotFits t
slot_fits device version root Free h = tt
slot_fits device version root (Guarded v) h = h.fits_tag.fits

slot_range : (device : Device) (version : Version) (root : Bool) (t : Slot AbsByte) → IsSlot device version root t → SlotByteFits t
slot_range device version root Free h = tt
slot_range device version root (Guarded v) h = h.range

slot_of : (device : Device) (version : Version) (root : Bool) (t : Slot AbsByte) → IsSlot device version root t → IsSlotOf (is_tag_of device) t
slot_of device version root Free h = tt
slot_of device version root (Guarded v) h = h.fits_tag.of

slot_of_version : (device : Device) (version : Version) (root : Bool) (t : Slot AbsByte) → IsSlot device version root t → SlotIsOf version t
slot_of_version device version root Free h = tt
slot_of_version device version root (Guarded v) h = h.of_version

slot_untagged : (device : Device) (version : Version) (t : Slot AbsByte) → IsSlot device version true t → SlotIsUntagged t
slot_untagged device version Free h = tt
slot_untagged device version (Guarded v) h = h.fits_tag.none refl

slot_is : (device : Device) (version : Version) (root : Bool) (t : Slot AbsByte) → IsSlotOf (is_tag_of device) t → SlotFits t → (root ≡ true → SlotIsUntagged t) → SlotByteFits t → SlotIsOf version t → IsSlot device version root t
slot_is device version root Free a b c d e = tt
slot_is device version root (Guarded v) a b c d e = record { fits_tag = record { of = a; fits = b; none = c }; range = d; of_version = e }

all_say : {A : Type 0} (P Q : A → Type 0) → ((x : A) → P x → Q x) → (xs : List A) → AllByRecursion P xs → AllByRecursion Q xs
all_say P Q says [] h = tt
all_say P Q says (x ∷ xs) h = (says x h.0, all_say P Q says xs h.1)

module _ (g : RangesFit) where
  -- each register of a state fits by itself
  each_kept : (device : Device) (version : Version) (root : Bool) (offset : ℕ) (s : AbsState) → HasParts device version root offset s → (r : ℕ) → r < 34 → IsKept version root (value_at s.registers r)
  each_kept device version root offset s h r l =
      All-from_recursion (λ (v : AbsByte). IsKept version root v) s.registers (are_kept g device version root s.registers h.registers) r unknown (omega (arith, count_all s.registers h.registers, l))

  formed_by : (device : Device) (version : Version) (root : Bool) (offset : ℕ) (s : AbsState) → HasParts device version root offset s → IsFormed s offset
  formed_by device version root offset s h =
      let rs = each_kept device version root offset s h in
      let ss = All-from_recursion (λ (t : Slot AbsByte). IsSlot device version root t) s.slots h.slots in
      record {
        count_registers = count_all s.registers h.registers;
        registers = λ r l. (rs r l).names;
        bit_7 = h.flags.bit_7;
        count_slots = h.count_slots;
        slots = λ d l. slot_names device version root (slot_at s.slots d) (ss d Free l);
        carry = h.carry_fits.names;
        ranges = λ r l. (rs r l).range;
        slot_ranges = λ d l. slot_range device version root (slot_at s.slots d) (ss d Free l);
        facts = pairs_known version s.registers s.facts h.pairs;
      }

  tags_by : (device : Device) (version : Version) (root : Bool) (offset : ℕ) (s : AbsState) → HasParts device version root offset s → TagsFit s
  tags_by device version root offset s h =
      let rs = each_kept device version root offset s h in
      let ss = All-from_recursion (λ (t : Slot AbsByte). IsSlot device version root t) s.slots h.slots in
      record {
        registers = λ r l. (rs r l).fits;
        slots = λ d l. slot_fits device version root (slot_at s.slots d) (ss d Free l);
      }

  untagged_by : (device : Device) (version : Version) (offset : ℕ) (s : AbsState) → HasParts device version true offset s → IsUntagged s
  untagged_by device version offset s h =
      let rs = each_kept device version true offset s h in
      let ss = All-from_recursion (λ (t : Slot AbsByte). IsSlot device version true t) s.slots h.slots in
      record {
        registers = λ r l. (rs r l).none refl;
        entry = h.flags.none refl;
        carry = h.carry_fits.untagged refl;
        slots = λ d l. slot_untagged device version (slot_at s.slots d) (ss d Free l);
      }

  of_version_by : (device : Device) (version : Version) (root : Bool) (offset : ℕ) (s : AbsState) → HasParts device version root offset s → StateIsOf version s
  of_version_by device version root offset s h = record {
    registers = all_say (λ v. IsKept version root v) (λ v. ValueIsOf version v) (λ v p. p.of_version) s.registers (are_kept g device version root s.registers h.registers);
    carry_tag = h.carry_fits.of_version;
    slots = all_say (λ t. IsSlot device version root t) (λ t. SlotIsOf version t) (slot_of_version device version root) s.slots h.slots;
  }

-- the registers and slots are those of the device
of_device_by : (device : Device) (version : Version) (root : Bool) (offset : ℕ) (s : AbsState) → HasParts device version root offset s → IsStateOf device root s
of_device_by device version root offset s h =
    let ss = All-from_recursion (λ (t : Slot AbsByte). IsSlot device version root t) s.slots h.slots in
    record {
      registers = λ r l. (register_is s.registers r h.registers l).fits_tag.of;
      slots = λ d l. slot_of device version root (slot_at s.slots d) (ss d Free l);
      rampz = bank_is device version root RAMPZ (value_at s.registers RAMPZ) (rampz_is s.registers h.registers);
      eind = bank_is device version root EIND (value_at s.registers EIND) (eind_is s.registers h.registers);
    }

parts_by : (device : Device) (version : Version) (root : Bool) (offset : ℕ) (s : AbsState) → IsFormed s offset → TagsFit s → IsStateOf device root s → IsCarry version root s.flags.carry → (root ≡ true → IsUntagged s) → PairsFit version s.registers s.facts → StateIsOf version s
    → HasParts device version root offset s
parts_by device version root offset s f t of c u pairs o =
    let vs = All-from_recursion (λ (v : AbsByte). ValueIsOf version v) s.registers o.registers in
    let ts = All-from_recursion (λ (x : Slot AbsByte). SlotIsOf version x) s.slots o.slots in
    let value_is : (r : ℕ) → r < 34 → is_tag_of device (value_at s.registers r).tag ≡ true → IsValue device version root (value_at s.registers r) = λ r l has.
    record { fits_tag = record { of = has; fits = t.registers r l; none = λ e. (u e).registers r l }; range = f.ranges r l; of_version = vs r unknown (omega (arith, f.count_registers, l)) } in
    record {
      registers = are_registers device version root s.registers f.count_registers (λ r l. value_is r (omega (arith, l)) (of.registers r l))
          (record { most = of.rampz.most; value = λ has. value_is RAMPZ (omega arith) (of.rampz.tag has); lacking = of.rampz.lacking })
          (record { most = of.eind.most; value = λ has. value_is EIND (omega arith) (of.eind.tag has); lacking = of.eind.lacking });
      flags = record { bit_7 = f.bit_7; none = λ e. (u e).entry };
      carry_fits = c;
      count_slots = f.count_slots;
      slots = recursion_from_All (λ (x : Slot AbsByte). IsSlot device version root x) s.slots (λ i d l.
          let P : Slot AbsByte → Type 0 = λ x. IsSlot device version root x in
          subst P (get_or_default s.slots i Free d l) (slot_is device version root (slot_at s.slots i) (of.slots i l) (t.slots i l) (λ e. (u e).slots i l) (f.slot_ranges i l) (ts i Free l)));
      pairs = pairs;
    }

-- ---- the state's words

flags_take : ValueWords → (version : Version) (root : Bool) (ws : List (List ℕ)) (z : AbsFlags × List (List ℕ)) → flags_at version root ws ≡ Some z
    → (ws ≡ flags_word z.0.entry z.0.bits ∷ carry_word z.0.carry ∷ z.1) × AreFlags root z.0.entry z.0.bits × IsCarry version root z.0.carry
unfolding flags_at
flags_take v version root ws z e =
    let f = bind_some (word_by (flags_in root) ws) _ z e in
    let c = bind_some (word_by (carry_in version root) f.0.1) _ z f.2 in
    let wf = word_by_take (flags_in root) ws f.0 f.1 in
    let wc = word_by_take (carry_in version root) f.0.1 c.0 c.1 in
    let tf = v.spelled.flags root wf.0 f.0.0.0 f.0.0.1 wf.2 in
    let tc = v.spelled.carry version root wc.0 c.0.0 wc.2 in
    let P : AbsFlags × List (List ℕ) → Type 0 = λ y. (ws ≡ flags_word y.0.entry y.0.bits ∷ carry_word y.0.carry ∷ y.1) × AreFlags root y.0.entry y.0.bits × IsCarry version root y.0.carry in
    subst P (some_is {A = AbsFlags × List (List ℕ)} (record { entry = f.0.0.0; bits = f.0.0.1; carry = c.0.0 }, c.0.1) z c.2)
    (wf.1 ∙ ap₂ cons tf.0 (wc.1 ∙ ap (λ (w : List ℕ). w ∷ c.0.1) tc.0), tf.1, tc.1)

flags_again : ValueWords → (version : Version) (root : Bool) (f : AbsFlags) (rest : List (List ℕ)) → AreFlags root f.entry f.bits → IsCarry version root f.carry
    → flags_at version root (flags_word f.entry f.bits ∷ carry_word f.carry ∷ rest) ≡ Some (f, rest)
unfolding flags_at
flags_again v version root f rest h g = rw (v.read.flags root f.entry f.bits h, v.read.carry version root f.carry g) refl

pairs_take : FactsWords → (version : Version) (registers : List AbsByte) (ws : List (List ℕ)) (z : Option PairFacts × List (List ℕ)) → AreHulls (hulls_of registers) → pairs_at version registers ws ≡ Some z
    → (ws ≡ pairs_words version registers z.0 ++ z.1) × PairsFit version registers z.0
pairs_take p One registers ws z h e =
    let P : Option PairFacts × List (List ℕ) → Type 0 = λ y. (ws ≡ y.1) × (y.0 ≡ None) in
    subst P (some_is {A = Option PairFacts × List (List ℕ)} (None, ws) z e) (refl, refl)
pairs_take p Two registers ws z h e =
    let P : Option PairFacts × List (List ℕ) → Type 0 = λ y. (ws ≡ y.1) × (y.0 ≡ None) in
    subst P (some_is {A = Option PairFacts × List (List ℕ)} (None, ws) z e) (refl, refl)
pairs_take p Three registers ws z h e =
    let f = map_some (facts_at (hulls_of registers) ws) (λ f. (Some f.0, f.1)) z e in
    let P : Option PairFacts × List (List ℕ) → Type 0 = λ y. (ws ≡ pairs_words Three registers y.0 ++ y.1) × PairsFit Three registers y.0 in
    subst P f.2 (p.spelled (hulls_of registers) ws f.0.1 f.0.0 h f.1)

pairs_again : FactsWords → (version : Version) (registers : List AbsByte) (x : Option PairFacts) (rest : List (List ℕ)) → AreHulls (hulls_of registers) → PairsFit version registers x
    → pairs_at version registers (pairs_words version registers x ++ rest) ≡ Some (x, rest)
pairs_again p One registers x rest h fits = ap (λ (y : Option PairFacts). Some (y, rest)) (sym fits)
pairs_again p Two registers x rest h fits = ap (λ (y : Option PairFacts). Some (y, rest)) (sym fits)
pairs_again p Three registers None rest h fits = absurd fits
pairs_again p Three registers (Some f) rest h fits = rw (p.read (hulls_of registers) f rest h fits) refl

pairs_plain : FactsWords → (version : Version) (registers : List AbsByte) (x : Option PairFacts) → AreHulls (hulls_of registers) → PairsFit version registers x → AllByRecursion IsWord (pairs_words version registers x)
pairs_plain p One registers x h fits = tt
pairs_plain p Two registers x h fits = tt
pairs_plain p Three registers None h fits = tt
pairs_plain p Three registers (Some f) h fits = p.words (hulls_of registers) f h fits

-- values that fit have hulls
hulls_by : RangesFit → (device : Device) (version : Version) (root : Bool) (registers : List AbsByte) → AreRegisters device version root registers → AreHulls (hulls_of registers)
hulls_by g device version root registers h = are_hulls g registers (λ r l. (register_is registers r h l).range)

record StateRead (device : Device) (version : Version) (root : Bool) (offset : ℕ) (first : AbsByte) (ws : List (List ℕ)) (z : AbsState × List (List ℕ)) : Type 0 where
  pub words : value_word version first ∷ ws ≡ state_words device version z.0 ++ z.1
  pub parts : HasParts device version root offset z.0

state_take : RangesFit → FactsWords → ValueWords → (device : Device) (version : Version) (root : Bool) (offset : ℕ) (first : AbsByte) (ws : List (List ℕ)) (z : AbsState × List (List ℕ)) → IsValue device version root first
    → state_behind device version root offset first ws ≡ Some z → StateRead device version root offset first ws z
unfolding state_behind
state_take g w v device version root offset first ws z h e =
    let r = bind_some (registers_behind device version root first ws) _ z e in
    let f = bind_some (flags_at version root r.0.1) _ z r.2 in
    let p = bind_some (pairs_at version r.0.0 f.0.1) _ z f.2 in
    let s = bind_some (words_from (slot_in device version root) [] offset p.0.1) _ z p.2 in
    let rs = registers_take v device version root first ws r.0 h r.1 in
    let fs = flags_take v version root r.0.1 f.0 f.1 in
    let ss = words_take (slot_in device version root) (slot_word version) (λ x. IsSlot device version root x) (v.spelled.slot device version root) [] offset p.0.1 s.0 s.1 in
    let P : AbsState × List (List ℕ) → Type 0 = λ y. StateRead device version root offset first ws y in
    let S : List (Slot AbsByte) → Type 0 = λ xs. (length xs ≡ offset) × AllByRecursion (λ x. IsSlot device version root x) xs × (p.0.1 ≡ map (slot_word version) xs ++ s.0.1) in
    let b = subst S (sym ss.all) (ss.number, ss.fit, ss.words) in
    let ps = pairs_take w version r.0.0 f.0.1 p.0 (hulls_by g device version root r.0.0 rs.fit) p.1 in
    let values : List (List ℕ) = map (value_word version) (take (register_count device) r.0.0) in
    let known : List (List ℕ) = pairs_words version r.0.0 p.0.0 in
    let behind : f.0.1 ≡ (known ++ map (slot_word version) s.0.0) ++ s.0.1 = ps.0 ∙ ap (λ (xs : List (List ℕ)). known ++ xs) b.2 ∙ sym (append_assoc known (map (slot_word version) s.0.0) s.0.1) in
    subst P (some_is {A = AbsState × List (List ℕ)} (record { registers = r.0.0; flags = f.0.0; slots = s.0.0; facts = p.0.0 }, s.0.1) z s.2) (record {
      words = rs.words ∙ ap (λ (xs : List (List ℕ)). values ++ xs) (fs.0 ∙ ap (λ (xs : List (List ℕ)). flags_word f.0.0.entry f.0.0.bits ∷ carry_word f.0.0.carry ∷ xs) behind)
          ∙ sym (append_assoc values (flags_word f.0.0.entry f.0.0.bits ∷ carry_word f.0.0.carry ∷ (known ++ map (slot_word version) s.0.0)) s.0.1);
      parts = record { registers = rs.fit; flags = fs.1; carry_fits = fs.2; count_slots = b.0; slots = b.1; pairs = ps.1 };
    })

abbrev behind_registers : Version → List AbsByte → AbsFlags → Option PairFacts → List (Slot AbsByte) → List (List ℕ)
behind_registers version registers f x slots = flags_word f.entry f.bits ∷ carry_word f.carry ∷ (pairs_words version registers x ++ map (slot_word version) slots)

state_again : RangesFit → FactsWords → ValueWords → (device : Device) (version : Version) (root : Bool) (offset : ℕ) (first : AbsByte) (more : List (List ℕ)) (registers : List AbsByte) (f : AbsFlags) (slots : List (Slot AbsByte)) (x : Option PairFacts)
    → HasParts device version root offset (record { registers = registers; flags = f; slots = slots; facts = x })
    → registers_behind device version root first more ≡ Some (registers, behind_registers version registers f x slots)
    → state_behind device version root offset first more ≡ Some (record { registers = registers; flags = f; slots = slots; facts = x }, [])
unfolding state_behind
state_again g w v device version root offset first more registers f slots x h rs =
    let fs = flags_again v version root f (pairs_words version registers x ++ map (slot_word version) slots) h.flags h.carry_fits in
    let ps = pairs_again w version registers x (map (slot_word version) slots) (hulls_by g device version root registers h.registers) h.pairs in
    let ss : words_from (slot_in device version root) [] offset (map (slot_word version) slots) ≡ Some (slots, []) =
    ap (words_from (slot_in device version root) [] offset) (sym (append-nil (map (slot_word version) slots)))
    ∙ words_again (slot_in device version root) (slot_word version) (λ x. IsSlot device version root x) (v.read.slot device version root) [] slots offset [] h.slots h.count_slots in
    rw (rs, fs, ps, ss) refl

state_plain : RangesFit → FactsWords → ValueWords → (device : Device) (version : Version) (root : Bool) (offset : ℕ) (s : AbsState) → HasParts device version root offset s → AllByRecursion IsWord (state_words device version s)
state_plain g w v device version root offset s h =
    joined_words (map (value_word version) (take (register_count device) s.registers)) (behind_registers version s.registers s.flags s.facts s.slots)
    (registers_plain v device version root s.registers h.registers) (
      v.words.flags s.flags.entry s.flags.bits,
      (
        v.words.carry version root s.flags.carry h.carry_fits,
        joined_words (pairs_words version s.registers s.facts) (map (slot_word version) s.slots)
            (pairs_plain w version s.registers s.facts (hulls_by g device version root s.registers h.registers) h.pairs)
            (words_plain (slot_word version) (λ x. IsSlot device version root x) (v.words.slot device version root) s.slots h.slots),
      ),
    )

-- ---- states of nodes

root_kind : (kd : Kind) → kd ≡ Root → is_root kd ≡ true
root_kind Root e = refl
root_kind Call e = cc
root_kind (Vector v) e = cc

kind_root : (kd : Kind) → is_root kd ≡ true → kd ≡ Root
kind_root Root e = refl
kind_root Call e = cc
kind_root (Vector v) e = cc

node_kept : RangesFit → (device : Device) (version : Version) (key : NodeKey) (s : AbsState) → IsKey device key → HasParts device version (is_root key.inst.kind) (offset_of key.sp) s → IsNodeIn device (is_third version) key s
node_kept g device version key s h parts = record {
  word = h.word;
  small = h.small;
  masks = h.masks;
  fits = h.fits;
  pick = h.pick;
  formed = formed_by g device version (is_root key.inst.kind) (offset_of key.sp) s parts;
  tags = tags_by g device version (is_root key.inst.kind) (offset_of key.sp) s parts;
  carry_bytes = parts.carry_fits.bytes;
  untagged = λ e. let P : Bool → Type 0 = λ r. HasParts device version r (offset_of key.sp) s in untagged_by g device version (offset_of key.sp) s (subst P (root_kind key.inst.kind e) parts);
  registers_of = of_device_by device version (is_root key.inst.kind) (offset_of key.sp) s parts;
  mode = pairs_mode version s.registers s.facts parts.pairs;
  hulls = pairs_inside version s.registers s.facts parts.pairs;
}

node_parts : (device : Device) (version : Version) (key : NodeKey) (s : AbsState) → IsNodeIn device (is_third version) key s → StateIsOf version s → HasParts device version (is_root key.inst.kind) (offset_of key.sp) s
node_parts device version key s h o =
    let untagged : is_root key.inst.kind ≡ true → IsUntagged s = λ e. h.untagged (kind_root key.inst.kind e) in
    parts_by device version (is_root key.inst.kind) (offset_of key.sp) s h.formed h.tags h.registers_of
    (record { bytes = h.carry_bytes; names = h.formed.carry; untagged = λ e. (untagged e).carry; of_version = o.carry_tag }) untagged (pairs_fit version s.registers s.facts h.formed.facts h.mode h.hulls) o

-- ---- where a state comes from

-- a value's word is longer than `from`
tag_some : (t : Tag) → 1 ≤ length (tag_text t)
tag_some tag.None = omega arith
tag_some (tag.Entry r) = omega (arith, length_hex r 2)
tag_some tag.EntryFlags = omega arith
tag_some (tag.SpLo j) = omega (arith, length_hex j 2)
tag_some (tag.SpHi k) = omega (arith, length_hex k 4)

value_long : (version : Version) (v : AbsByte) → 5 ≤ length (value_word version v)
value_long version v =
    let all = length-append (tag_text v.tag) (bits_text v.bits ++ range_text version v) in
    let behind = length-append (bits_text v.bits) (range_text version v) in
    let bits = length-append (hex_digits v.bits.known 2) (hex_digits v.bits.value 2) in
    omega (arith, all, behind, bits, length_hex v.bits.known 2, length_hex v.bits.value 2, tag_some v.tag)

no_from_by : (version : Version) (v : AbsByte) (t : Bool) → bytes_eq (value_word version v) (codes "from") ≡ t → t ≡ false
no_from_by version v false e = refl
no_from_by version v true e = absurd (omega (arith, value_long version v, ap length ((bytes_eq-Decides (value_word version v) (codes "from")).0 e)))

no_from : (version : Version) (v : AbsByte) → bytes_eq (value_word version v) (codes "from") ≡ false
no_from version v = no_from_by version v (bytes_eq (value_word version v) (codes "from")) refl

-- ---- the form

record FormRead (device : Device) (version : Version) (at : ℕ) (key : NodeKey) (ws : List (List ℕ)) (z : NodeForm × List (List ℕ)) : Type 0 where
  pub words : ws ≡ form_words device version z.0 ++ z.1
  pub fits : FitsAt device (is_third version) at key z.0
  pub of_version : FormIsOf version z.0

from_take : WordLaws → (device : Device) (version : Version) (at : ℕ) (key : NodeKey) (w : List ℕ) (ws : List (List ℕ)) (z : NodeForm × List (List ℕ)) → IsKey device key → w ≡ codes "from" → from_behind at ws ≡ Some z → FormRead device version at key (w ∷ ws) z
unfolding from_behind
from_take k device version at key w ws z h is e =
    let m = bind_some (dec_at 65535 ws) _ z e in
    let last = cond_some {A = NodeForm × List (List ℕ)} (nat_lt m.0.0 at) (From m.0.0, m.0.1) z m.2 in
    let t = dec_take k 65535 ws m.0 (lit< tt) m.1 in
    let low : m.0.0 < at = grind (arith, nat_tests, last.0) in
    let P : NodeForm × List (List ℕ) → Type 0 = λ y. FormRead device version at key (w ∷ ws) y in
    subst P last.1 (record { words = ap₂ cons is t.0; fits = (h, low); of_version = tt })

form_state : RangesFit → FactsWords → ValueWords → (device : Device) (version : Version) (at : ℕ) (key : NodeKey) (w : List ℕ) (ws : List (List ℕ)) (z : NodeForm × List (List ℕ)) → IsKey device key
    → (value_in device version (is_root key.inst.kind) w >>= λ v. by_state (state_behind device version (is_root key.inst.kind) (offset_of key.sp) v ws)) ≡ Some z → FormRead device version at key (w ∷ ws) z
form_state g p v device version at key w ws z h e =
    let first = bind_some (value_in device version (is_root key.inst.kind) w) _ z e in
    let s = map_some (state_behind device version (is_root key.inst.kind) (offset_of key.sp) first.0 ws) (λ s. (State s.0, s.1)) z first.2 in
    let word = v.spelled.value device version (is_root key.inst.kind) w first.0 first.1 in
    let t = state_take g p v device version (is_root key.inst.kind) (offset_of key.sp) first.0 ws s.0 word.1 s.1 in
    let P : NodeForm × List (List ℕ) → Type 0 = λ y. FormRead device version at key (w ∷ ws) y in
    subst P s.2 (record {
      words = ap (λ (x : List ℕ). x ∷ ws) word.0 ∙ t.words;
      fits = node_kept g device version key s.0.0 h t.parts;
      of_version = of_version_by g device version (is_root key.inst.kind) (offset_of key.sp) s.0.0 t.parts;
    })

form_take : WordLaws → RangesFit → FactsWords → ValueWords → (device : Device) (version : Version) (at : ℕ) (key : NodeKey) (ws : List (List ℕ)) (z : NodeForm × List (List ℕ)) → IsKey device key → form_at device version (is_root key.inst.kind) (offset_of key.sp) at ws ≡ Some z → FormRead device version at key ws z
unfolding form_at
form_take k r p v device version at key [] z h e = absurd (none-some z e)
form_take k r p v device version at key (w ∷ ws) z h e = elim (chosen (bytes_eq w (codes "from")) _ _ (Some z) e) [
  | inl g ↦ from_take k device version at key w ws z h ((bytes_eq-Decides w (codes "from")).0 g.0) g.1
  | inr g ↦ form_state r p v device version at key w ws z h g.1
]

form_spelled : WordLaws → RangesFit → FactsWords → ValueWords → (device : Device) (version : Version) (at : ℕ) (key : NodeKey) (ws rest : List (List ℕ)) (form : NodeForm) → IsKey device key
    → form_at device version (is_root key.inst.kind) (offset_of key.sp) at ws ≡ Some (form, rest) → (ws ≡ form_words device version form ++ rest) × FitsAt device (is_third version) at key form × FormIsOf version form
form_spelled k r p v device version at key ws rest form h e = let t = form_take k r p v device version at key ws (form, rest) h e in (t.words, t.fits, t.of_version)

first_read : (device : Device) (version : Version) (root : Bool) (offset at : ℕ) (ws more : List (List ℕ)) (first : AbsByte) (s : AbsState) → ws ≡ value_word version first ∷ more
    → value_in device version root (value_word version first) ≡ Some first → state_behind device version root offset first more ≡ Some (s, []) → form_at device version root offset at ws ≡ Some (State s, [])
unfolding form_at
first_read device version root offset at ws more first s is word behind = ap (form_at device version root offset at) is ∙ rw (no_from version first, word, behind) refl

state_form : RangesFit → FactsWords → ValueWords → (device : Device) (version : Version) (root : Bool) (offset at : ℕ) (s : AbsState) → HasParts device version root offset s
    → form_at device version root offset at (state_words device version s) ≡ Some (State s, [])
state_form g p v device version root offset at s h =
    let all = are_read v device version root s.registers (behind_registers version s.registers s.flags s.facts s.slots) h.registers in
    first_read device version root offset at (state_words device version s) all.more all.first s all.words (v.read.value device version root all.first all.fits)
    (state_again g p v device version root offset all.first all.more s.registers s.flags s.slots s.facts h all.read)

form_again : WordLaws → RangesFit → FactsWords → ValueWords → (device : Device) (version : Version) (at : ℕ) (key : NodeKey) (form : NodeForm) → at ≤ 65536 → FitsAt device (is_third version) at key form → FormIsOf version form
    → form_at device version (is_root key.inst.kind) (offset_of key.sp) at (form_words device version form) ≡ Some (form, [])
unfolding form_at from_behind
form_again k r p v device version at key (State s) few h o =
    state_form r p v device version (is_root key.inst.kind) (offset_of key.sp) at s (node_parts device version key s h o)
form_again k r p v device version at key (From m) few h o =
    let d = k.dec_taken 65535 m [] (lit< tt) (omega (arith, few, h.1)) in
    let low : nat_lt m at ≡ true = grind (arith, nat_tests, h.1) in
    rw (d, low) refl

form_plain : WordLaws → RangesFit → FactsWords → ValueWords → (device : Device) (version : Version) (at : ℕ) (key : NodeKey) (form : NodeForm) → at ≤ 65536 → FitsAt device (is_third version) at key form → FormIsOf version form → AllByRecursion IsWord (form_words device version form)
form_plain k r p v device version at key (State s) few h o = state_plain r p v device version (is_root key.inst.kind) (offset_of key.sp) s (node_parts device version key s h o)
form_plain k r p v device version at key (From m) few h o = (((refl, (refl, (refl, (refl, tt)))), (refl, (refl, (refl, (refl, tt))))), (k.dec_word m (omega (arith, few, h.1)), tt))

pub forms : WordLaws → RangesFit → FactsWords → ValueWords → FormWords
forms k r p v = record { spelled = form_spelled k r p v; read = form_again k r p v; words = form_plain k r p v }
