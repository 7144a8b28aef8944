-- All successors of a node are states of the device: tags, RAMPZ and EIND are those that it has.
use Rattle.std.proofs.Common.{◌≡◌, refl, sym, ap, ◌∙◌, subst, ℕ, ◌+◌, ◌<◌, ◌≤◌, ◌||◌, nat_lt, nat_le, not, Bool, true, false, [], Option, Some, None, if◌then◌else◌, arith, ltb-true}
use Rattle.avr_model.specs.declared.device.Device.{Device}
use Rattle.avr_model.specs.declared.instruction.Instr.{Instr}
use Rattle.avr_model.specs.declared.instruction.Instr.TheVariants as i
use Rattle.avr_model.specs.declared.instruction.BinaryOp.TheVariants as binary
use Rattle.avr_model.specs.declared.instruction.Pointer.{Pointer}
use Rattle.avr_model.specs.Devices.{Image, words_of, wrapped, device_of, has_sph, has_elpm}
use Rattle.avr_model.specs.Image.{word_at}
use Rattle.avr_model.specs.Marks.{marks}
use Rattle.avr_model.specs.Sites.{is_scratch, is_lacking, on_device, instruction_at, pointer_register}
use Rattle.avr_model.specs.State.{RAMPZ, EIND, bank_most}
use Rattle.avr_model.specs.Table.{length_of, decoded}
use Rattle.avr_model.specs.Text.{near}
use Rattle.avr_model.specs.Written.{written}
use Rattle.bit_domain.specs.Ranges.{most_of}
use Rattle.sp_domain.specs.declared.tags.Tag.{Tag}
use Rattle.sp_domain.specs.declared.tags.Tag.TheVariants as tag
use Rattle.pair_domain.specs.declared.facts.PairFacts.{PairFacts}
use Rattle.abs_state.specs.declared.values.AbsByte.{AbsByte}
use Rattle.abs_state.specs.declared.state.AbsState.{AbsState}
use Rattle.abs_state.specs.Banks.{is_tag_of, names_of, absent, IsBankIn, IsStateOf}
use Rattle.abs_state.specs.Formed.{IsFormed, CarryNamesRegister}
use Rattle.abs_state.specs.Values.{value_at, known, valued, set_of}
use Rattle.abs_state.proofs.AllLaws.{states_are_ordered}
use Rattle.pair_cuts.specs.Cuts.{flag_cut, bit_cut, equal_cut}
use Rattle.pair_rules.specs.Fits.{HasRegisters}
use Rattle.pair_rules.specs.Refined.{refined}
use Rattle.pair_laws.specs.CutLaws.{IsLeftOf}
use Rattle.pair_laws.proofs.AllLaws.{refined_is_ordered, flags_are_cut, bits_are_cut, equals_are_cut}
use Rattle.node_keys.specs.declared.keys.InstKey.{InstKey}
use Rattle.node_keys.specs.declared.keys.NodeKey.{NodeKey}
use Rattle.node_keys.specs.Keys.{offset_of, is_root as is_root_kind}
use Rattle.local_rules.specs.Cover.{IsNodeIn}
use Rattle.local_rules.specs.Flow.{going_where}
use Rattle.local_rules.specs.HighBytes.{SpView, view_by}
use Rattle.local_rules.specs.Local.{step_before, pointer_moved, plain_row, paired_row, row_of, row_by, row_at, row_in, refining, refined_if, storing, paired_store, fetched, raw}
use Rattle.local_rules.specs.Permitted.{may_be}
use Rattle.local_rules.specs.Raw.{Raw, further, next}
use Rattle.local_rules.specs.Registers.{value, before}
use Rattle.local_rules.specs.Settling.{settled_by, settled_value, settled_state}
use Rattle.local_rules.specs.Site.{Task, site_at}
use Rattle.local_laws.proofs.Banks.{AreSlotsOf, IsOf, of_state, to_state, pointer_of}
use Rattle.local_laws.proofs.BankRows.{IsSupported, row_of_device, pointer_named}
use Rattle.local_laws.proofs.Bare.{IsBare, bare}
use Rattle.local_laws.proofs.EachState.{AllOf, each_none, each_both, each_where}
use Rattle.local_laws.proofs.LeftNodes.{from_left}
use Rattle.local_laws.proofs.KeptRaw.{raw_have}
use Rattle.local_laws.proofs.Less.{forgotten_is}
use Rattle.local_laws.proofs.MonotoneFields.{InstrFits, fetched_fits}
use Rattle.local_laws.proofs.MonotoneSplits.{fetched_has}
use Rattle.local_laws.proofs.PairedMonotone.{from_refined, moved_bare}
use Rattle.local_laws.proofs.PairedStep.{IsStored, stored_same}
use Rattle.local_laws.proofs.SettledMonotone.{zero_most, plain_less, settled_bare}
use Rattle.local_laws.proofs.SettledValues.{settled_in, is_settled}

-- ---- a settled value

-- it stays, or it had the tag of a high byte and is 0 or has no tag
data IsSettledTo (view : SpView) (v w : AbsByte) : Type 0 where
  stays_high : view.high ≡ true → w ≡ v → IsSettledTo view v w
  stays_low : ((k : ℕ) → v.tag ≡ tag.SpHi k → ⊥) → w ≡ v → IsSettledTo view v w
  is_zero : (k : ℕ) → v.tag ≡ tag.SpHi k → w ≡ known 0 → IsSettledTo view v w
  is_free : (k : ℕ) → v.tag ≡ tag.SpHi k → w ≡ valued tag.None (set_of v) → IsSettledTo view v w

some_is : (v w : AbsByte) → Some v ≡ Some w → w ≡ v
some_is v w e = let is : v ≡ w = cc in sym is

high_to : (view : SpView) (k : ℕ) (v w : AbsByte) → v.tag ≡ tag.SpHi k → (near may : Bool)
    → (if near then (if may then Some (known 0) else None) else Some (valued tag.None (set_of v))) ≡ Some w → IsSettledTo view v w
high_to view k v w is true true e = is_zero k is (some_is (known 0) w e)
high_to view k v w is true false e = absurd (cc)
high_to view k v w is false may e = is_free k is (some_is (valued tag.None (set_of v)) w e)

tag_to : (view : SpView) (v w : AbsByte) (t : Tag) → v.tag ≡ t → settled_by view.offset t v ≡ Some w → IsSettledTo view v w
tag_to view v w tag.None is e = stays_low (λ k h. let no : tag.None ≡ tag.SpHi k = sym is ∙ h in cc) (some_is v w e)
tag_to view v w (tag.Entry r) is e = stays_low (λ k h. let no : tag.Entry r ≡ tag.SpHi k = sym is ∙ h in cc) (some_is v w e)
tag_to view v w tag.EntryFlags is e = stays_low (λ k h. let no : tag.EntryFlags ≡ tag.SpHi k = sym is ∙ h in cc) (some_is v w e)
tag_to view v w (tag.SpLo j) is e = stays_low (λ k h. let no : tag.SpLo j ≡ tag.SpHi k = sym is ∙ h in cc) (some_is v w e)
tag_to view v w (tag.SpHi k) is e = high_to view k v w is (nat_le k view.offset) (may_be v 0) e

settled_to : (view : SpView) (v w : AbsByte) → settled_in view v ≡ Some w → IsSettledTo view v w
settled_to view v w e = by view.high refl e
  where
    by : (has_high : Bool) → view.high ≡ has_high → (if has_high then Some v else settled_value view.offset v) ≡ Some w → IsSettledTo view v w
    by true is e = stays_high is (some_is v w e)
    by false is e = tag_to view v w v.tag refl e

-- ---- tags of the device

with_high : (device : Device) (t : Tag) → has_sph device ≡ true → names_of device t ≡ true → is_tag_of device t ≡ true
with_high device tag.None has e = refl
with_high device (tag.Entry r) has e = e
with_high device tag.EntryFlags has e = refl
with_high device (tag.SpLo j) has e = refl
with_high device (tag.SpHi k) has e = has

without_high : (device : Device) (t : Tag) → ((k : ℕ) → t ≡ tag.SpHi k → ⊥) → names_of device t ≡ true → is_tag_of device t ≡ true
without_high device tag.None low e = refl
without_high device (tag.Entry r) low e = e
without_high device tag.EntryFlags low e = refl
without_high device (tag.SpLo j) low e = refl
without_high device (tag.SpHi k) low e = absurd (low k refl)

-- without its register, RAMPZ or EIND has no tag of a high byte
absent_low : (is_root : Bool) (r k : ℕ) → (absent is_root r).tag ≡ tag.SpHi k → ⊥
absent_low true r k e = cc
absent_low false r k e = cc

module _ (device : Device) (is_root : Bool) (k : NodeKey) where
  abbrev view : SpView
  view = view_by device k

  tag_settled : (v w : AbsByte) → IsSettledTo view v w → names_of device v.tag ≡ true → is_tag_of device w.tag ≡ true
  tag_settled v w (stays_high has is) e = ap (λ (x : AbsByte). is_tag_of device x.tag) is ∙ with_high device v.tag has e
  tag_settled v w (stays_low low is) e = ap (λ (x : AbsByte). is_tag_of device x.tag) is ∙ without_high device v.tag low e
  tag_settled v w (is_zero j high is) e = ap (λ (x : AbsByte). is_tag_of device x.tag) is
  tag_settled v w (is_free j high is) e = ap (λ (x : AbsByte). is_tag_of device x.tag) is

  bits_settled : (r : ℕ) (v w : AbsByte) → IsSettledTo view v w → most_of v.bits ≤ bank_most device r → most_of w.bits ≤ bank_most device r
  bits_settled r v w (stays_high has is) le = subst (λ (x : AbsByte). most_of x.bits ≤ bank_most device r) (sym is) le
  bits_settled r v w (stays_low low is) le = subst (λ (x : AbsByte). most_of x.bits ≤ bank_most device r) (sym is) le
  bits_settled r v w (is_zero j high is) le = subst (λ (x : AbsByte). most_of x.bits ≤ bank_most device r) (sym is) (omega (arith, zero_most))
  bits_settled r v w (is_free j high is) le = subst (λ (x : AbsByte). most_of x.bits ≤ bank_most device r) (sym is) le

  absent_settled : (r : ℕ) (v w : AbsByte) → IsSettledTo view v w → v ≡ absent is_root r → w ≡ absent is_root r
  absent_settled r v w (stays_high has is) e = is ∙ e
  absent_settled r v w (stays_low low is) e = is ∙ e
  absent_settled r v w (is_zero j high is) e = absurd (absent_low is_root r j (sym (ap (λ (x : AbsByte). x.tag) e) ∙ high))
  absent_settled r v w (is_free j high is) e = absurd (absent_low is_root r j (sym (ap (λ (x : AbsByte). x.tag) e) ∙ high))

  bank_settled : (r : ℕ) (v w : AbsByte) → IsSettledTo view v w → IsBankIn (names_of device) device is_root r v → IsBankIn (is_tag_of device) device is_root r w
  bank_settled r v w to h =
      record { most = bits_settled r v w to h.most; tag = λ there. tag_settled v w to (h.tag there); lacking = λ lacks. absent_settled r v w to (h.lacking lacks) }

  pub state_settled_of : (s u : AbsState) → settled_state view s ≡ Some u → IsOf (names_of device) device is_root s → IsOf (is_tag_of device) device is_root u
  state_settled_of s u e h =
      let settled = is_settled view s u e in
      let to = λ (r : ℕ). settled_to view (value_at s.registers r) (value_at u.registers r) (settled.each r) in
      record {
        registers = record {
          count = settled.count ∙ h.registers.count;
          tags = λ r lt. tag_settled (value_at s.registers r) (value_at u.registers r) (to r) (h.registers.tags r lt);
          rampz = bank_settled RAMPZ (value_at s.registers RAMPZ) (value_at u.registers RAMPZ) (to RAMPZ) h.registers.rampz;
          eind = bank_settled EIND (value_at s.registers EIND) (value_at u.registers EIND) (to EIND) h.registers.eind;
        };
        slots = subst (AreSlotsOf device) (sym settled.slots) h.slots;
      }

-- ---- the instruction is one of the device

not_lacking : (b rest : Bool) → not b || rest ≡ false → b ≡ true
not_lacking true rest e = refl
not_lacking false rest e = absurd (cc)

supported_at : (image : Image) (instr : Instr) (x : Option Instr) → on_device (device_of image) x ≡ Some instr → IsSupported (device_of image) instr
supported_at image instr None e = absurd (cc)
supported_at image instr (Some y) e = by (is_lacking (device_of image) y) refl e
  where
    there : (z : Instr) → is_lacking (device_of image) z ≡ false → IsSupported (device_of image) z
    there (i.ElpmZPlus d) none = not_lacking (has_elpm (device_of image)) _ none
    there z none = tt

    by : (b : Bool) → is_lacking (device_of image) y ≡ b → (if b then None else Some y) ≡ Some instr → IsSupported (device_of image) instr
    by true is e = absurd (cc)
    by false is e = let same : y ≡ instr = cc in subst (IsSupported (device_of image)) same (there y is)

fetched_supported : (image : Image) (pc : ℕ) (instr : Instr) → fetched (device_of image) image pc ≡ Some instr → IsSupported (device_of image) instr
fetched_supported image pc instr e = by (nat_lt pc (words_of (device_of image))) e
  where
    by : (inside : Bool) → (if inside then instruction_at image pc else None) ≡ Some instr → IsSupported (device_of image) instr
    by true same = supported_at image instr (decoded (word_at image pc) (word_at image (pc + 1))) same
    by false same = absurd (cc)

-- ---- rows

module _ {followed : Bool} (device : Device) (task : Task) (scratch : Bool) (k : NodeKey) (s : AbsState) (h : IsNodeIn device followed k s) where
  abbrev root : Bool
  root = is_root_kind k.inst.kind

  abbrev P : AbsState → Type 0
  P u = IsStateOf device (is_root_kind k.inst.kind) u

  abbrev All : Raw → Type 0
  All r = AllOf (IsStateOf device (is_root_kind k.inst.kind)) r

  low : IsBare device k s
  low = bare k s h

  here : IsOf (is_tag_of device) device root s
  here = of_state device root s h.formed.count_registers h.registers_of

  ended : (instr : Instr) → IsOf (is_tag_of device) device root (before instr s)
  ended instr = record { registers = here.registers; slots = here.slots }

  carries : (instr : Instr) → CarryNamesRegister (before instr s).flags.carry
  carries instr = forgotten_is CarryNamesRegister (written instr) s.flags.carry h.formed.carry tt

  plain_of : (instr : Instr) → InstrFits instr → HasRegisters instr → IsSupported device instr → All (plain_row task scratch (site_at device k s) instr)
  plain_of instr fits has supported to j =
      let left = from_left (settled_state (view_by device k)) (row_of task scratch (site_at device k (before instr s)) instr).moves to j in
      to_state device root to.state
      (state_settled_of device root k left.to.state to.state left.left
      (row_of_device device root task scratch k (before instr s) (ended instr) (carries instr) instr fits has supported left.to left.member))

  -- ---- where pairs are followed

  refining_of : (instr : Instr) → InstrFits instr → HasRegisters instr → IsSupported device instr → (plain_row task scratch (site_at device k s) instr).faults ≡ []
      → All (refining task.flash instr s (plain_row task scratch (site_at device k s) instr))
  refining_of instr fits has supported clean x j =
      let row : Raw = plain_row task scratch (site_at device k s) instr in
      let of = from_refined task.flash instr s row.moves row.moves (λ n m. m) x j in
      let met = (plain_less device task k s s low low (states_are_ordered.same s) scratch instr fits clean).moves of.to of.member in
      refined_is_ordered.of (is_tag_of device) device root (marks task.flash) task.flash instr (offset_of k.sp) (offset_of of.to.key.sp) s of.to.state x.state refl has h.formed met.node.formed
      (plain_of instr fits has supported of.to of.member) of.left

  left_of : (u : AbsState) → IsLeftOf s u (offset_of k.sp) → P u
  left_of u left = left.of (is_tag_of device) device root h.registers_of

  flag_of : (n : ℕ) (b : Bool) → n < 7 → (pc : ℕ) → All (going_where k (flag_cut n b s) pc)
  flag_of n b lt pc = each_where P k (flag_cut n b s) pc (λ u e. left_of u (flags_are_cut.leaves n b lt s u (offset_of k.sp) h.formed e))

  bit_of : (r b : ℕ) (on : Bool) → r < 32 → b < 8 → (pc : ℕ) → All (going_where k (bit_cut r b on s) pc)
  bit_of r b on lt lt' pc = each_where P k (bit_cut r b on s) pc (λ u e. left_of u (bits_are_cut.leaves r b on lt lt' s u (offset_of k.sp) h.formed e))

  equal_of : (d r : ℕ) (b : Bool) → d < 32 → r < 32 → (pc : ℕ) → All (going_where k (equal_cut d r b s) pc)
  equal_of d r b lt lt' pc = each_where P k (equal_cut d r b s) pc (λ u e. left_of u (equals_are_cut.leaves d r b lt lt' s u (offset_of k.sp) h.formed e))

  abbrev past : ℕ
  past = further device k (1 + length_of (word_at task.flash (k.pc + 1)))

  branch_of : (n : ℕ) (small : Bool) (p q : Raw) → nat_lt n 7 ≡ small → (n < 7 → All p) → All q → All (if small then p else q)
  branch_of n true p q e cut all = cut (ltb-true n 7 e)
  branch_of n false p q e cut all = all

  module _ (f : PairFacts) (known : s.facts ≡ Some f) where
    stored_of : (instr : Instr) → IsStored instr → InstrFits instr → HasRegisters instr → IsSupported device instr → All (refining task.flash instr s (plain_row task scratch (site_at device k s) instr))
    stored_of instr is fits has supported =
        subst All (sym (stored_same task.flash s f instr is known (plain_row task scratch (site_at device k s) instr))) (plain_of instr fits has supported)

    -- ---- a store through a pointer that moves

    module _ (p : Pointer) (r : ℕ) (lt : r < 32) where
      abbrev instr : Instr
      instr = i.St p r

      abbrev moved : AbsState
      moved = record (before instr s) { registers = pointer_moved (view_by device k) p s }

      moved_of : IsOf (names_of device) device root moved
      moved_of = record { registers = pointer_named device root k s here (view_by device k) p; slots = here.slots }

      moved_node : IsBare device k moved
      moved_node = moved_bare device task k s s low low (states_are_ordered.same s) h.hulls f f known known p r s low

      storing_of : (u : AbsState) → IsFormed u (offset_of k.sp) → P u → All (storing task (site_at device k s) p r (Some u))
      storing_of u formed is to j =
          to_state device root to.state
          (pointer_of (is_tag_of device) refl device root task s (pointer_register p) (step_before p) k.pc (next device k) u (value s r)
          (of_state device root u formed.count_registers is) (h.registers_of.registers r lt) to j)

      refined_of : (v : AbsState) → settled_state (view_by device k) moved ≡ Some v → (x : Option AbsState) → refined (marks task.flash) task.flash instr s v ≡ x
          → All (storing task (site_at device k s) p r x)
      refined_of v e None is = each_none P
      refined_of v e (Some u) is =
          let node = settled_bare k (view_by device k) moved v moved_node e in
          let was = to_state device root v (state_settled_of device root k moved v e moved_of) in
          storing_of u (refined_is_ordered.formed (marks task.flash) task.flash instr (offset_of k.sp) (offset_of k.sp) s v u tt h.formed node.formed is)
          (refined_is_ordered.of (is_tag_of device) device root (marks task.flash) task.flash instr (offset_of k.sp) (offset_of k.sp) s v u refl tt h.formed node.formed was is)

      store_of : All (paired_store task (site_at device k s) p r)
      store_of = by (settled_state (view_by device k) moved) refl
        where
          by : (x : Option AbsState) → settled_state (view_by device k) moved ≡ x → All (storing task (site_at device k s) p r (refined_if task instr s x))
          by None e = each_none P
          by (Some v) e = refined_of v e (refined (marks task.flash) task.flash instr s v) refl

    -- ---- all rows

    pub paired_of : (instr : Instr) → InstrFits instr → HasRegisters instr → IsSupported device instr → (paired_row task scratch (site_at device k s) instr).faults ≡ []
        → All (paired_row task scratch (site_at device k s) instr)
    paired_of (i.Brbs n t) fits has supported clean =
        branch_of n (nat_lt n 7) _ _ refl
        (λ lt. each_both P (going_where k (flag_cut n false s) (further device k 1)) (going_where k (flag_cut n true s) (wrapped device (near k.pc t)))
        (flag_of n false lt (further device k 1)) (flag_of n true lt (wrapped device (near k.pc t)))) (plain_of (i.Brbs n t) fits has supported)
    paired_of (i.Brbc n t) fits has supported clean =
        branch_of n (nat_lt n 7) _ _ refl
        (λ lt. each_both P (going_where k (flag_cut n false s) (wrapped device (near k.pc t))) (going_where k (flag_cut n true s) (further device k 1))
        (flag_of n false lt (wrapped device (near k.pc t))) (flag_of n true lt (further device k 1))) (plain_of (i.Brbc n t) fits has supported)
    paired_of (i.Sbrc r b) fits has supported clean =
        each_both P (going_where k (bit_cut r b true s) (further device k 1)) (going_where k (bit_cut r b false s) past) (bit_of r b true fits.0 fits.1 (further device k 1))
        (bit_of r b false fits.0 fits.1 past)
    paired_of (i.Sbrs r b) fits has supported clean =
        each_both P (going_where k (bit_cut r b false s) (further device k 1)) (going_where k (bit_cut r b true s) past) (bit_of r b false fits.0 fits.1 (further device k 1))
        (bit_of r b true fits.0 fits.1 past)
    paired_of (i.Binary binary.Cpse d r) fits has supported clean =
        each_both P (going_where k (equal_cut d r false s) (further device k 1)) (going_where k (equal_cut d r true s) past) (equal_of d r false has.0 has.1 (further device k 1))
        (equal_of d r true has.0 has.1 past)
    paired_of (i.Binary binary.Cpc d r) fits has supported clean = refining_of (i.Binary binary.Cpc d r) fits has supported clean
    paired_of (i.Binary binary.Sbc d r) fits has supported clean = refining_of (i.Binary binary.Sbc d r) fits has supported clean
    paired_of (i.Binary binary.Add d r) fits has supported clean = refining_of (i.Binary binary.Add d r) fits has supported clean
    paired_of (i.Binary binary.Cp d r) fits has supported clean = refining_of (i.Binary binary.Cp d r) fits has supported clean
    paired_of (i.Binary binary.Sub d r) fits has supported clean = refining_of (i.Binary binary.Sub d r) fits has supported clean
    paired_of (i.Binary binary.Adc d r) fits has supported clean = refining_of (i.Binary binary.Adc d r) fits has supported clean
    paired_of (i.Binary binary.And d r) fits has supported clean = refining_of (i.Binary binary.And d r) fits has supported clean
    paired_of (i.Binary binary.Eor d r) fits has supported clean = refining_of (i.Binary binary.Eor d r) fits has supported clean
    paired_of (i.Binary binary.Or d r) fits has supported clean = refining_of (i.Binary binary.Or d r) fits has supported clean
    paired_of (i.Binary binary.Mov d r) fits has supported clean = refining_of (i.Binary binary.Mov d r) fits has supported clean
    paired_of (i.Binary binary.Mul d r) fits has supported clean = refining_of (i.Binary binary.Mul d r) fits has supported clean
    paired_of (i.St p r) fits has supported clean = store_of p r fits
    paired_of instr fits has supported clean = refining_of instr fits has supported clean

  -- ---- the node

  by_of : (instr : Instr) → InstrFits instr → HasRegisters instr → IsSupported device instr → (f : Option PairFacts) → s.facts ≡ f
      → (row_by f task scratch (site_at device k s) instr).faults ≡ [] → All (row_by f task scratch (site_at device k s) instr)
  by_of instr fits has supported None e clean = plain_of instr fits has supported
  by_of instr fits has supported (Some f) e clean = paired_of f e instr fits has supported clean

  at_of : (x : Option Instr) → ((instr : Instr) → x ≡ Some instr → InstrFits instr) → ((instr : Instr) → x ≡ Some instr → HasRegisters instr)
      → ((instr : Instr) → x ≡ Some instr → IsSupported device instr) → (row_at task scratch (site_at device k s) x).faults ≡ [] → All (row_at task scratch (site_at device k s) x)
  at_of None fits has supported clean = each_none P
  at_of (Some instr) fits has supported clean = by_of instr (fits instr refl) (has instr refl) (supported instr refl) s.facts refl clean

in_of : {followed : Bool} (task : Task) (k : NodeKey) (s : AbsState) → IsNodeIn (device_of task.flash) followed k s → (row_in (device_of task.flash) task k s).faults ≡ []
    → AllOf (IsStateOf (device_of task.flash) (is_root_kind k.inst.kind)) (row_in (device_of task.flash) task k s)
in_of task k s h clean =
    at_of (device_of task.flash) task (is_scratch task.flash k.pc) k s h (fetched (device_of task.flash) task.flash k.pc) (fetched_fits (device_of task.flash) task.flash k.pc)
    (fetched_has (device_of task.flash) task.flash k.pc) (fetched_supported task.flash k.pc) clean

-- the device says so of all successors
pub raw_of : {followed : Bool} (task : Task) (k : NodeKey) (s : AbsState) → IsNodeIn (device_of task.flash) followed k s → (raw task k s).faults ≡ []
    → AllOf (IsStateOf (device_of task.flash) (is_root_kind k.inst.kind)) (raw task k s)
raw_of task k s h clean =
    raw_have (IsStateOf (device_of task.flash) (is_root_kind k.inst.kind)) task k s h
    (λ j u same node none. subst (λ (x : InstKey). AllOf (IsStateOf (device_of task.flash) (is_root_kind x.kind)) (row_in (device_of task.flash) task j u)) same (in_of task j u node none)) clean
