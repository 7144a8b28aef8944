-- The effect of a written byte is monotone.
use Rattle.std.proofs.Common.{◌≡◌, refl, sym, ap, subst, subst₂, ℕ, ◌+◌, ◌<◌, ◌≤◌, nat_le, ⊎_elim, Bool, true, false, not, List, map, filter, Option, Some, None, if◌then◌else◌, arith, [], ◌∷◌}
use Rattle.std.proofs.lemmas.Bool.{cases_lt}
use Rattle.std.proofs.lemmas.Bool.Decides.{nat_tests}
use Rattle.std.proofs.lemmas.List.{get_or_past}
use Rattle.std.proofs.lemmas.List.Elements.{Contains-append_cases}
use Rattle.basics.specs.Items.{none_in}
use Rattle.avr_model.proofs.AllLaws.{devices_are_alike}
use Rattle.avr_model.specs.Devices.{size_of, has_sph}
use Rattle.avr_model.specs.Vectors.{enable_count}
use Rattle.avr_model.specs.declared.device.Device.{Device}
use Rattle.avr_model.specs.declared.assumption.Entry.{Entry}
use Rattle.avr_model.specs.Assumptions.{store_line, is_fixed_site}
use Rattle.avr_model.specs.Masks.{admits_enables}
use Rattle.avr_model.specs.declared.device.Special.{Special}
use Rattle.avr_model.specs.declared.device.Special.TheVariants.{Spl, Sph, Sreg}
use Rattle.avr_model.specs.State.{register_at, special, low, high, minus16}
use Rattle.bit_domain.specs.declared.bits.Tri.{Tri}
use Rattle.bit_domain.specs.declared.bits.Tri.TheVariants.{Zero, One, Any}
use Rattle.bit_domain.specs.Tri.{IsTriWithin}
use Rattle.bit_domain.specs.TriByte.{tri_at, has, IsWithin, byte_constant}
use Rattle.bit_domain.proofs.AllLaws.{bytes_are_their_bits, writes_cover, numbers_are_permitted}
use Rattle.sp_domain.specs.declared.tags.Tag.{Tag}
use Rattle.sp_domain.specs.declared.tags.Tag.TheVariants as tag
use Rattle.sp_domain.specs.declared.slots.Slot.{Slot}
use Rattle.sp_domain.specs.declared.slots.Slot.TheVariants.{Free}
use Rattle.sp_domain.specs.Slots.{resized}
use Rattle.sp_domain.specs.Tags.{IsTagWithin}
use Rattle.sp_domain.proofs.AllLaws.{slots_are_lists}
use Rattle.abs_state.specs.declared.values.AbsByte.{AbsByte}
use Rattle.abs_state.specs.declared.state.AbsState.{AbsState}
use Rattle.abs_state.proofs.AllLaws.{writes_end_facts}
use Rattle.pair_domain.proofs.AllLaws.{known_is_ordered}
use Rattle.node_keys.specs.declared.keys.NodeKey.{NodeKey}
use Rattle.node_keys.specs.declared.keys.Kind.{Kind}
use Rattle.node_keys.specs.declared.keys.Kind.TheVariants.{Root, Call, Vector}
use Rattle.node_keys.specs.declared.keys.SpForm.{SpForm}
use Rattle.node_keys.specs.declared.keys.SpForm.TheVariants.{Closed, Open}
use Rattle.node_keys.specs.declared.keys.High.{High}
use Rattle.node_keys.specs.declared.keys.High.TheVariants.{Known, Tag as Tagged}
use Rattle.node_keys.specs.Keys.{offset_of}
use Rattle.node_keys.specs.Splits.{splits, enable_tri}
use Rattle.node_keys.specs.Wakes.{widened}
use Rattle.node_keys.proofs.AllLaws.{splits_are_writes, enables_stay_among}
use Rattle.local_rules.specs.declared.local.NodeFault.TheVariants.{UntrackedSp, TooDeep, UnknownPointer}
use Rattle.local_rules.specs.Raw.{Raw, moves_to, one, fails}
use Rattle.local_rules.specs.HighBytes.{view_by}
use Rattle.local_rules.specs.Registers.{bits}
use Rattle.local_rules.specs.Permitted.{permits_number}
use Rattle.local_laws.proofs.Specials.{has_high}
use Rattle.local_rules.specs.Writes.{known_high, tagged_high, high_part, opening, root_closing, frame_closing, tag_closing, closing_offset, closing, is_entry_flags, flags_written, with_i, sreg_written, masks_written, hulled, register_written, put_flags, special_written, written_behind, written_at, reaches, fixed_write, listed_writes, is_own_slot, may_wake, waking, pointer_write}
use Rattle.abs_state.specs.Formed.{TagFits}
use Rattle.local_rules.specs.Cover.{HighFitsKind, IsKey}
use Rattle.local_laws.proofs.Members.{each_of}
use Rattle.local_laws.proofs.MonotonePermits.{and_more, has_more, IsPairWithin, permits_more}
use Rattle.local_laws.proofs.MonotoneValues.{IsTagOf, IsLess, AreFlagsLess, AreSlotsLess, IsSlotLess, IsStateLess, IsSameWhere, tells_by, tag_tells, free_less, constant_is, constant_tells, bit_within, registers_set, ended_both, forgetting_both}
use Rattle.local_laws.proofs.MonotoneBanks.{stored_less}
use Rattle.local_laws.proofs.MonotoneRaw.{IsKeyPlace, LeadsLess, nodes_at, met_left, met_right, fails_less, if_leads, several_less, one_less, choose, choose_more, both_less, filtered_less}
use Rattle.local_rules.specs.Site.{Task}
use Rattle.local_rules.specs.Writes.{write_at}
use Rattle.local_rules.specs.Reads.{pointed}

-- ---- the high byte of the stack pointer

high_tells : (kind : Kind) (v w : AbsByte) → IsLess kind v w → IsSameWhere (high_part kind v) (high_part kind w)
high_tells Root v w le = tells_by known_high refl (byte_constant v.bits) (byte_constant w.bits) (constant_tells v.bits w.bits le.within.bits)
high_tells Call v w le = tag_tells tagged_high refl v.tag w.tag le.within.tag
high_tells (Vector n) v w le = tag_tells tagged_high refl v.tag w.tag le.within.tag

known_fits : (f : Option ℕ) (h : High) → ((n : ℕ) → f ≡ Some n → n < 256) → known_high f ≡ Some h → HighFitsKind Root h
known_fits None h small e = cc
known_fits (Some n) h small e = let is : Known n ≡ h = cc in subst (HighFitsKind Root) is (small n refl)

tag_fits : (kind : Kind) (t : Tag) (h : High) → ((k : ℕ) → k < 65536 → HighFitsKind kind (Tagged k)) → TagFits t → tagged_high t ≡ Some h → HighFitsKind kind h
tag_fits kind tag.None h all fits e = cc
tag_fits kind (tag.Entry r) h all fits e = cc
tag_fits kind tag.EntryFlags h all fits e = cc
tag_fits kind (tag.SpLo j) h all fits e = cc
tag_fits kind (tag.SpHi k) h all fits e = let is : Tagged k ≡ h = cc in subst (HighFitsKind kind) is (all k fits)

high_fits : (kind : Kind) (v : AbsByte) (h : High) → IsTagOf kind v.tag → high_part kind v ≡ Some h → HighFitsKind kind h
high_fits Root v h good e = known_fits (byte_constant v.bits) h (λ n is. (constant_is v.bits n is).1) e
high_fits Call v h good e = tag_fits Call v.tag h (λ k lt. lt) good.fits e
high_fits (Vector n) v h good e = tag_fits (Vector n) v.tag h (λ k lt. lt) good.fits e

opening_less : {device : Device} (k : NodeKey) (at : IsKey device k) (s t : AbsState) (le : IsStateLess k.inst.kind (offset_of k.sp) s t) (pc : ℕ) → has_sph device ≡ true → (f g : Option High)
    → IsSameWhere f g → ((h : High) → f ≡ Some h → HighFitsKind k.inst.kind h) → LeadsLess device k.inst (opening f k s pc) (opening g k t pc)
opening_less k at s t le pc there f None tells fits = fails_less k.inst (opening f k s pc) (UntrackedSp pc)
opening_less {device = device} k at s t le pc there f (Some h) tells fits =
    subst (λ (x : Option High). LeadsLess device k.inst (opening x k s pc) (opening (Some h) k t pc)) (sym (tells h refl))
    (one_less (record k { sp = Open (offset_of k.sp) h }) s t (record { word = at.word; small = at.small; masks = at.masks; fits = (there, fits h (tells h refl)); pick = at.pick }) le)

-- ---- its low byte

no_root : (device : Device) (sp : SpForm) → root_closing device sp None ≡ None
no_root device (Closed offset) = refl
no_root device (Open offset (Known h)) = refl
no_root device (Open offset (Tagged k)) = refl

no_frame : (sp : SpForm) → frame_closing sp tag.None ≡ None
no_frame (Closed offset) = refl
no_frame (Open offset (Known h)) = refl
no_frame (Open offset (Tagged k)) = refl

no_tag : (device : Device) (sp : SpForm) → tag_closing device sp tag.None ≡ None
no_tag device sp = by (has_sph device)
  where
    by : (has_high : Bool) → (if has_high then frame_closing sp tag.None else None) ≡ None
    by true = no_frame sp
    by false = refl

closing_tells : (device : Device) (kind : Kind) (sp : SpForm) (v w : AbsByte) → IsLess kind v w → IsSameWhere (closing_offset device kind sp v) (closing_offset device kind sp w)
closing_tells device Root sp v w le = tells_by (root_closing device sp) (no_root device sp) (byte_constant v.bits) (byte_constant w.bits) (constant_tells v.bits w.bits le.within.bits)
closing_tells device Call sp v w le = tag_tells (tag_closing device sp) (no_tag device sp) v.tag w.tag le.within.tag
closing_tells device (Vector n) sp v w le = tag_tells (tag_closing device sp) (no_tag device sp) v.tag w.tag le.within.tag

module _ (kind : Kind) (offset : ℕ) (xs ys : List (Slot AbsByte)) (le : AreSlotsLess kind offset xs ys) where
  pub resized_less : (n : ℕ) → AreSlotsLess kind n (resized n xs) (resized n ys)
  resized_less n =
      let lists = slots_are_lists {V = AbsByte} in
      record {
        count = lists.count xs n;
        others = lists.count ys n;
        each = λ d. ⊎_elim
            (λ lt. subst₂ (IsSlotLess kind) (sym (lists.kept xs n d lt)) (sym (lists.kept ys n d lt)) (le.each d))
            (λ over. subst₂ (IsSlotLess kind)
            (sym (get_or_past (resized n xs) d Free (omega (arith, lists.count xs n)))) (sym (get_or_past (resized n ys) d Free (omega (arith, lists.count ys n)))) (free_less kind))
            (cases_lt d n);
      }

module _ (device : Device) (k : NodeKey) (at : IsKey device k) (s t : AbsState) (le : IsStateLess k.inst.kind (offset_of k.sp) s t) (pc : ℕ) where
  closing_by : (b : Bool) (n : ℕ) → (b ≡ true → n ≤ size_of device)
      → LeadsLess device k.inst (if b then one (record k { sp = Closed n }) (record s { slots = resized n s.slots }) else fails (TooDeep pc n))
      (if b then one (record k { sp = Closed n }) (record t { slots = resized n t.slots }) else fails (TooDeep pc n))
  closing_by true n small =
      one_less (record k { sp = Closed n }) (record s { slots = resized n s.slots }) (record t { slots = resized n t.slots })
      (record { word = at.word; small = omega (arith, small refl, devices_are_alike.in_depth device); masks = at.masks; fits = tt; pick = at.pick })
      (record { registers = le.registers; flags = le.flags; slots = resized_less k.inst.kind (offset_of k.sp) s.slots t.slots le.slots n; facts = le.facts })
  closing_by false n small = fails_less k.inst (fails (TooDeep pc n)) (TooDeep pc n)

  closing_less : (f g : Option ℕ) → IsSameWhere f g → LeadsLess device k.inst (closing device f k s pc) (closing device g k t pc)
  closing_less f None tells = fails_less k.inst (closing device f k s pc) (UntrackedSp pc)
  closing_less f (Some n) tells =
      subst (λ (x : Option ℕ). LeadsLess device k.inst (closing device x k s pc) (closing device (Some n) k t pc)) (sym (tells n refl))
      (closing_by (nat_le n (size_of device)) n (λ e. grind (arith, nat_tests)))

-- ---- the status register

entry_true : (t u : Tag) → IsTagWithin t u → is_entry_flags u ≡ true → is_entry_flags t ≡ true
entry_true t tag.None le e = cc
entry_true t (tag.Entry r) le e = cc
entry_true t tag.EntryFlags le e = ap is_entry_flags le
entry_true t (tag.SpLo j) le e = cc
entry_true t (tag.SpHi k) le e = cc

written_flags : (kind : Kind) (v w : AbsByte) → IsLess kind v w → AreFlagsLess kind (flags_written v) (flags_written w)
written_flags kind v w le =
    record {
      within = record {
        entry = entry_true v.tag w.tag le.within.tag;
        bits = writes_cover.more v.bits w.bits 7 Any Any le.within.bits (λ n p. p);
        carry = tt;
      };
      bit_7 = bytes_are_their_bits.has_bits _ 7 (omega arith);
      bytes = tt;
      no_entry = λ root. ap is_entry_flags (le.good.none root);
      names = tt;
      no_carry = λ root. tt;
    }

sreg_nodes : (x : Tri) (k : NodeKey) (s : AbsState) (is_out : Bool) → sreg_written x k s is_out ≡ moves_to (nodes_at (with_i k is_out) s (choose x false true))
sreg_nodes Zero k s is_out = refl
sreg_nodes One k s is_out = refl
sreg_nodes Any k s is_out = refl

i_place : {device : Device} (k : NodeKey) (is_out on : Bool) → IsKey device k → IsKeyPlace device k.inst (offset_of k.sp) (with_i k is_out on)
i_place k is_out on at = record { key = record { word = at.word; small = at.small; masks = at.masks; fits = at.fits; pick = at.pick }; same = refl; at = refl }

sreg_less : {device : Device} (k : NodeKey) (at : IsKey device k) (s t : AbsState) (le : IsStateLess k.inst.kind (offset_of k.sp) s t) (is_out : Bool) (x y : Tri) → IsTriWithin x y
    → LeadsLess device k.inst (sreg_written x k s is_out) (sreg_written y k t is_out)
sreg_less {device = device} k at s t le is_out x y within =
    subst₂ (LeadsLess device k.inst) (sym (sreg_nodes x k s is_out)) (sym (sreg_nodes y k t is_out))
    (several_less k.inst (offset_of k.sp) (with_i k is_out) s t (choose x false true) (choose y false true) (λ b. choose_more x y false true b within)
    (λ b i. i_place k is_out b at) le)

-- the interval of a written pair becomes the hull of its bytes in both states
hulled_both : (kind : Kind) (offset a : ℕ) (s t : AbsState) → IsStateLess kind offset s t → IsStateLess kind offset (hulled a s) (hulled a t)
hulled_both kind offset a s t h = record {
  registers = h.registers;
  flags = h.flags;
  slots = h.slots;
  facts = record {
    within =
        writes_end_facts.hull_more s.registers t.registers a s.facts t.facts (known_is_ordered.count s.facts h.facts.fits) h.facts.others (λ r lt. (h.registers.each r).within)
        h.facts.within;
    fits = writes_end_facts.hull_fits s.registers a s.facts (λ r lt. (h.registers.each r).ranged) h.facts.fits;
    others = writes_end_facts.hull_count t.registers a t.facts h.facts.others;
  };
}

-- ---- at an address

module _ (device : Device) (k : NodeKey) (at : IsKey device k) (s t : AbsState) (le : IsStateLess k.inst.kind (offset_of k.sp) s t) where
  masks_less : (a : ℕ) (v w : AbsByte) → IsLess k.inst.kind v w → LeadsLess device k.inst (masks_written device k s a v) (masks_written device k t a w)
  masks_less a v w h =
      several_less k.inst (offset_of k.sp) (λ (m : ℕ). record k { masks = m }) s t (splits device k.masks a v.bits) (splits device k.masks a w.bits)
      (λ n. splits_are_writes.more device k.masks a v.bits w.bits n h.within.bits)
      (λ n i. record {
        key = record { word = at.word; small = at.small; masks = ((numbers_are_permitted.members (enable_tri device k.masks a w.bits) (enable_count device) n).0 i).small; fits = at.fits; pick = at.pick };
        same = refl;
        at = refl;
      })
      le

  -- a register is written by its address
  register_less : (r : ℕ) (v w : AbsByte) → IsLess k.inst.kind v w → LeadsLess device k.inst (one k (register_written device s r v)) (one k (register_written device t r w))
  register_less r v w h =
      one_less k (register_written device s r v) (register_written device t r w) at
      (hulled_both k.inst.kind (offset_of k.sp) r _ _
      (forgetting_both k.inst.kind (offset_of k.sp) (r ∷ []) false false _ _
      (record {
        registers = registers_set k.inst.kind s.registers t.registers le.registers r _ _ (stored_less device k.inst.kind r v w h);
        flags = le.flags;
        slots = le.slots;
        facts = le.facts;
      })))

  special_less : (pc : ℕ) (is_out : Bool) (a : ℕ) (v w : AbsByte) → IsLess k.inst.kind v w → (x : Option Special) → special device a ≡ x
      → LeadsLess device k.inst (special_written (write_at device pc k s v) is_out a x) (special_written (write_at device pc k t w) is_out a x)
  special_less pc is_out a v w h (Some Spl) here = closing_less device k at s t le pc _ _ (closing_tells device k.inst.kind k.sp v w h)
  special_less pc is_out a v w h (Some Sph) here = opening_less k at s t le pc (has_high device a here) _ _ (high_tells k.inst.kind v w h) (λ x. high_fits k.inst.kind v x h.good)
  special_less pc is_out a v w h (Some Sreg) here =
      sreg_less k at (put_flags s (flags_written v)) (put_flags t (flags_written w))
      (record { registers = le.registers; flags = written_flags k.inst.kind v w h; slots = le.slots; facts = ended_both (λ r. false) true true s.facts t.facts le.facts }) is_out (tri_at v.bits 7) (tri_at w.bits 7)
      (bit_within v.bits w.bits 7 (omega arith) h.within.bits)
  special_less pc is_out a v w h None here = masks_less a v w h

  behind_less : (pc : ℕ) (is_out : Bool) (a : ℕ) (v w : AbsByte) → IsLess k.inst.kind v w → (x : Option ℕ)
      → LeadsLess device k.inst (written_behind (write_at device pc k s v) is_out a x) (written_behind (write_at device pc k t w) is_out a x)
  behind_less pc is_out a v w h (Some r) = register_less r v w h
  behind_less pc is_out a v w h None = special_less pc is_out a v w h (special device a) refl

  pub write_less : (pc : ℕ) (is_out : Bool) (a : ℕ) (v w : AbsByte) → IsLess k.inst.kind v w → LeadsLess device k.inst (written_at (write_at device pc k s v) is_out a) (written_at (write_at device pc k t w) is_out a)
  unfolding written_at
  write_less pc is_out a v w h = behind_less pc is_out a v w h (register_at device a)

-- ---- through a pointer

pub reaches_more : (s t : AbsState) (r up a : ℕ) → IsWithin (bits s r) (bits t r) → IsWithin (bits s (r + 1)) (bits t (r + 1)) → reaches s r up a ≡ true → reaches t r up a ≡ true
reaches_more s t r up a lo hi =
    and_more (has (bits s r) (low (minus16 a up))) (has (bits s (r + 1)) (high (minus16 a up))) (has (bits t r) (low (minus16 a up))) (has (bits t (r + 1)) (high (minus16 a up)))
    (has_more (bits s r) (bits t r) (low (minus16 a up)) lo) (has_more (bits s (r + 1)) (bits t (r + 1)) (high (minus16 a up)) hi)

-- a pointer that isn't known to be an own slot in the lesser state isn't in the greater
own_more : (f g : Option ℕ) (n : ℕ) → IsSameWhere f g → not (is_own_slot f n) ≡ true → not (is_own_slot g n) ≡ true
own_more f None n same e = refl
own_more f (Some d) n same e = subst (λ (x : Option ℕ). not (is_own_slot x n) ≡ true) (same d refl) e

wakes_more : (A : List Entry) (s t : AbsState) (r up : ℕ) (device : Device) (pc : ℕ) (k : NodeKey) (after after' : AbsState) (v w : AbsByte) → IsSameWhere (pointed (view_by device k) s r up).frame (pointed (view_by device k) t r up).frame
    → IsPairWithin s t r → IsWithin v.bits w.bits → may_wake A s r up (write_at device pc k after v) ≡ true → may_wake A t r up (write_at device pc k after' w) ≡ true
unfolding may_wake
wakes_more A s t r up device pc k after after' v w slots within bits =
    and_more _ _ _ _
    (and_more (admits_enables device A pc) _ (admits_enables device A pc) _ (λ e. e) (own_more (pointed (view_by device k) s r up).frame (pointed (view_by device k) t r up).frame (offset_of k.sp) slots))
    (enables_stay_among.other device A (λ a. permits_number s r (minus16 a up)) (λ a. permits_number t r (minus16 a up)) v.bits w.bits
    (λ a. permits_more s t r (minus16 a up) within) bits)

module _ (device : Device) (k : NodeKey) (at : IsKey device k) (s t : AbsState) (le : IsStateLess k.inst.kind (offset_of k.sp) s t) (pc : ℕ) (v w : AbsByte) (h : IsLess k.inst.kind v w) where
  fixed_less : (f g : Option ℕ) → IsSameWhere f g → LeadsLess device k.inst (fixed_write f (write_at device pc k s v)) (fixed_write g (write_at device pc k t w))
  fixed_less f None tells = fails_less k.inst (fixed_write f (write_at device pc k s v)) (UnknownPointer pc)
  fixed_less f (Some a) tells =
      subst (λ (x : Option ℕ). LeadsLess device k.inst (fixed_write x (write_at device pc k s v)) (fixed_write (Some a) (write_at device pc k t w))) (sym (tells a refl)) (write_less device k at s t le pc false a v w h)

  listed_less : (p q : ℕ → Bool) (addresses : List ℕ) → ((a : ℕ) → p a ≡ true → q a ≡ true)
      → LeadsLess device k.inst (listed_writes (filter p addresses) (write_at device pc k s v)) (listed_writes (filter q addresses) (write_at device pc k t w))
  listed_less p q addresses more =
      both_less k.inst (one k s) (one k t) (map (λ a. written_at (write_at device pc k s v) false a) (filter p addresses)) (map (λ a. written_at (write_at device pc k t w) false a) (filter q addresses))
      (one_less k s t at le)
      (filtered_less k.inst (λ (a : ℕ). written_at (write_at device pc k s v) false a) (λ (a : ℕ). written_at (write_at device pc k t w) false a) p q addresses (λ a i. write_less device k at s t le pc false a v w h) (λ a i. more a))

  woken_place : (A : List Entry) → IsKeyPlace device k.inst (offset_of k.sp) (record k { masks = widened device A k.masks })
  woken_place A =
      record {
        key = record { word = at.word; small = at.small; masks = enables_stay_among.wide device A k.masks; fits = at.fits; pick = at.pick };
        same = refl;
        at = refl;
      }

  -- the greater has one more successor, or both have
  waking_less : (A : List Entry) (b c : Bool) (p q : Raw) → (b ≡ true → c ≡ true) → LeadsLess device k.inst p q → LeadsLess device k.inst (waking b (record { key = record k { masks = widened device A k.masks }; state = s }) p) (waking c (record { key = record k { masks = widened device A k.masks }; state = t }) q)
  waking_less A true false p q more rest e = let no : false ≡ true = more refl in absurd (cc)
  waking_less A false false p q more rest e = rest e
  waking_less A false true p q more rest e =
      let a = rest e in
      record { faultless = a.faultless; moves = λ to i. met_left k.inst q.moves _ to (a.moves to i); calls = a.calls; exit = a.exit }
  waking_less A true true p q more rest e =
      let a = rest e in
      let woken : NodeKey = record k { masks = widened device A k.masks } in
      let last = (several_less k.inst (offset_of k.sp) (λ (j : NodeKey). j) s t (woken ∷ []) (woken ∷ []) (λ x i. i)
      (each_of (IsKeyPlace device k.inst (offset_of k.sp)) woken [] (woken_place A) (λ x i. absurd (none_in x i))) le refl).moves in
      record {
        faultless = a.faultless;
        moves = λ to i. ⊎_elim
            (λ j. met_left k.inst q.moves (record { key = woken; state = t } ∷ []) to (a.moves to j))
            (λ j. met_right k.inst q.moves (record { key = woken; state = t } ∷ []) to (last to j))
            (Contains-append_cases p.moves (record { key = woken; state = s } ∷ []) to i);
        calls = a.calls;
        exit = a.exit;
      }

  -- the pointer as it was in these states
  pub pointer_less : (task : Task) (was_s was_t : AbsState) (r up : ℕ) → IsSameWhere (pointed (view_by device k) was_s r up).constant (pointed (view_by device k) was_t r up).constant
      → IsSameWhere (pointed (view_by device k) was_s r up).frame (pointed (view_by device k) was_t r up).frame
      → IsPairWithin was_s was_t r
      → LeadsLess device k.inst (pointer_write task was_s r up (write_at device pc k s v)) (pointer_write task was_t r up (write_at device pc k t w))
  pointer_less task was_s was_t r up tells slots was =
      if_leads k.inst (is_fixed_site task.flash task.assumptions pc) _ _ _ _ (fixed_less (pointed (view_by device k) was_s r up).constant (pointed (view_by device k) was_t r up).constant tells)
      (waking_less task.assumptions (may_wake task.assumptions was_s r up (write_at device pc k s v)) (may_wake task.assumptions was_t r up (write_at device pc k t w)) _ _
      (wakes_more task.assumptions was_s was_t r up device pc k s t v w slots was h.within.bits)
      (listed_less (λ a. reaches was_s r up a) (λ a. reaches was_t r up a) (store_line task.assumptions pc) (λ a. reaches_more was_s was_t r up a was.low.bits was.high.bits)))
