-- Settling high bytes is monotone, and so is a row behind which they are settled.
use Rattle.std.proofs.Common.{◌≡◌, refl, sym, ap, ap₂, ◌∙◌, subst, ℕ, zero, suc, ◌&&◌, nat_le, Bool, true, false, List, [], ◌∷◌, Option, Some, None, length, if◌then◌else◌, arith}
use Rattle.std.proofs.lemmas.Bool.Decides.{nat_tests}
use Rattle.avr_model.specs.declared.device.Device.{Device}
use Rattle.avr_model.specs.declared.instruction.Instr.{Instr}
use Rattle.avr_model.specs.Written.{written}
use Rattle.bit_domain.specs.TriByte.{Has, has, byte_known}
use Rattle.bit_domain.specs.Packed.{packed}
use Rattle.bit_domain.specs.Ranges.{most_of}
use Rattle.bit_domain.proofs.AllLaws.{bytes_are_sets, tests_tell_members}
use Rattle.sp_domain.specs.declared.tags.Tag.{Tag}
use Rattle.sp_domain.specs.declared.tags.Tag.TheVariants as tag
use Rattle.sp_domain.specs.Tags.{IsTagWithin}
use Rattle.abs_state.specs.declared.values.AbsByte.{AbsByte}
use Rattle.abs_state.specs.declared.state.AbsState.{AbsState}
use Rattle.abs_state.specs.FlagsSet.{sets_flags, sets_carry}
use Rattle.abs_state.specs.Frames.{with_value}
use Rattle.abs_state.specs.Order.{IsStateWithin}
use Rattle.abs_state.specs.Values.{value_at, known, valued, set_of}
use Rattle.abs_state.proofs.AllLaws.{states_are_ordered}
use Rattle.node_keys.specs.declared.keys.InstKey.{InstKey}
use Rattle.node_keys.specs.declared.keys.NodeKey.{NodeKey}
use Rattle.node_keys.specs.declared.keys.Kind.{Kind}
use Rattle.node_keys.specs.Keys.{offset_of}
use Rattle.local_rules.specs.declared.local.Node.{Node}
use Rattle.local_rules.specs.HighBytes.{SpView, view_by}
use Rattle.local_rules.specs.Local.{plain_row}
use Rattle.local_rules.specs.Permitted.{may_be}
use Rattle.local_rules.specs.Raw.{Raw}
use Rattle.local_rules.specs.Registers.{before}
use Rattle.local_rules.specs.Settling.{settled_high, settled_by, settled_value, settled_values, with_registers, settled_state, settled_nodes, settling}
use Rattle.local_rules.specs.Site.{Task, site_at}
use Rattle.local_laws.proofs.Bare.{IsBare, bare_key}
use Rattle.local_laws.proofs.LeftNodes.{from_left, in_left}
use Rattle.local_laws.proofs.MonotoneFields.{InstrFits}
use Rattle.local_laws.proofs.MonotonePermits.{may_more}
use Rattle.local_laws.proofs.MonotoneRaw.{IsMetAbove, LeadsLess}
use Rattle.local_laws.proofs.MonotoneReads.{IsReadLess, read_some}
use Rattle.local_laws.proofs.MonotoneRows.{row_less}
use Rattle.local_laws.proofs.MonotoneValues.{IsLess, IsStateLess, none_of, known_same, range_less, node_less, less_node, less_within, forgetting_both}

-- ---- one byte

-- the byte 0 has the greatest member 0
pub zero_most : most_of (byte_known 0) ≡ 0
unfolding packed
zero_most = refl

-- a value that permits 0 is above it, if it has no tag
zero_below : (kind : Kind) (w : AbsByte) → w.tag ≡ tag.None → may_be w 0 ≡ true → IsLess kind (known 0) w
zero_below kind w none may = by (has w.bits 0) (nat_le w.low 0) (nat_le 0 w.high) refl refl may
  where
    by : (a b c : Bool) → has w.bits 0 ≡ a → nat_le w.low 0 ≡ b → (a && b) && c ≡ true → IsLess kind (known 0) w
    by false b c e e' h = absurd (cc)
    by true false c e e' h = absurd (cc)
    by true true c e e' h =
        let member : Has w.bits 0 = (tests_tell_members.bytes w.bits 0).0 e in
        let same = known_same kind 0 in
        record {
          within = record {
            tag = subst (IsTagWithin tag.None) (sym none) tt;
            bits = λ x small is. subst (Has w.bits) (sym ((bytes_are_sets.known 0 x (grind arith) small).0 is)) member;
            low = grind (arith, nat_tests, e');
            high = omega (arith, zero_most);
          };
          good = same.good;
          ranged = same.ranged;
        }

-- the greater value keeps its bits and has no tag
high_under : (kind : Kind) (offset k : ℕ) (v w : AbsByte) → IsLess kind v w → w.tag ≡ tag.None → IsReadLess kind (settled_high offset k v) (Some w)
high_under kind offset k v w h none = by (nat_le k offset) (may_be v 0) (may_more v w 0 h.within)
  where
    by : (near may : Bool) → (may ≡ true → may_be w 0 ≡ true) → IsReadLess kind (if near then (if may then Some (known 0) else None) else Some (valued tag.None (set_of v))) (Some w)
    by true true more = read_some kind (known 0) w (zero_below kind w none (more refl))
    by true false more = λ u e. absurd (cc)
    by false may more =
        read_some kind (valued tag.None (set_of v)) w (record {
          within = record { tag = subst (IsTagWithin tag.None) (sym none) tt; bits = h.within.bits; low = h.within.low; high = h.within.high };
          good = none_of kind;
          ranged = h.ranged;
        })

high_both : (kind : Kind) (offset k : ℕ) (v w : AbsByte) → IsLess kind v w → IsReadLess kind (settled_high offset k v) (settled_high offset k w)
high_both kind offset k v w h = by (nat_le k offset) (may_be v 0) (may_be w 0) (may_more v w 0 h.within)
  where
    by : (near may more : Bool) → (may ≡ true → more ≡ true)
        → IsReadLess kind (if near then (if may then Some (known 0) else None) else Some (valued tag.None (set_of v)))
        (if near then (if more then Some (known 0) else None) else Some (valued tag.None (set_of w)))
    by true true true rise = read_some kind (known 0) (known 0) (known_same kind 0)
    by true true false rise = let no : false ≡ true = rise refl in absurd (cc)
    by true false more rise = λ u e. absurd (cc)
    by false may more rise = read_some kind (valued tag.None (set_of v)) (valued tag.None (set_of w)) (range_less kind v w h)

settled_less : (kind : Kind) (offset : ℕ) (v w : AbsByte) → IsLess kind v w → IsReadLess kind (settled_value offset v) (settled_value offset w)
settled_less kind offset v w h = by v.tag w.tag h.within.tag refl
  where
    by : (t u : Tag) → IsTagWithin t u → w.tag ≡ u → IsReadLess kind (settled_by offset t v) (settled_by offset u w)
    by tag.None tag.None le e = read_some kind v w h
    by (tag.Entry r) tag.None le e = read_some kind v w h
    by tag.EntryFlags tag.None le e = read_some kind v w h
    by (tag.SpLo j) tag.None le e = read_some kind v w h
    by (tag.SpHi k) tag.None le e = high_under kind offset k v w h e
    by t (tag.Entry r) le e = subst (λ (x : Tag). IsReadLess kind (settled_by offset x v) (Some w)) (sym le) (read_some kind v w h)
    by t tag.EntryFlags le e = subst (λ (x : Tag). IsReadLess kind (settled_by offset x v) (Some w)) (sym le) (read_some kind v w h)
    by t (tag.SpLo j) le e = subst (λ (x : Tag). IsReadLess kind (settled_by offset x v) (Some w)) (sym le) (read_some kind v w h)
    by t (tag.SpHi k) le e = subst (λ (x : Tag). IsReadLess kind (settled_by offset x v) (settled_high offset k w)) (sym le) (high_both kind offset k v w h)

-- ---- a state

-- the settled registers of both, if those of the lesser are possible
record AreSettledLess (kind : Kind) (offset : ℕ) (us vs ws : List AbsByte) : Type 0 where
  pub list : List AbsByte
  pub is : settled_values offset ws ≡ Some list
  pub count : length us ≡ length vs
  pub others : length list ≡ length ws
  pub each : (r : ℕ) → IsLess kind (value_at us r) (value_at list r)

values_less : (kind : Kind) (offset : ℕ) (us vs ws : List AbsByte) → length vs ≡ length ws → ((r : ℕ) → IsLess kind (value_at vs r) (value_at ws r))
    → settled_values offset vs ≡ Some us → AreSettledLess kind offset us vs ws
unfolding settled_values
values_less kind offset us [] [] count each e =
    let is : [] ≡ us = cc in
    subst (λ (xs : List AbsByte). AreSettledLess kind offset xs [] []) is (record { list = []; is = refl; count = refl; others = refl; each = each })
values_less kind offset us [] (w ∷ ws) count each e = absurd (omega (arith, count))
values_less kind offset us (v ∷ vs) [] count each e = absurd (omega (arith, count))
values_less kind offset us (v ∷ vs) (w ∷ ws) count each e =
    by (settled_value offset v) (settled_values offset vs) refl refl (λ rest. values_less kind offset rest vs ws (omega (arith, count)) (λ r. each (suc r))) e
  where
    by : (x : Option AbsByte) (y : Option (List AbsByte)) → settled_value offset v ≡ x → settled_values offset vs ≡ y
        → ((rest : List AbsByte) → settled_values offset vs ≡ Some rest → AreSettledLess kind offset rest vs ws) → with_value x y ≡ Some us
        → AreSettledLess kind offset us (v ∷ vs) (w ∷ ws)
    by None y e e' others h = absurd (cc)
    by (Some u) None e e' others h = absurd (cc)
    by (Some u) (Some rest) e e' others h =
        let first = settled_less kind offset v w (each 0) u e in
        let further = others rest e' in
        let is : u ∷ rest ≡ us = cc in
        subst (λ (xs : List AbsByte). AreSettledLess kind offset xs (v ∷ vs) (w ∷ ws)) is (record {
          list = first.0 ∷ further.list;
          is = ap₂ with_value first.1.0 further.is;
          count = omega (arith, further.count);
          others = omega (arith, further.others);
          each = all (value_at (u ∷ rest)) (value_at (first.0 ∷ further.list)) first.1.1 further.each;
        })
      where
        all : (f g : ℕ → AbsByte) → IsLess kind (f 0) (g 0) → ((r : ℕ) → IsLess kind (f (suc r)) (g (suc r))) → (r : ℕ) → IsLess kind (f r) (g r)
        all f g one others zero = one
        all f g one others (suc r) = others r

-- if something is left of the lesser state, so it is of the greater, and is above
pub state_settled : (kind : Kind) (offset : ℕ) (view : SpView) (s t u : AbsState) → IsStateLess kind offset s t → settled_state view s ≡ Some u
    → (x : AbsState) × ((settled_state view t ≡ Some x) × IsStateLess kind offset u x)
unfolding settled_state
state_settled kind offset view s t u le e = by view.high e
  where
    registers : (x : Option (List AbsByte)) → settled_values view.offset s.registers ≡ x → with_registers s x ≡ Some u
        → (y : AbsState) × ((with_registers t (settled_values view.offset t.registers) ≡ Some y) × IsStateLess kind offset u y)
    registers None e h = absurd (cc)
    registers (Some us) e h =
        let settled = values_less kind view.offset us s.registers t.registers (le.registers.count ∙ sym le.registers.others) le.registers.each e in
        let is : record s { registers = us } ≡ u = cc in (
          record t { registers = settled.list },
          (
            ap (with_registers t) settled.is,
            subst (λ (x : AbsState). IsStateLess kind offset x (record t { registers = settled.list })) is (record {
              registers = record { count = settled.count ∙ le.registers.count; others = settled.others ∙ le.registers.others; each = settled.each };
              flags = le.flags;
              slots = le.slots;
              facts = le.facts;
            }),
          ),
        )

    by : (has_high : Bool) → (if has_high then Some s else with_registers s (settled_values view.offset s.registers)) ≡ Some u
        → (x : AbsState) × (((if has_high then Some t else with_registers t (settled_values view.offset t.registers)) ≡ Some x) × IsStateLess kind offset u x)
    by true e = let is : s ≡ u = cc in (t, (refl, subst (λ (x : AbsState). IsStateLess kind offset x t) is le))
    by false e = registers (settled_values view.offset s.registers) refl e

-- settling keeps facts on pairs
pub settled_facts : (view : SpView) (s u : AbsState) → settled_state view s ≡ Some u → u.facts ≡ s.facts
unfolding settled_state
settled_facts view s u e = by view.high e
  where
    registers : (x : Option (List AbsByte)) → with_registers s x ≡ Some u → u.facts ≡ s.facts
    registers None h = absurd (cc)
    registers (Some us) h = let is : record s { registers = us } ≡ u = cc in sym (ap (λ (x : AbsState). x.facts) is)

    by : (has_high : Bool) → (if has_high then Some s else with_registers s (settled_values view.offset s.registers)) ≡ Some u → u.facts ≡ s.facts
    by true e = let is : s ≡ u = cc in sym (ap (λ (x : AbsState). x.facts) is)
    by false e = registers (settled_values view.offset s.registers) e

-- a settled state is one of a node
pub settled_bare : {device : Device} (k : NodeKey) (view : SpView) (s u : AbsState) → IsBare device k s → settled_state view s ≡ Some u → IsBare device k u
settled_bare k view s u h e =
    let both = state_settled k.inst.kind (offset_of k.sp) view s s u (node_less k s s h h (states_are_ordered.same s)) e in
    less_node k u both.0 h.word h.small h.masks h.fits h.pick both.1.1

-- ---- a row

-- settled successors of both; the greater's are nodes too
pub settling_less : {device : Device} (inst : InstKey) (view : SpView) (a b : Raw) → LeadsLess device inst a b → LeadsLess device inst b b
    → LeadsLess device inst (settling view a) (settling view b)
settling_less {device = device} inst view a b h same clean =
    let below = h clean in
    let above = same clean in
    record {
      faultless = below.faultless;
      moves = λ x member.
          let of = from_left (settled_state view) a.moves x member in
          let met = below.moves of.to of.member in
          let top : Node = record { key = of.to.key; state = met.below.state } in
          let node = (above.moves top met.below.present).node in
          let less = node_less of.to.key of.to.state met.below.state met.node node met.below.above in
          let settled = state_settled of.to.key.inst.kind (offset_of of.to.key.sp) view of.to.state met.below.state x.state less of.left in
          let is_met : IsMetAbove device inst (settled_nodes view b.moves) (record { key = of.to.key; state = x.state }) = record {
            same = met.same;
            node = settled_bare of.to.key view of.to.state x.state met.node of.left;
            below = record {
              state = settled.0;
              present = in_left (settled_state view) b.moves top settled.0 met.below.present settled.1.0;
              above = less_within of.to.key.inst.kind (offset_of of.to.key.sp) x.state settled.0 settled.1.1;
            };
          } in
          subst (λ (key : NodeKey). IsMetAbove device inst (settled_nodes view b.moves) (record { key = key; state = x.state })) (sym of.same) is_met;
      calls = below.calls;
      exit = below.exit;
    }

module _ (device : Device) (task : Task) (k : NodeKey) (s t : AbsState) (low : IsBare device k s) (high : IsBare device k t) (within : IsStateWithin s t) where
  ended_less : (u v : AbsState) (instr : Instr) → IsStateLess k.inst.kind (offset_of k.sp) u v → IsStateLess k.inst.kind (offset_of k.sp) (before instr u) (before instr v)
  ended_less u v instr le = forgetting_both k.inst.kind (offset_of k.sp) (written instr) (sets_flags instr) (sets_carry instr) u v le

  pub plain_less : (scratch : Bool) (instr : Instr) → InstrFits instr → LeadsLess device k.inst (plain_row task scratch (site_at device k s) instr) (plain_row task scratch (site_at device k t) instr)
  plain_less scratch instr fits =
      settling_less k.inst (view_by device k) _ _
      (row_less device task k (bare_key k s low) (before instr s) (before instr t) (ended_less s t instr (node_less k s t low high within)) scratch instr fits)
      (row_less device task k (bare_key k t high) (before instr t) (before instr t) (ended_less t t instr (node_less k t t high high (states_are_ordered.same t))) scratch instr fits)
