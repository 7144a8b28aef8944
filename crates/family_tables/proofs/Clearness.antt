-- The worked families: the successors of each node.
use Rattle.std.proofs.Common.{◌≡◌, refl, sym, ap, ◌∙◌, subst, ℕ, ◌<◌, ◌≤◌, false, true, [], ◌∷◌, length, Option, Some, None, ⊎_elim, Contains, arith, get_or-set_other, get_or-set_same}
use Rattle.std.proofs.lemmas.Bool.{cases_eq, cases_lt}
use Rattle.std.proofs.lemmas.List.{get_or-replicate, length-replicate}
use Rattle.basics.specs.Items.{none_in, first_or_further, first_in}
use Rattle.avr_model.specs.Masks.{reads_masks}
use Rattle.avr_model.specs.declared.instruction.Instr.TheVariants as i
use Rattle.avr_model.specs.Assumptions.{has_pairs, has_masks, has_scratch, recur_line}
use Rattle.avr_model.specs.Bits.{any_below, all_below}
use Rattle.avr_model.specs.Devices.{M328, size_of, device_of, device_row}
use Rattle.avr_model.specs.Sites.{instruction_at, is_scratch, table_site, ijmp_from}
use Rattle.avr_model.specs.Table.{decoded}
use Rattle.avr_model.specs.Vectors.{enable_places, enable_place_at, has_enables}
use Rattle.bit_domain.specs.declared.bits.Tri.TheVariants.{Any}
use Rattle.bit_domain.specs.Numbers.{numbers_of}
use Rattle.bit_domain.specs.TriByte.{IsWithin, byte_any, byte_known}
use Rattle.bit_domain.proofs.AllLaws.{bytes_are_their_bits, bytes_are_sets, ranges_hold, ranges_fit}
use Rattle.sp_domain.specs.declared.slots.Slot.{Slot}
use Rattle.sp_domain.specs.declared.slots.Slot.TheVariants.{Free, Guarded}
use Rattle.sp_domain.specs.Slots.{slot_at}
use Rattle.abs_state.specs.declared.values.AbsByte.{AbsByte}
use Rattle.abs_state.specs.declared.state.AbsState.{AbsState}
use Rattle.abs_state.specs.Values.{root, unknown, known, value_at}
use Rattle.abs_state.specs.Order.{IsByteWithin, IsSlotWithin, IsStateWithin}
use Rattle.abs_state.specs.Formed.{IsFormed, IsUntagged, SlotNamesRegister, SlotByteFits, SlotIsUntagged, ByteFits, TagFits, SlotFits}
use Rattle.abs_state.specs.Banks.{is_tag_of, IsSlotOf}
use Rattle.abs_state.proofs.AllLaws.{values_are_ordered, root_value, reset_stands, tags_stay_fit, states_are_of}
use Rattle.node_keys.specs.declared.keys.NodeKey.{NodeKey}
use Rattle.node_keys.specs.declared.keys.InstKey.{InstKey}
use Rattle.node_keys.specs.declared.keys.EdgeKind.{EdgeKind}
use Rattle.node_keys.specs.declared.keys.SpForm.TheVariants.{Closed}
use Rattle.node_keys.specs.declared.keys.Kind.{Kind}
use Rattle.node_keys.specs.declared.keys.Kind.TheVariants.{Root, Call, Vector}
use Rattle.node_keys.specs.Keys.{offset_of, if_called, cut_at}
use Rattle.node_keys.specs.Splits.{enable_tri}
use Rattle.local_rules.specs.declared.local.Node.{Node}
use Rattle.local_rules.specs.Raw.{Raw, one}
use Rattle.local_rules.specs.Registers.{set, value}
use Rattle.local_rules.specs.Reads.{read_at}
use Rattle.local_rules.specs.Writes.{written_at}
use Rattle.local_rules.specs.Local.{raw, placed, joined_onto}
use Rattle.local_rules.specs.Settling.{settled_state}
use Rattle.local_rules.specs.Cover.{IsNode}
use Rattle.local_laws.proofs.AllLaws.{each_of}
use Rattle.edge_rules.specs.declared.edge.Edge.{Edge}
use Rattle.edge_rules.specs.Edges.{raw_of, IsFaultless, Enters, by_call, by_interrupt, IsEdge, moving, entering, returning, target}
use Rattle.edge_rules.specs.Families.{IsCovered, IsSoundFamily}
use Rattle.edge_rules.specs.Nest.{NestEdge, enters as by_node, recurs}
use Rattle.clear_laws.specs.Held.{MayHold, IsMapClosed, pushed, is_guarded_push}
use Rattle.clear_laws.specs.declared.stores.Aim.{Aim}
use Rattle.clear_laws.specs.declared.stores.Span.{Span}
use Rattle.clear_laws.specs.declared.stores.Reach.TheVariants as reach
use Rattle.clear_laws.specs.Clear.{is_clear, IsClear, IsHarmless, no_address, under_stack, above_memory, one_register, each_address, free_slot}
use Rattle.clear_laws.proofs.AllLaws.{held_slots_are_least, clear_nodes_are_told}
use Rattle.family_tables.specs.Stores.{over_room, over_pushed, with_bytes, at_depth, room_family, pushed_family, clear_where_free, push_is_guarded}
use Rattle.family_tables.specs.Clearness.{ClearnessIsMet}
use Rattle.local_rules.specs.Site.{bare}

room_leads : raw_of (bare over_room) (at_depth 0 0) ≡ one (at_depth 1 2).key (with_bytes 2)
unfolding raw table_site ijmp_from is_scratch any_below all_below decoded device_row settled_state
room_leads = refl

read_leads : raw_of (bare over_room) (at_depth 1 2) ≡ one (at_depth 2 2).key (record (with_bytes 2) { registers = set (with_bytes 2) 28 (known 0xFD) })
unfolding raw table_site ijmp_from is_scratch any_below all_below decoded device_row read_at settled_state
read_leads = refl

store_leads : raw_of (bare over_room) (at_depth 2 2) ≡ one (at_depth 4 2).key (with_bytes 2)
unfolding raw table_site ijmp_from is_scratch any_below all_below decoded device_row written_at numbers_of enable_tri enable_place_at enable_places has_enables settled_state
store_leads = refl

loop_leads : raw_of (bare over_room) (at_depth 4 2) ≡ one (at_depth 4 2).key (with_bytes 2)
unfolding raw table_site ijmp_from is_scratch any_below all_below decoded device_row settled_state
loop_leads = refl

-- ---- states in which nothing is known

module _ (n : ℕ) where
  count : length (with_bytes n).slots ≡ n
  count = length-replicate n Free

  all_free : (P : Slot AbsByte → Type 0) → P Free → (d : ℕ) → d < length (with_bytes n).slots → P (slot_at (with_bytes n).slots d)
  all_free P free d lt = subst P (sym (get_or-replicate n d Free Free (omega (arith, lt, count)))) free

  formed : IsFormed (with_bytes n) n
  formed =
      record {
        count_registers = reset_stands.formed.count_registers;
        registers = reset_stands.formed.registers;
        bit_7 = bytes_are_their_bits.has_bits (λ i. Any) 7 (omega arith);
        count_slots = count;
        slots = all_free SlotNamesRegister tt;
        carry = tt;
        ranges = reset_stands.formed.ranges;
        slot_ranges = all_free SlotByteFits tt;
        facts = tt;
      }

  untagged : IsUntagged (with_bytes n)
  untagged = record { registers = reset_stands.untagged.registers; entry = refl; carry = tt; slots = all_free SlotIsUntagged tt }

  registers_fit : (r : ℕ) → r < 34 → TagFits (value_at (with_bytes n).registers r).tag
  registers_fit r lt = tags_stay_fit.at_reset.registers r lt

  unknown_above : (v : AbsByte) → ByteFits v → (r : ℕ) → r < 32 → IsByteWithin v (value_at (with_bytes n).registers r)
  unknown_above v fits r lt =
      let below : IsWithin v.bits byte_any = λ x small has. bytes_are_sets.built (λ i. Any) x (λ i k. tt) in
      let wide = ranges_hold.bits_within v.bits byte_any below in
      subst (IsByteWithin v) (sym (root_value r lt))
      record { tag = tt; bits = below; low = omega (arith, wide.low, fits.low); high = omega (arith, wide.high, fits.high) }

  -- RAMPZ and EIND stay 0
  zero_above : (s : AbsState) (r : ℕ) → value_at s.registers r ≡ known 0 → value_at (with_bytes n).registers r ≡ known 0 → IsByteWithin (value_at s.registers r) (value_at (with_bytes n).registers r)
  zero_above s r is same = subst (λ (v : AbsByte). IsByteWithin v (value_at (with_bytes n).registers r)) (sym is) (subst (IsByteWithin (known 0)) (sym same) (values_are_ordered.same (known 0)))

  register_above : (s : AbsState) → ((r : ℕ) → r < 34 → ByteFits (value_at s.registers r)) → value_at s.registers 32 ≡ known 0 → value_at s.registers 33 ≡ known 0
      → (r : ℕ) → r < 34 → IsByteWithin (value_at s.registers r) (value_at (with_bytes n).registers r)
  register_above s fits rampz eind r lt =
      let P : ℕ → Type 0 = λ k. IsByteWithin (value_at s.registers k) (value_at (with_bytes n).registers k) in
      ⊎_elim (λ low. unknown_above (value_at s.registers r) (fits r lt) r low)
      (λ high. ⊎_elim (λ last. subst P (omega (arith, last, high)) (zero_above s 32 rampz refl)) (λ more. subst P (omega (arith, more, lt)) (zero_above s 33 eind refl)) (cases_lt r 33))
      (cases_lt r 32)

  -- the state is above all with this many slots
  above : (s : AbsState) → ((r : ℕ) → r < 34 → ByteFits (value_at s.registers r)) → value_at s.registers 32 ≡ known 0 → value_at s.registers 33 ≡ known 0 → length s.slots ≡ n → IsStateWithin s (with_bytes n)
  above s fits rampz eind same =
      record {
        registers = register_above s fits rampz eind;
        flags = record { entry = λ e. absurd (cc); bits = λ x small has. bytes_are_sets.built (λ i. Any) x (λ i k. tt); carry = tt };
        count = same ∙ sym count;
        slots = λ d. all_free (IsSlotWithin (slot_at s.slots d)) tt d;
        facts = tt;
      }

  itself_above : IsStateWithin (with_bytes n) (with_bytes n)
  itself_above = above (with_bytes n) reset_stands.formed.ranges refl refl count

  node_at : (pc : ℕ) → pc < 16384 → n ≤ 2048 → IsNode M328 (at_depth pc n).key (at_depth pc n).state
  unfolding device_row
  node_at pc word small =
      record {
        word = word;
        small = small;
        masks = omega arith;
        fits = tt;
        pick = tt;
        formed = formed;
        tags = record { registers = registers_fit; slots = all_free SlotFits tt };
        carry_bytes = tt;
        untagged = λ k. untagged;
        registers_of =
            let of = states_are_of.root M328 in
            record { registers = of.registers; slots = all_free (IsSlotOf (is_tag_of M328)) tt; rampz = of.rampz; eind = of.eind };
        mode = refl;
        hulls = tt;
      }

-- with register 28 known
known_fits : (r : ℕ) → r < 34 → ByteFits (value_at (set (with_bytes 2) 28 (known 0xFD)) r)
known_fits r lt =
    ⊎_elim
    (λ same. subst (λ (v : AbsByte). ByteFits v) (sym (ap (value_at (set (with_bytes 2) 28 (known 0xFD))) same
    ∙ get_or-set_same (with_bytes 2).registers 28 (known 0xFD) unknown (omega (arith, reset_stands.formed.count_registers)))) (ranges_fit.of_bits (byte_known 0xFD)))
    (λ other. subst (λ (v : AbsByte). ByteFits v) (sym (get_or-set_other (with_bytes 2).registers 28 r (known 0xFD) unknown other)) (reset_stands.formed.ranges r lt))
    (cases_eq r 28)

-- ---- the four nodes

four : (P : Node → Type 0) → P (at_depth 0 0) → P (at_depth 1 2) → P (at_depth 2 2) → P (at_depth 4 2) → (n : Node) → Contains room_family.nodes n → P n
four P a b c d =
    each_of P (at_depth 0 0) (at_depth 1 2 ∷ at_depth 2 2 ∷ at_depth 4 2 ∷ []) a
    (each_of P (at_depth 1 2) (at_depth 2 2 ∷ at_depth 4 2 ∷ []) b (each_of P (at_depth 2 2) (at_depth 4 2 ∷ []) c (each_of P (at_depth 4 2) [] d (λ x h. absurd (none_in x h)))))

-- a node with one successor has one edge, and enters no instance
module _ (n : Node) (i_off : n.key.i ≡ false) (to : Node) (leads : raw_of (bare over_room) n ≡ one to.key to.state) where
  no_entry : (way : EdgeKind) (inst : InstKey) (back : ℕ) → Enters (bare over_room) n way inst back → ⊥
  no_entry _ _ _ (by_call offset s faultless form member) = none_in s (subst (λ (r : Raw). Contains r.calls s) leads member)
  no_entry _ _ _ (by_interrupt offset v clears faultless form i delay enabled allowed clearable) = absurd (let no : true ≡ false = sym i ∙ i_off in cc)

  faultless : IsFaultless (bare over_room) n
  faultless = ap (λ (r : Raw). r.faults) leads

  the_move : (x : Node) → Contains (joined_onto [] (raw_of (bare over_room) n).moves) x → x ≡ to
  unfolding joined_onto placed
  the_move x member =
      ⊎_elim (λ e. e) (λ h. absurd (none_in x h)) (first_or_further to x [] (subst (λ (r : Raw). Contains (joined_onto [] r.moves) x) leads member))

  edge_covered : IsCovered room_family.nodes to → (e : Edge) → IsEdge (bare over_room) room_family.nodes n e → IsCovered room_family.nodes (target e)
  edge_covered covered _ (moving x f member) = subst (IsCovered room_family.nodes) (sym (the_move x member)) covered
  edge_covered covered _ (entering way inst back enters) = absurd (no_entry way inst back enters)
  edge_covered covered _ (returning way inst back leaver x state enters present same f exit is) = absurd (no_entry way inst back enters)

offset_is : (a b : ℕ) → Closed a ≡ Closed b → a ≡ b
offset_is a b e = ap offset_of e

room_small : 2 ≤ size_of (device_of over_room)
unfolding device_row
room_small = omega arith

abbrev read_node : Node
read_node = record { key = (at_depth 2 2).key; state = record (with_bytes 2) { registers = set (with_bytes 2) 28 (known 0xFD) } }

enters_nothing : (n : Node) → Contains room_family.nodes n → (way : EdgeKind) (inst : InstKey) (back : ℕ) → Enters (bare over_room) n way inst back → ⊥
enters_nothing n h way inst back =
    four (λ n. Enters (bare over_room) n way inst back → ⊥)
    (no_entry (at_depth 0 0) refl (at_depth 1 2) room_leads way inst back)
    (no_entry (at_depth 1 2) refl read_node read_leads way inst back)
    (no_entry (at_depth 2 2) refl (at_depth 4 2) store_leads way inst back)
    (no_entry (at_depth 4 2) refl (at_depth 4 2) loop_leads way inst back) n h

-- without a line no instance is cut
none_cut : (inst : InstKey) → cut_at [] inst ≡ None
unfolding cut_at recur_line
none_cut inst = by inst.kind
  where
    by : (kind : Kind) → if_called kind None ≡ None
    by Root = refl
    by Call = refl
    by (Vector v) = refl

nothing_below : (i j : InstKey) (depth : ℕ) → NestEdge (bare over_room) (Contains room_family.nodes) i j depth → ⊥
nothing_below i j depth (by_node n way back has same at into whole) = enters_nothing n has way j back into
nothing_below i j depth (recurs n has same cut root) = absurd (let no : None ≡ Some depth = sym (none_cut j) ∙ cut in cc)

room_is_sound : IsSoundFamily (bare over_room) room_family
unfolding has_pairs
room_is_sound =
    record {
      formed = four (λ n. IsNode M328 n.key n.state) (node_at 0 0 (omega arith) (omega arith)) (node_at 2 1 (omega arith) (omega arith)) (node_at 2 2 (omega arith) (omega arith)) (node_at 2 4 (omega arith) (omega arith));
      reset = record { state = with_bytes 0; present = (0, omega arith, refl); above = above 0 root reset_stands.formed.ranges refl refl refl };
      faultless =
          four (λ n. IsFaultless (bare over_room) n) (faultless (at_depth 0 0) refl (at_depth 1 2) room_leads) (ap (λ (r : Raw). r.faults) read_leads)
          (faultless (at_depth 2 2) refl (at_depth 4 2) store_leads) (faultless (at_depth 4 2) refl (at_depth 4 2) loop_leads);
      edges = λ n e h.
          four (λ n. IsEdge (bare over_room) room_family.nodes n e → IsCovered room_family.nodes (target e))
          (edge_covered (at_depth 0 0) refl (at_depth 1 2) room_leads record { state = with_bytes 2; present = (1, omega arith, refl); above = itself_above 2 } e)
          (edge_covered (at_depth 1 2) refl read_node read_leads record { state = with_bytes 2; present = (2, omega arith, refl); above = above 2 read_node.state known_fits refl refl refl } e)
          (edge_covered (at_depth 2 2) refl (at_depth 4 2) store_leads record { state = with_bytes 2; present = (3, omega arith, refl); above = itself_above 2 } e)
          (edge_covered (at_depth 4 2) refl (at_depth 4 2) loop_leads record { state = with_bytes 2; present = (3, omega arith, refl); above = itself_above 2 } e) n h;
      ranks = λ i j depth edge. absurd (nothing_below i j depth edge);
      offsets = λ n offset h.
          four (λ (n : Node). n.key.sp ≡ Closed offset → offset ≤ 2)
          (λ e. omega (arith, offset_is 0 offset e)) (λ e. omega (arith, offset_is 2 offset e)) (λ e. omega (arith, offset_is 2 offset e)) (λ e. omega (arith, offset_is 2 offset e)) n h;
      needs = λ i j depth edge. absurd (nothing_below i j depth edge);
      bounded = omega arith;
      small = room_small;
    }

-- ---- nothing is pushed, so no slot is held, and each node is clear

nothing_pushed : (n : Node) → Contains room_family.nodes n → is_guarded_push (bare over_room) n.key.pc ≡ false
unfolding is_scratch has_scratch any_below all_below decoded device_row
nothing_pushed = four (λ (n : Node). is_guarded_push (bare over_room) n.key.pc ≡ false) refl refl refl refl

nothing_held : (k : NodeKey) (d : ℕ) → MayHold (bare over_room) room_family.nodes k d → ⊥
nothing_held k d may = absurd (let no : false ≡ true = held_slots_are_least.least (bare over_room) room_family.nodes (λ k d. false) k d closed may in cc)
  where
    closed : IsMapClosed (bare over_room) room_family.nodes (λ k d. false)
    closed =
        record {
          keeps = λ n e d member edge stays held lt. held;
          pushes = λ n e member edge is push. sym (nothing_pushed n member) ∙ push;
        }

clear_by_test : (n : Node) → is_clear (bare over_room) 2 n (λ d. false) ≡ true → IsClear (bare over_room) room_family n
clear_by_test n = clear_nodes_are_told.clear (bare over_room) room_family n (λ d. false) (λ d lt none may. nothing_held n.key d may)

room_is_clear : (n : Node) → Contains room_family.nodes n → IsClear (bare over_room) room_family n
unfolding decoded device_row is_scratch any_below all_below reads_masks has_masks
room_is_clear =
    four (IsClear (bare over_room) room_family) (clear_by_test (at_depth 0 0) refl) (clear_by_test (at_depth 1 2) refl) (clear_by_test (at_depth 2 2) clear_where_free)
    (clear_by_test (at_depth 4 2) refl)

-- ---- a byte that was pushed is held, though its slot is free

push_leads : raw_of (bare over_pushed) (at_depth 1 1) ≡ one (at_depth 2 2).key (record (with_bytes 1) { slots = Free ∷ Guarded (value (with_bytes 1) 0) ∷ [] })
unfolding raw table_site ijmp_from is_scratch has_scratch any_below all_below decoded device_row settled_state
push_leads = refl

held_there : MayHold (bare over_pushed) pushed_family.nodes (at_depth 2 2).key 1
unfolding joined_onto placed
held_there =
    let to : Node = record { key = (at_depth 2 2).key; state = record (with_bytes 1) { slots = Free ∷ Guarded (value (with_bytes 1) 0) ∷ [] } } in
    pushed (at_depth 1 1) _ (1, omega arith, refl)
    (moving to (ap (λ (r : Raw). r.faults) push_leads) (subst (λ (r : Raw). Contains (joined_onto [] r.moves) to) (sym push_leads) (first_in to []))) refl push_is_guarded

at_store : instruction_at over_pushed 2 ≡ Some (i.Sts 0x08FE 0)
unfolding decoded device_row
at_store = refl

abbrev store_aim : Aim
store_aim = record { reach = reach.Within (record { first = 0x08FE; last = 0x08FE }); slot = Some 1 }

last_of : (span : Span) → store_aim.reach ≡ reach.Within span → span ≡ record { first = 0x08FE; last = 0x08FE }
last_of span e = sym (span_is _ span e)
  where
    span_is : (a b : Span) → reach.Within a ≡ reach.Within b → a ≡ b
    span_is a b e = cc

top_is : IsHarmless (bare over_pushed) pushed_family (at_depth 2 2) (i.Sts 0x08FE 0) store_aim → ⊥
unfolding device_row
top_is (no_address is) = absurd (cc)
top_is (under_stack span is low high) = omega (arith, high, ap (λ (s : Span). s.last) (last_of span is))
top_is (above_memory span is over) = omega (arith, over, ap (λ (s : Span). s.first) (last_of span is))
top_is (one_register a is low free) = omega (arith, low, ap (λ (s : Span). s.first) (last_of (record { first = a; last = a }) is))
top_is (each_address followed each) = absurd (cc)
top_is (free_slot d is lt none) = none (subst (MayHold (bare over_pushed) pushed_family.nodes (at_depth 2 2).key) (one_is d is) held_there)
  where
    one_is : (d : ℕ) → Some 1 ≡ Some d → 1 ≡ d
    one_is d e = cc

pushed_is_unclear : IsClear (bare over_pushed) pushed_family (at_depth 2 2) → ⊥
unfolding device_row
pushed_is_unclear clear = top_is (clear.store (i.Sts 0x08FE 0) store_aim at_store refl)

pub clearness_is_met : ClearnessIsMet
clearness_is_met = record { sound = room_is_sound; clear = room_is_clear; unclear = pushed_is_unclear }
