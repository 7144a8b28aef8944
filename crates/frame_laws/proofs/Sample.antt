-- The family of the worked firmware is sound: the definitions are satisfiable with a call.
use Rattle.std.proofs.Common.{◌≡◌, ℕ, zero, suc, ◌+◌, ◌<◌, ◌≤◌, ◌==◌, ◌⊎◌, inl, inr, ⊎_elim, Bool, true, false, nat_lt, replicate, List, [], ◌∷◌, Option, Some, None, slice_index_or, refl, sym, ap, ◌∙◌, subst, subst₂, arith, Contains}
use Rattle.std.proofs.lemmas.List.{get_or-replicate}
use Rattle.std.proofs.lemmas.Bool.Decides.{nat_tests}
use Rattle.std.proofs.lemmas.Nat.{pow_pos}
use Rattle.std.proofs.Math.ListN.{length-replicate, get_or-append}
use Rattle.basics.specs.Items.{none_in, only_one_in}
use Rattle.std.proofs.lemmas.Option.{same_Some}
use Rattle.avr_model.specs.Assumptions.{has_pairs, recur_line}
use Rattle.avr_model.specs.Devices.{size_of, back_of, device_of, device_row}
use Rattle.avr_model.specs.Vectors.{enable_count}
use Rattle.avr_model.specs.State.{RAMPZ, EIND, REGISTERS, has_register}
use Rattle.bit_domain.specs.declared.bits.Tri.TheVariants.{Any}
use Rattle.bit_domain.specs.TriByte.{IsWithin, byte_any}
use Rattle.bit_domain.proofs.AllLaws.{bytes_are_their_bits, bytes_are_sets, ranges_hold}
use Rattle.abs_state.specs.declared.values.AbsByte.{AbsByte}
use Rattle.abs_state.specs.declared.state.AbsState.{AbsState}
use Rattle.abs_state.specs.Values.{root, unknown, known, value_at}
use Rattle.abs_state.specs.Order.{IsByteWithin, IsStateWithin}
use Rattle.abs_state.specs.Formed.{IsFormed, IsUntagged}
use Rattle.abs_state.specs.Banks.{IsStateOf}
use Rattle.abs_state.specs.Frames.{entered}
use Rattle.abs_state.specs.PairsBack.{returned}
use Rattle.abs_state.proofs.AllLaws.{values_are_ordered, states_are_ordered, joins_are_formed, reset_stands, entries_are_true, returns_are_true, tags_stay_fit, states_are_of}
use Rattle.node_keys.specs.declared.keys.InstKey.{InstKey}
use Rattle.node_keys.specs.declared.keys.EdgeKind.{EdgeKind}
use Rattle.node_keys.specs.declared.keys.EdgeKind.TheVariants as kind
use Rattle.node_keys.specs.declared.keys.SpForm.TheVariants.{Closed}
use Rattle.node_keys.specs.declared.keys.Kind.{Kind}
use Rattle.node_keys.specs.declared.keys.Kind.TheVariants.{Root, Call, Vector}
use Rattle.node_keys.specs.Keys.{root_inst, entry_key, offset_of, if_called, cut_at}
use Rattle.local_rules.specs.declared.local.Node.{Node}
use Rattle.local_rules.specs.declared.local.CallSite.{CallSite}
use Rattle.local_rules.specs.declared.local.Exit.{Exit}
use Rattle.local_rules.specs.Raw.{Raw}
use Rattle.local_rules.specs.Flow.{site}
use Rattle.local_rules.specs.Local.{placed, joined_onto}
use Rattle.local_rules.specs.Cover.{IsNodeIn}
use Rattle.edge_rules.specs.declared.edge.Edge.{Edge}
use Rattle.edge_rules.specs.Edges.{raw_of, IsFaultless, Enters, by_call, by_interrupt, IsEdge, moving, entering, returning, target, called_inst, pick_back, returned_key}
use Rattle.edge_rules.specs.Nest.{NestEdge, recurs}
use Rattle.edge_rules.specs.Nest.{enters as by_node}
use Rattle.edge_rules.specs.Families.{IsCovered, IsSoundFamily}
use Rattle.edge_rules.specs.Roots.{root_by}
use Rattle.edge_rules.specs.Examples.{sample, callee, top, at_call, at_loop, at_return, family, plain_exit, call_leads, loop_leads, return_leads}
use Rattle.local_rules.specs.Site.{bare}

-- ---- states

top_formed : IsFormed top 0
top_formed = record {
  count_registers = reset_stands.formed.count_registers;
  registers = reset_stands.formed.registers;
  bit_7 = bytes_are_their_bits.has_bits (λ i. Any) 7 (omega arith);
  count_slots = refl;
  slots = λ d lt. absurd (omega arith);
  carry = tt;
  ranges = reset_stands.formed.ranges;
  slot_ranges = λ d lt. absurd (omega arith);
  facts = tt;
}

root_of : IsStateOf (device_of sample) true root
root_of = states_are_of.root (device_of sample)

top_of : IsStateOf (device_of sample) true top
top_of = record { registers = root_of.registers; slots = λ d lt. absurd (omega arith); rampz = root_of.rampz; eind = root_of.eind }

entered_of : IsStateOf (device_of sample) false (entered top)
entered_of = states_are_of.entered (device_of sample) true top top_formed.count_registers top_of

top_untagged : IsUntagged top
top_untagged = record { registers = reset_stands.untagged.registers; entry = refl; carry = tt; slots = λ d lt. absurd (omega arith) }

-- r0 to r31 hold any bytes
low_unknown : (r : ℕ) → r < 32 → value_at top.registers r ≡ unknown
low_unknown r lt = get_or-append (replicate 32 unknown) (known 0 ∷ known 0 ∷ []) unknown r (subst (λ n. r < n) (sym (length-replicate 32 unknown)) lt) ∙ get_or-replicate 32 r unknown unknown lt

low_above : (s : AbsState) → IsFormed s 0 → (r : ℕ) → r < 32 → IsByteWithin (value_at s.registers r) (value_at top.registers r)
low_above s formed r lt =
    let v : AbsByte = value_at s.registers r in
    let below : IsWithin v.bits byte_any = λ x small has. bytes_are_sets.built (λ i. Any) x (λ i k. tt) in
    let wide = ranges_hold.bits_within v.bits byte_any below in
    let fits = formed.ranges r (omega (arith, lt)) in
    subst (IsByteWithin v) (sym (low_unknown r lt))
    record { tag = tt; bits = below; low = omega (arith, wide.low, fits.low); high = omega (arith, wide.high, fits.high) }

the_same : (r n : ℕ) → (r == n) ≡ true → r ≡ n
the_same r n e = grind (arith, nat_tests)

less : (r n : ℕ) → nat_lt r n ≡ true → r < n
less r n e = grind (arith, nat_tests)

last : (r : ℕ) → r < 34 → (r == 32) ≡ false → nat_lt r 32 ≡ false → r ≡ 33
last r lt e f = grind (arith, nat_tests)

-- the worked firmware's device has neither RAMPZ nor EIND
no_rampz : has_register (device_of sample) RAMPZ ≡ false
unfolding device_row
no_rampz = refl

no_eind : has_register (device_of sample) EIND ≡ false
unfolding device_row
no_eind = refl

zero_above : (v : AbsByte) → v ≡ known 0 → IsByteWithin v (known 0)
zero_above v is = subst (λ w. IsByteWithin w (known 0)) (sym is) (values_are_ordered.same (known 0))

all_above : (s : AbsState) → IsFormed s 0 → IsStateOf (device_of sample) true s → (r : ℕ) → r < REGISTERS → IsByteWithin (value_at s.registers r) (value_at top.registers r)
all_above s formed of r lt = by_32 (nat_lt r 32) refl
  where
    goal : ℕ → Type 0
    goal r = IsByteWithin (value_at s.registers r) (value_at top.registers r)

    by_33 : (is : Bool) → (r == 32) ≡ is → nat_lt r 32 ≡ false → goal r
    by_33 true e f = subst goal (sym (the_same r 32 e)) (zero_above (value_at s.registers RAMPZ) (of.rampz.lacking no_rampz))
    by_33 false e f = subst goal (sym (last r lt e f)) (zero_above (value_at s.registers EIND) (of.eind.lacking no_eind))

    by_32 : (low : Bool) → nat_lt r 32 ≡ low → goal r
    by_32 true e = low_above s formed r (less r 32 e)
    by_32 false e = by_33 (r == 32) refl e

-- the top element is above all of the root's states without slots
top_above : (s : AbsState) → IsFormed s 0 → IsStateOf (device_of sample) true s → IsStateWithin s top
top_above s formed of = record {
  registers = all_above s formed of;
  flags = record { entry = λ e. cc; bits = λ x small has. bytes_are_sets.built (λ i. Any) x (λ i k. tt); carry = tt };
  count = formed.count_slots;
  slots = λ d lt. absurd (omega arith);
  facts = tt;
}

-- ---- the three nodes

three_at : {X : Type 0} (x y z n : X) (k : ℕ) → k < 3 → slice_index_or (x ∷ y ∷ z ∷ []) k n ≡ n → (n ≡ x) ⊎ ((n ≡ y) ⊎ (n ≡ z))
three_at x y z n zero lt e = inl (sym e)
three_at x y z n (suc zero) lt e = inr (inl (sym e))
three_at x y z n (suc (suc zero)) lt e = inr (inr (sym e))
three_at x y z n (suc (suc (suc k))) lt e = absurd (omega arith)

-- a property of each of the three nodes
each : (P : Node → Type 0) → P at_call → P at_loop → P at_return → (n : Node) → Contains family.nodes n → P n
each P a b c n h =
    ⊎_elim (λ e. subst P (sym e) a) (λ r. ⊎_elim (λ e. subst P (sym e) b) (λ e. subst P (sym e) c) r) (three_at at_call at_loop at_return n h.0 h.1 h.2)

-- ---- entries

call_enters : (P : InstKey → ℕ → Type 0) → P callee 1 → (way : EdgeKind) (inst : InstKey) (back : ℕ) → Enters (bare sample) at_call way inst back → P inst back
call_enters P p _ _ _ (by_call offset s faultless form member) =
    let e : s ≡ site 2 1 = only_one_in (site 2 1) s (subst (λ (r : Raw). Contains r.calls s) call_leads member) in
    subst (λ (x : CallSite). P (called_inst at_call.key x.entry) x.back) (sym e) p
call_enters P p _ _ _ (by_interrupt offset v clears faultless form i delay enabled allowed clearable) = absurd (cc)

loop_enters : (way : EdgeKind) (inst : InstKey) (back : ℕ) → Enters (bare sample) at_loop way inst back → ⊥
loop_enters _ _ _ (by_call offset s faultless form member) = none_in s (subst (λ (r : Raw). Contains r.calls s) loop_leads member)
loop_enters _ _ _ (by_interrupt offset v clears faultless form i delay enabled allowed clearable) = cc

return_enters : (way : EdgeKind) (inst : InstKey) (back : ℕ) → Enters (bare sample) at_return way inst back → ⊥
return_enters _ _ _ (by_call offset s faultless form member) = none_in s (subst (λ (r : Raw). Contains r.calls s) return_leads member)
return_enters _ _ _ (by_interrupt offset v clears faultless form i delay enabled allowed clearable) = cc

-- ---- edges

covered_by_loop : (s : AbsState) → IsFormed s 0 → IsStateOf (device_of sample) true s → IsCovered family.nodes (record { key = at_loop.key; state = s })
covered_by_loop s formed of = record { state = top; present = (1, omega arith, refl); above = top_above s formed of }

no_pick : (way : EdgeKind) → pick_back way None ≡ None
no_pick kind.Local = refl
no_pick kind.Call = refl
no_pick (kind.Interrupt v clears) = refl
no_pick kind.Return = refl

-- the return goes to the word after the call
return_covered : (way : EdgeKind) (inst : InstKey) (back : ℕ) → inst ≡ callee → back ≡ 1 → (leaver : Node) → Contains family.nodes leaver → leaver.key.inst ≡ inst → (x : Exit) (s : AbsState)
    → (raw_of (bare sample) leaver).exit ≡ Some x → returned top leaver.state ≡ Some s → IsCovered family.nodes (record { key = returned_key way at_call.key back x; state = s })
return_covered way inst back inst_is back_is =
    each
    (λ leaver. leaver.key.inst ≡ inst → (x : Exit) (s : AbsState) → (raw_of (bare sample) leaver).exit ≡ Some x → returned top leaver.state ≡ Some s
    → IsCovered family.nodes (record { key = returned_key way at_call.key back x; state = s }))
    (λ same x s exit is. absurd (let k = ap (λ (i : InstKey). i.kind) (same ∙ inst_is) in cc))
    (λ same x s exit is. absurd (let k = ap (λ (i : InstKey). i.kind) (same ∙ inst_is) in cc))
    (λ same x s exit is.
    let this : plain_exit ≡ x = same_Some _ x (sym (ap (λ (r : Raw). r.exit) return_leads) ∙ exit) in
    let inside = entries_are_true.formed top 0 top_formed in
    let formed = returns_are_true.formed top (entered top) s 0 top_formed inside is in
    let of = states_are_of.returned (device_of sample) true top (entered top) s (joins_are_formed.whole top 0 top_formed) (joins_are_formed.whole (entered top) 0 inside) top_of entered_of is in
    subst (λ (p : Option ℕ). IsCovered family.nodes (record { key = record (returned_key way at_call.key back x) { pick = p }; state = s })) (sym (no_pick way))
    (subst (λ b. IsCovered family.nodes (record { key = returned_key kind.Call at_call.key b x; state = s })) (sym back_is)
    (subst (λ y. IsCovered family.nodes (record { key = returned_key kind.Call at_call.key 1 y; state = s })) this (covered_by_loop s formed of))))

no_moves : (to : Node) (r : Raw) → r.moves ≡ [] → Contains (joined_onto [] r.moves) to → ⊥
unfolding joined_onto
no_moves to r none member = none_in to (subst (λ (ns : List Node). Contains (joined_onto [] ns) to) none member)

one_move : (to : Node) → Contains (joined_onto [] (raw_of (bare sample) at_loop).moves) to → to ≡ at_loop
unfolding joined_onto placed
one_move to member = only_one_in at_loop to (subst (λ (r : Raw). Contains (joined_onto [] r.moves) to) loop_leads member)

call_edges : (e : Edge) → IsEdge (bare sample) family.nodes at_call e → IsCovered family.nodes (target e)
call_edges _ (moving to faultless member) = absurd (no_moves to (raw_of (bare sample) at_call) (ap (λ (r : Raw). r.moves) call_leads) member)
call_edges _ (entering way inst back enters) =
    call_enters (λ i b. IsCovered family.nodes (record { key = entry_key i; state = entered top }))
    record { state = entered top; present = (2, omega arith, refl); above = states_are_ordered.same (entered top) } way inst back enters
call_edges _ (returning way inst back leaver x state enters present same faultless exit is) =
    let both = call_enters (λ i b. (i ≡ callee) × (b ≡ 1)) (refl, refl) way inst back enters in
    return_covered way inst back both.0 both.1 leaver present same x state exit is

loop_edges : (e : Edge) → IsEdge (bare sample) family.nodes at_loop e → IsCovered family.nodes (target e)
loop_edges _ (moving to faultless member) = subst (IsCovered family.nodes) (sym (one_move to member)) (covered_by_loop top top_formed top_of)
loop_edges _ (entering way inst back enters) = absurd (loop_enters way inst back enters)
loop_edges _ (returning way inst back leaver x state enters present same faultless exit is) = absurd (loop_enters way inst back enters)

return_edges : (e : Edge) → IsEdge (bare sample) family.nodes at_return e → IsCovered family.nodes (target e)
return_edges _ (moving to faultless member) = absurd (no_moves to (raw_of (bare sample) at_return) (ap (λ (r : Raw). r.moves) return_leads) member)
return_edges _ (entering way inst back enters) = absurd (return_enters way inst back enters)
return_edges _ (returning way inst back leaver x state enters present same faultless exit is) = absurd (return_enters way inst back enters)

-- without a list nothing is cut
never_cut : (inst : InstKey) (depth : ℕ) → cut_at [] inst ≡ Some depth → ⊥
unfolding cut_at recur_line
never_cut inst depth = by inst.kind
  where
    by : (kind : Kind) → if_called kind None ≡ Some depth → ⊥
    by Root e = cc
    by Call e = cc
    by (Vector v) e = cc

-- the one edge of the nest
one_edge : (P : InstKey → InstKey → ℕ → Type 0) → P root_inst callee 0 → (i j : InstKey) (depth : ℕ) → NestEdge (bare sample) (Contains family.nodes) i j depth → P i j depth
one_edge P p i j depth (by_node n way back h same at e whole) =
    subst₂ (λ (k : InstKey) (o : ℕ). P k j o) same at
    (each (λ x. Enters (bare sample) x way j back → P x.key.inst j (offset_of x.key.sp))
    (call_enters (λ k b. P root_inst k 0) p way j back) (λ k. absurd (loop_enters way j back k)) (λ k. absurd (return_enters way j back k)) n h e)
one_edge P p i j depth (recurs n h same cut top) = absurd (never_cut j depth cut)

offset_is : (offset : ℕ) → Closed 0 ≡ Closed offset → offset ≡ 0
offset_is offset e = omega (arith, ap offset_of e)

-- no line follows pairs
no_pairs : has_pairs [] ≡ false
unfolding has_pairs
no_pairs = refl

-- the worked firmware has the greatest device
sample_small : 2 ≤ size_of (device_of sample)
unfolding device_row
sample_small = omega arith

-- whose return addresses have two bytes
sample_back : back_of (device_of sample) ≡ 2
unfolding device_row
sample_back = refl

pub the_sample_is_sound : IsSoundFamily (bare sample) family
the_sample_is_sound = record {
  formed = each (λ n. IsNodeIn (device_of sample) (has_pairs []) n.key n.state)
      record { word = omega arith; small = omega arith; masks = pow_pos (enable_count (device_of sample)); fits = tt; pick = tt; formed = top_formed; tags = tags_stay_fit.less root top (top_above root reset_stands.formed root_of) tags_stay_fit.at_reset; carry_bytes = tt; untagged = λ k. top_untagged; registers_of = top_of; mode = sym no_pairs; hulls = tt }
      record { word = omega arith; small = omega arith; masks = pow_pos (enable_count (device_of sample)); fits = tt; pick = tt; formed = top_formed; tags = tags_stay_fit.less root top (top_above root reset_stands.formed root_of) tags_stay_fit.at_reset; carry_bytes = tt; untagged = λ k. top_untagged; registers_of = top_of; mode = sym no_pairs; hulls = tt }
      record { word = omega arith; small = omega arith; masks = pow_pos (enable_count (device_of sample)); fits = tt; pick = tt; formed = entries_are_true.formed top 0 top_formed; tags = (tags_stay_fit.at_entry top).0; carry_bytes = tt; untagged = λ k. absurd (cc); registers_of = entered_of; mode = sym no_pairs; hulls = tt };
  reset = record { state = top; present = (0, omega arith, refl); above = subst (λ b. IsStateWithin (root_by b) top) (sym no_pairs) (top_above root reset_stands.formed root_of) };
  faultless = each (λ n. IsFaultless (bare sample) n)
      (ap (λ (r : Raw). r.faults) call_leads) (ap (λ (r : Raw). r.faults) loop_leads) (ap (λ (r : Raw). r.faults) return_leads);
  edges = λ n e h. each (λ x. IsEdge (bare sample) family.nodes x e → IsCovered family.nodes (target e)) (call_edges e) (loop_edges e) (return_edges e) n h;
  ranks = one_edge (λ i j depth. family.rank_of j < family.rank_of i) (omega arith);
  offsets = λ n offset h. each (λ x. x.key.sp ≡ Closed offset → offset ≤ family.need_of x.key.inst)
      (λ e. omega (arith, offset_is offset e)) (λ e. omega (arith, offset_is offset e)) (λ e. omega (arith, offset_is offset e)) n h;
  needs = one_edge (λ i j depth. depth + back_of (device_of sample) + family.need_of j ≤ family.need_of i) (omega (arith, sample_back));
  bounded = omega arith;
  small = sample_small;
}
