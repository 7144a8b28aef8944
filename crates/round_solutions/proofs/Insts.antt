-- The instances of a solved family are valid in a certificate.
use Rattle.std.proofs.Common.{◌≡◌, refl, sym, ap, ◌∙◌, subst, eq-eqb, ⊎_elim, ℕ, ◌^◌, ◌<◌, Bool, true, false, cond, ◌==◌, ◌&&◌, ◌-◌, ◌*◌, not, nat_lt, List, Some, None, arith}
use Rattle.std.proofs.lemmas.Bool.Decides.{nat_tests}
use Rattle.std.specs.FinMap.{get, retain_keys, get-retain_keys}
use Rattle.std.specs.declared.cmp.Ordering.TheVariants.{Equal}
use Rattle.std.proofs.lemmas.Bool.{or_left, or_right}
use Rattle.basics.specs.Booleans.{left_of_and}
use Rattle.avr_model.proofs.AllLaws.{devices_are_alike}
use Rattle.avr_model.specs.Assumptions.{has_pairs}
use Rattle.avr_model.specs.declared.device.Device.{Device}
use Rattle.avr_model.specs.Devices.{device_of, limit_of}
use Rattle.avr_model.specs.Vectors.{is_vector, enable_count, is_enabled, vector_word}
use Rattle.abs_state.specs.declared.state.AbsState.{AbsState}
use Rattle.abs_state.proofs.AllLaws.{states_are_ordered}
use Rattle.node_keys.specs.declared.keys.InstKey.{InstKey}
use Rattle.node_keys.specs.declared.keys.Kind.TheVariants.{Vector}
use Rattle.node_keys.specs.declared.keys.EdgeKind.{EdgeKind}
use Rattle.node_keys.specs.declared.keys.NodeKey.{NodeKey}
use Rattle.node_keys.specs.Order.{node_cmp}
use Rattle.local_rules.specs.declared.local.Node.{Node}
use Rattle.local_rules.specs.Cover.{IsNodeIn}
use Rattle.local_laws.proofs.AllLaws.{joins_are_least, local_parts_are_nodes}
use Rattle.edge_rules.specs.declared.edge.Edge.{Edge}
use Rattle.edge_rules.specs.Edges.{raw_of, Enters, by_call, by_interrupt, IsEdge, moving, entering, returning, target}
use Rattle.edge_laws.specs.Laws.{with_state}
use Rattle.edge_laws.proofs.AllLaws.{edges_lead_to_nodes, edges_grow}
use Rattle.certificate.specs.Insts.{is_vector_word, fits_kind}
use Rattle.certificate.specs.Versions.{says_device}
use Rattle.certificate.specs.Valid.{reset_node}
use Rattle.round_rules.specs.Families.{Family, nodes_of, Lands, Below, AreFormed, FamilyHasInst, HasNoFault, IsClosed}
use Rattle.round_rules.specs.Refusals.{IsSolved}
use Rattle.round_laws.proofs.AllLaws.{node_exact, has_member, member_has, lands_covered, formed_nodes, comes_root}
use Rattle.round_solutions.proofs.Lone.{formed, rounds_below}
use Rattle.local_rules.specs.Site.{Task}

-- its kind permits its other parts, and it has an enable bit for each vector
abbrev pub fits : Device → InstKey → Bool
fits device k = fits_kind device k.kind k.entry k.masks k.i && nat_lt k.masks (2 ^ enable_count device)

call_fits : (entry limit masks end : ℕ) → entry < limit → masks < end → (nat_lt entry limit && nat_lt masks end) ≡ true
call_fits entry limit masks end a b = grind (arith, nat_tests)

-- no vector is enabled at reset
none_fits : (end : ℕ) → 0 < end → nat_lt 0 end ≡ true
none_fits end some = grind (arith, nat_tests)

-- a vector's word on each device is a valid entry
word_by : (says : Bool) (entry : ℕ) (other : Bool) → other ≡ true → cond says (entry == entry) other ≡ true
word_by true entry other h = eq-eqb entry entry refl
word_by false entry other h = h

vector_is : (device : Device) (v : ℕ) → is_vector_word device v (vector_word device v) ≡ true
vector_is device v =
    word_by (says_device device) (vector_word device v) _
    (⊎_elim
    (λ (short : vector_word device v ≡ v - 1). or_right (vector_word device v == 2 * (v - 1)) (vector_word device v == v - 1) (eq-eqb (vector_word device v) (v - 1) short))
    (λ (long : vector_word device v ≡ 2 * (v - 1)). or_left (vector_word device v == 2 * (v - 1)) (vector_word device v == v - 1) (eq-eqb (vector_word device v) (2 * (v - 1)) long))
    (devices_are_alike.steps device v))

fits_if : (is word : Bool) (masks end : ℕ) → is ≡ true → word ≡ true → masks < end → ((is && word && not false) && nat_lt masks end) ≡ true
fits_if is word masks end e t b = grind (arith, nat_tests)

vector_fits : (device : Device) (enables v masks : ℕ) → is_enabled device enables v ≡ true → masks < 2 ^ enable_count device
    → fits_kind device (Vector v) (vector_word device v) masks false && nat_lt masks (2 ^ enable_count device) ≡ true
unfolding is_enabled
vector_fits device enables v masks e b =
    fits_if (is_vector device v) (is_vector_word device v (vector_word device v)) masks (2 ^ enable_count device) (left_of_and (is_vector device v) _ e) (vector_is device v) b

-- an entered instance fits
entered_fits : {followed : Bool} (task : Task) (n : Node) (way : EdgeKind) (inst : InstKey) (back : ℕ) → IsNodeIn (device_of task.flash) followed n.key n.state → Enters task n way inst back → fits (device_of task.flash) inst ≡ true
entered_fits task n way inst back node enters = let to = edges_lead_to_nodes.entries task n way inst back node enters in by way inst back enters to.word to.masks
  where
    by : (way : EdgeKind) (inst : InstKey) (back : ℕ) → Enters task n way inst back → inst.entry < limit_of (device_of task.flash) → inst.masks < 2 ^ enable_count (device_of task.flash) → fits (device_of task.flash) inst ≡ true
    by _ _ _ (by_call offset site clean form member) word masks = call_fits _ (limit_of (device_of task.flash)) _ (2 ^ enable_count (device_of task.flash)) word masks
    by _ _ _ (by_interrupt offset v clears clean form i delay enabled allowed clearable) word masks = vector_fits (device_of task.flash) n.key.masks v _ enabled masks

-- the instance of an edge's target fits if the node's own does
target_fits : {followed : Bool} (task : Task) (nodes : List Node) (n : Node) (e : Edge) → IsNodeIn (device_of task.flash) followed n.key n.state → fits (device_of task.flash) n.key.inst ≡ true → IsEdge task nodes n e → fits (device_of task.flash) e.to.inst ≡ true
target_fits task nodes n _ node own (moving to clean member) =
    let raw = joins_are_least.keys (raw_of task n).moves to member in
    let same = (local_parts_are_nodes.nodes task n.key n.state raw.0 node clean raw.1.0).0 in
    subst (λ (k : InstKey). fits (device_of task.flash) k ≡ true) (sym same ∙ ap (λ (k : NodeKey). k.inst) raw.1.1) own
target_fits task nodes n _ node own (entering way inst back enters) = entered_fits task n way inst back node enters
target_fits task nodes n _ node own (returning way inst back leaver x state enters present at clean exit is) = own

module _ (task : Task) (n : ℕ) (f : Family) (solved : IsSolved task n f) where
  abbrev is_fit : NodeKey → Bool
  is_fit k = fits (device_of task.flash) k.inst

  alike : (q x : NodeKey) → node_cmp q x ≡ Equal → is_fit x ≡ is_fit q
  alike q x e = ap is_fit (sym (node_exact q x e))

  -- the nodes whose instances fit
  abbrev h : Family
  h = retain_keys f is_fit

  got : (q : NodeKey) → get h q ≡ cond (is_fit q) (get f q) None
  got q = get-retain_keys f is_fit q (λ x e. alike q x e)

  kept : (q : NodeKey) (s : AbsState) → is_fit q ≡ true → get f q ≡ Some s → get h q ≡ Some s
  kept q s e is = got q ∙ ap (λ b. cond b (get f q) None) e ∙ is

  parts : (q : NodeKey) (s : AbsState) → get h q ≡ Some s → (is_fit q ≡ true) × (get f q ≡ Some s)
  parts q s e = by (is_fit q) refl (sym (got q) ∙ e)
    where
      by : (b : Bool) → is_fit q ≡ b → cond b (get f q) None ≡ Some s → (is_fit q ≡ true) × (get f q ≡ Some s)
      by true t is = (t, is)
      by false t is = absurd (cc)

  h_formed : AreFormed (device_of task.flash) (has_pairs task.assumptions) h
  h_formed m has = formed task n f solved m (parts m.key m.state has).1

  h_below : Below h f
  h_below m has = record { at = m.state; is = (parts m.key m.state has).1; above = states_are_ordered.same m.state }

  h_clean : HasNoFault task h
  h_clean m has = solved.passes.faultless m (parts m.key m.state has).1

  lands_h : (m : Node) → is_fit m.key ≡ true → Lands f m → Lands h m
  lands_h m e l = record { at = l.at; is = kept m.key l.at e l.is; above = l.above }

  h_closed : IsClosed task h
  h_closed m e has edge =
      let p = edges_grow.edges task (nodes_of h) (nodes_of f) m e (formed_nodes h h_formed) (formed_nodes f (formed task n f solved))
      (λ y i. lands_covered f y (h_below y (has_member h y i))) (λ y i. solved.passes.faultless y (has_member f y i)) (member_has h m has) edge in
      let l = solved.closed (with_state m p.from) (record { kind = e.kind; to = e.to; state = p.landed }) (has_member f (with_state m p.from) p.present) p.is_edge in
      lands_h (target e) (target_fits task (nodes_of h) m e (h_formed m has) (parts m.key m.state has).0 edge)
      (record { at = l.at; is = l.is; above = states_are_ordered.through e.state p.landed l.at p.above l.above })

  h_root : Lands h (reset_node task.assumptions)
  h_root = lands_h (reset_node task.assumptions) (none_fits (2 ^ enable_count (device_of task.flash)) (edges_lead_to_nodes.reset (device_of task.flash) (has_pairs task.assumptions)).masks) (comes_root task n f solved.comes)

  pub insts_fit : (inst : InstKey) → FamilyHasInst f inst → fits (device_of task.flash) inst ≡ true
  insts_fit inst has =
      let l = rounds_below task h h_formed h_clean h_closed h_root n f solved.comes has.0 has.1 in
      subst (λ (k : InstKey). fits (device_of task.flash) k ≡ true) has.2 (parts has.0.key l.at l.is).0
