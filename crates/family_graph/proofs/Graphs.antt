-- The whole graph.
use Rattle.std.proofs.Common.{arith, refl, sym, ap, subst, ◌∙◌, ◌≡◌, ℕ, suc, ◌+◌, ◌<◌, ◌≤◌, List, [], ◌∷◌, ◌++◌, length, length-append, Some, slice_get, Contains, inl, inr}
use Rattle.std.specs.Prelude.{◌↔◌}
use Rattle.std.specs.Option.{option_map}
use Rattle.std.specs.List.Sorted.{IsStrictlySortedBy}
use Rattle.std.proofs.lemmas.Option.{slice_get_within, slice_get-map, same_Some}
use Rattle.basics.specs.Lists.{one_at, get_pushed}
use Rattle.basics.specs.Items.{contained_at, get_contained}
use Rattle.basics.specs.Numbers.{before_or_last}
use Rattle.avr_model.specs.State.{SIZE}
use Rattle.vector_table.specs.Entries.{AreEntries}
use Rattle.edge_laws.proofs.AllLaws.{cut_depths_are_small}
use Rattle.avr_model.proofs.AllLaws.{devices_are_alike}
use Rattle.node_keys.specs.declared.keys.InstKey.{InstKey}
use Rattle.node_keys.specs.declared.keys.SpForm.TheVariants.{Closed}
use Rattle.node_keys.specs.Keys.{offset_of}
use Rattle.node_keys.specs.Order.{inst_cmp}
use Rattle.local_rules.specs.declared.local.Node.{Node}
use Rattle.family_edges.specs.Shown.{AreOfSomeDevice}
use Rattle.instance_graph.specs.declared.graph.Entered.{Entered}
use Rattle.instance_graph.specs.declared.graph.GraphInst.{GraphInst}
use Rattle.instance_graph.specs.declared.graph.ClosedNode.{ClosedNode}
use Rattle.instance_graph.specs.Graph as graph
use Rattle.family_graph.specs.Graphs.{insts_of, HasInst, HasClosedNodeOf, HasEntryOf, IsGraphOf}
use Rattle.family_graph.specs.Numbers.{AreInstNumbers, IsInstOf, AreGraphInsts}
use Rattle.family_graph.proofs.Lists.{get_left}
use Rattle.local_rules.specs.Site.{Task}

pub keys_long : (gs : List GraphInst) → length (insts_of gs) ≡ length gs
keys_long [] = refl
keys_long (g ∷ gs) = ap suc (keys_long gs)

-- lists with the same items are equal
lists_same : (xs ys : List InstKey) → length xs ≡ length ys → ((i : ℕ) (x : InstKey) → slice_get ys i ≡ Some x → slice_get xs i ≡ Some x) → xs ≡ ys
lists_same [] [] e h = refl
lists_same [] (y ∷ ys) e h = absurd (omega (arith, e))
lists_same (x ∷ xs) [] e h = absurd (omega (arith, e))
lists_same (x ∷ xs) (y ∷ ys) e h =
    let first : x ≡ y = same_Some x y (h 0 y refl) in
    let rest = lists_same xs ys (omega (arith, e)) (λ i z g. h (suc i) z g) in
    cc

module _ (task : Task) (nodes : List Node) (insts : List InstKey) where
  abbrev pub Made : ℕ → List GraphInst → Type 0
  Made i gs = AreGraphInsts task nodes insts i gs

  pub made_more : (i : ℕ) (gs : List GraphInst) (inst : InstKey) (g : GraphInst) → Made i gs → slice_get insts i ≡ Some inst → IsInstOf task nodes insts inst g → Made (i + 1) (gs ++ g ∷ [])
  made_more i gs inst g made is of =
      record {
        count_is = omega (arith, length-append gs (g ∷ []), made.count_is);
        each = λ j k lt e. elim (before_or_last j i lt) [
          | inl less ↦ let m = made.each j k less e in (m.0, get_left gs (g ∷ []) j m.0 m.1, m.2)
          | inr same ↦
              let this : inst ≡ k = one_at insts i inst k is (subst (λ (x : ℕ). slice_get insts x ≡ Some k) same e) in
              (g, subst (λ (x : ℕ). slice_get (gs ++ g ∷ []) x ≡ Some g) (sym (same ∙ sym made.count_is)) (get_pushed gs g), subst (λ (x : InstKey). IsInstOf task nodes insts x g) this of)
        ];
      }

  module _ (numbers : List ℕ) (are : AreInstNumbers nodes (length nodes) insts numbers) (gs : List GraphInst) (made : Made (length insts) gs) where
    keys_are : insts_of gs ≡ insts
    keys_are =
        lists_same (insts_of gs) insts (keys_long gs ∙ made.count_is)
        (λ i x e. let m = made.each i x (slice_get_within insts i x e) e in slice_get-map (λ (g : GraphInst). g.key) gs i ∙ ap (option_map (λ (g : GraphInst). g.key)) m.1 ∙ ap (λ (k : InstKey). Some k) m.2.key)

    at_key : (i : ℕ) (g : GraphInst) → slice_get gs i ≡ Some g → slice_get insts i ≡ Some g.key
    at_key i g is = subst (λ (ks : List InstKey). slice_get ks i ≡ Some g.key) keys_are (slice_get-map (λ (g : GraphInst). g.key) gs i ∙ ap (option_map (λ (g : GraphInst). g.key)) is)

    inst_at : (i : ℕ) (g : GraphInst) (inst : InstKey) → slice_get gs i ≡ Some g → slice_get insts i ≡ Some inst → IsInstOf task nodes insts inst g
    inst_at i g inst is e =
        let m = made.each i inst (slice_get_within insts i inst e) e in
        subst (IsInstOf task nodes insts inst) (one_at gs i m.0 g m.1 is) m.2

    node_of : (i : ℕ) (p : ClosedNode) → graph.HasClosedNode gs i p ↔ HasClosedNodeOf nodes insts i p
    node_of i p = (
      λ h.
          let k = at_key i h.inst h.is in
          record { inst = h.inst.key; is = k; of = ((inst_at i h.inst h.inst.key h.is k).closed p).0 h.has },
      λ h.
          let m = made.each i h.inst (slice_get_within insts i h.inst h.is) h.is in
          record { inst = m.0; is = m.1; has = (m.2.closed p).1 h.of },
    )

    entry_of : (i : ℕ) (e : Entered) → graph.EntersAlong gs i e ↔ HasEntryOf task nodes insts i e
    entry_of i e = (
      λ h.
          let k = at_key i h.inst h.is in
          let f = ((inst_at i h.inst h.inst.key h.is k).entered e).0 h.has in
          record { inst = h.inst.key; is = k; into = f.into; leads = f.leads; edge = f.edge },
      λ h.
          let m = made.each i h.inst (slice_get_within insts i h.inst h.is) h.is in
          record { inst = m.0; is = m.1; has = (m.2.entered e).1 (record { into = h.into; leads = h.leads; edge = h.edge }) },
    )

    inst_of : (inst : InstKey) → Contains insts inst ↔ HasInst nodes inst
    inst_of inst = (
      are.used inst,
      λ h.
          let k = h.1.0 in
          subst (Contains insts) h.2 (contained_at insts _ h.0.key.inst (are.named k h.0 h.1.1 (get_contained nodes h.0 h.1))),
    )

    pub graph_is : IsGraphOf task nodes gs
    graph_is =
        record {
          ascending = subst (IsStrictlySortedBy inst_cmp) (sym keys_are) are.ascending;
          insts = λ inst. subst (λ (ks : List InstKey). Contains ks inst ↔ HasInst nodes inst) (sym keys_are) (inst_of inst);
          closed = λ i p. subst (λ (ks : List InstKey). graph.HasClosedNode gs i p ↔ HasClosedNodeOf nodes ks i p) (sym keys_are) (node_of i p);
          entered = λ i e. subst (λ (ks : List InstKey). graph.EntersAlong gs i e ↔ HasEntryOf task nodes ks i e) (sym keys_are) (entry_of i e);
        }

-- ---- it is a graph

first_of : (nodes : List Node) → 0 < length nodes → (n : Node) × (slice_get nodes 0 ≡ Some n)
first_of [] h = absurd (omega (arith, h))
first_of (n ∷ ns) h = (n, refl)

module _ (task : Task) (nodes : List Node) (shown : AreOfSomeDevice nodes) (entries : AreEntries task.assumptions) (gs : List GraphInst) (is : IsGraphOf task nodes gs) where
  small : (n : Node) (at offset : ℕ) → slice_get nodes at ≡ Some n → n.key.sp ≡ Closed offset → offset ≤ SIZE
  small n at offset here closed =
      let small = (shown.1.all n (contained_at nodes at n here)).small in omega (arith, small, ap offset_of closed, devices_are_alike.most_depth shown.0)

  some_inst : 0 < length nodes → 0 < length (insts_of gs)
  some_inst some =
      let n = first_of nodes some in
      let has = (is.insts n.0.key.inst).1 (n.0, contained_at nodes 0 n.0 n.1, refl) in
      omega (arith, has.1)

  pub composable : 0 < length nodes → length gs ≤ 65537 → graph.IsGraph gs
  composable some few =
      record {
        some = omega (arith, some_inst some, keys_long gs);
        few = few;
        offsets = λ i p h. let q = ((is.closed i p).0 h).of in small q.node p.node p.offset q.at q.closed;
        edges = λ i e h. let q = (is.entered i e).0 h in elim q.edge [ inl x ↦ small x.node e.node e.offset x.at x.closed | inr x ↦ cut_depths_are_small task.assumptions q.into e.offset entries x.cut ];
        within = λ i e h. let q = (is.entered i e).0 h in omega (arith, slice_get_within (insts_of gs) e.into q.into q.leads, keys_long gs);
      }
