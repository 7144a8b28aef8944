-- What the conditions on a certificate say of the graph of its family.
use Rattle.std.proofs.Common.{arith, refl, sym, ap, subst, ◌∙◌, ◌≡◌, ℕ, zero, suc, ◌+◌, ◌<◌, ◌≤◌, Bool, List, [], ◌∷◌, map, length, unwrap_or, Option, Some, slice_get, slice_index, get_or, Contains, inl, inr, nat_cmp, Ordering, Less, Greater}
use Rattle.std.specs.Cmp.{nat_cmp_is}
use Rattle.std.specs.Cmp.Lexicographic.{slice_cmp}
use Rattle.std.specs.Int.{from_bool}
use Rattle.std.specs.List.Sorted.{IsStrictlySortedBy}
use Rattle.std.specs.Ordering.{ordering_then}
use Rattle.std.proofs.lemmas.Option.{slice_get_within, get_or_from_slice_get}
use Rattle.std.proofs.lemmas.List.{length-map}
use Rattle.std.proofs.lemmas.Map.Keys.{Less-from_sorted}
use Rattle.basics.specs.Items.{contained_at, get_contained}
use Rattle.abs_state.specs.Frames.{entered}
use Rattle.avr_model.specs.Devices.{device_of, back_of}
use Rattle.node_keys.specs.declared.keys.EdgeKind.{EdgeKind}
use Rattle.node_keys.specs.declared.keys.Kind.{Kind}
use Rattle.node_keys.specs.declared.keys.Kind.TheVariants.{Root, Call, Vector}
use Rattle.node_keys.specs.declared.keys.InstKey.{InstKey}
use Rattle.node_keys.specs.declared.keys.NodeKey.{NodeKey}
use Rattle.node_keys.specs.Keys.{root_inst, entry_key, inst_numbers, offset_of, cut_at}
use Rattle.node_keys.specs.Order.{inst_cmp}
use Rattle.local_rules.specs.declared.local.Node.{Node}
use Rattle.local_laws.specs.Laws.{HasKey}
use Rattle.edge_rules.specs.Edges.{Enters, entering}
use Rattle.edge_rules.specs.Nest.{NestEdge, recurs, enters as by_node}
use Rattle.edge_rules.specs.Families.{IsCovered}
use Rattle.instance_graph.specs.declared.graph.GraphInst.{GraphInst}
use Rattle.instance_graph.specs.declared.graph.ClosedNode.{ClosedNode}
use Rattle.instance_graph.specs.Graph as graph
use Rattle.instance_graph.specs.Chain.{HasSome, HaveClosedNodes}
use Rattle.instance_graph.specs.Least.{IsLeast}
use Rattle.instance_graph.specs.declared.graph.Entered.{Entered}
use Rattle.family_graph.specs.Graphs.{insts_of, IsPeopled, AreRooted, HasEntryOf, IsGraphOf}
use Rattle.certificate.specs.Insts.{rank_in, need_in}
use Rattle.certificate.specs.Claims.{Claim}
use Rattle.certificate.specs.Valid.{IsSound, MeetsConditions}
use Rattle.edge_rules.specs.Expansion.{IsFilled}
use Rattle.edge_laws.specs.Expansions.{FilledOrMissing}
use Rattle.family_graph.specs.Laws.{DeepestChainsAreBounded}
use Rattle.local_rules.specs.Site.{Task}

member_of : (nodes : List Node) (n : Node) (at : ℕ) → slice_get nodes at ≡ Some n → Contains nodes n
member_of nodes n at e = (at, slice_get_within nodes at n e, get_or_from_slice_get nodes at n n e)

-- ---- the root is the first instance

not_below : (x : ℕ) (o : Ordering) → (o ≡ Less → ⊥) → ordering_then (nat_cmp x 0) o ≡ Less → ⊥
not_below zero o later e = later e
not_below (suc x) o later e =
    let above : Greater ≡ nat_cmp (suc x) 0 = nat_cmp_is (suc x) 0 Greater (omega arith) in
    let less : Greater ≡ Less = subst (λ (r : Ordering). ordering_then r o ≡ Less) (sym above) e in
    absurd cc

-- nothing comes before a list of this many zeros
zeros_least : (xs : List ℕ) → slice_cmp nat_cmp xs (map (λ x. 0) xs) ≡ Less → ⊥
zeros_least [] e = absurd cc
zeros_least (x ∷ xs) e = not_below x (slice_cmp nat_cmp xs (map (λ y. 0) xs)) (zeros_least xs) e

least_by : (kind : Kind) (entry masks : ℕ) (i : Bool) → inst_cmp (record { kind = kind; entry = entry; masks = masks; i = i }) root_inst ≡ Less → ⊥
unfolding inst_cmp inst_numbers
least_by Root entry masks i e = zeros_least (0 ∷ 0 ∷ entry ∷ masks ∷ from_bool i ∷ []) e
least_by Call entry masks i e = zeros_least (1 ∷ 0 ∷ entry ∷ masks ∷ from_bool i ∷ []) e
least_by (Vector v) entry masks i e = zeros_least (2 ∷ v ∷ entry ∷ masks ∷ from_bool i ∷ []) e

root_least : (x : InstKey) → inst_cmp x root_inst ≡ Less → ⊥
root_least x e = least_by x.kind x.entry x.masks x.i e

root_at : (insts : List InstKey) (k : ℕ) → k < length insts → IsStrictlySortedBy inst_cmp insts → slice_get insts k ≡ Some root_inst → slice_get insts 0 ≡ Some root_inst
root_at insts zero within ascending is = is
root_at insts (suc k) within ascending is =
    let less = Less-from_sorted inst_cmp insts 0 (suc k) root_inst ascending (omega arith) within in
    let e : get_or insts (suc k) root_inst ≡ root_inst = get_or_from_slice_get insts (suc k) root_inst root_inst is in
    absurd (root_least (get_or insts 0 root_inst) (subst (λ (y : InstKey). inst_cmp (get_or insts 0 root_inst) y ≡ Less) e less))

-- the nodes of a certificate have one expansion, which meets the conditions
pub meets_conditions : (task : Task) (c : Claim) → FilledOrMissing → IsSound task c → (nodes : List Node) → IsFilled task c.nodes nodes
    → MeetsConditions task c nodes
meets_conditions task c law sound nodes filled = subst (MeetsConditions task c) (law.one task c.nodes sound.nodes nodes sound.expanded filled) sound.meets

module _ (task : Task) (c : Claim) (nodes : List Node) (meets : MeetsConditions task c nodes) where
  member : (n : Node) (at : ℕ) → slice_get nodes at ≡ Some n → Contains nodes n
  member n at e = member_of nodes n at e

  -- an entered instance has its first node
  landed : (n : Node) (way : EdgeKind) (into : InstKey) (back : ℕ) → Contains nodes n → Enters task n way into back
      → IsCovered nodes (record { key = entry_key into; state = entered n.state })
  landed n way into back has enters = meets.edges n (record { kind = way; to = entry_key into; state = entered n.state }) has (entering way into back enters)

  pub peopled : IsPeopled task nodes
  peopled n way into back has enters = let l = landed n way into back has enters in (record { key = entry_key into; state = l.state }, (l.present, refl))

  pub some_node : 0 < length nodes
  some_node = omega (arith, meets.reset.present.1)

  module _ (gs : List GraphInst) (is : IsGraphOf task nodes gs) where
    abbrev pub key_at : ℕ → InstKey
    key_at i = unwrap_or (slice_get (insts_of gs) i) root_inst

    key_is : (i : ℕ) (inst : InstKey) → slice_get (insts_of gs) i ≡ Some inst → inst ≡ key_at i
    key_is i inst e = sym (ap (λ (x : Option InstKey). unwrap_or x root_inst) e)

    -- an edge of the graph is one of the nest
    nest_edge : (i : ℕ) (e : Entered) (h : HasEntryOf task nodes (insts_of gs) i e) → NestEdge task (Contains nodes) h.inst h.into e.offset
    nest_edge i e h = elim h.edge [
      | inl q ↦ by_node q.node q.kind q.back (member q.node e.node q.at) q.same (ap offset_of q.closed) q.enters q.whole
      | inr q ↦ let n = (is.insts h.into).0 (contained_at (insts_of gs) e.into h.into h.leads) in recurs n.0 n.1 n.2 q.cut q.root
    ]

    pub ranked : graph.AreGraphRanks gs (λ i. rank_in c.instances (key_at i))
    ranked i e along =
        let h = (is.entered i e).0 along in
        subst (λ (x : InstKey). rank_in c.instances x < rank_in c.instances (key_at i)) (key_is e.into h.into h.leads)
        (subst (λ (x : InstKey). rank_in c.instances h.into < rank_in c.instances x) (key_is i h.inst h.is)
        (meets.ranks h.inst h.into e.offset (nest_edge i e h)))

    pub suffices : graph.AreGraphNeeds (back_of (device_of task.flash)) gs (λ i. need_in c.instances (key_at i))
    suffices =
        record {
          offsets = λ i p has.
              let h = (is.closed i p).0 has in
              subst (λ (x : InstKey). p.offset ≤ need_in c.instances x) (key_is i h.inst h.is)
              ((meets.needs h.inst).offsets h.of.node p.offset (member h.of.node p.node h.of.at) h.of.same h.of.closed);
          entered = λ i e enters.
              let h = (is.entered i e).0 enters in
              let n = (meets.needs h.inst).entered h.into e.offset (nest_edge i e h) in
              subst (λ (x : InstKey). e.offset + back_of (device_of task.flash) + need_in c.instances x ≤ need_in c.instances (key_at i)) (key_is e.into h.into h.leads)
              (subst (λ (x : InstKey). e.offset + back_of (device_of task.flash) + need_in c.instances h.into ≤ need_in c.instances x) (key_is i h.inst h.is) n);
        }

    -- the covered first node of an instance is closed
    node_by : (inst : InstKey) (i : ℕ) → slice_get (insts_of gs) i ≡ Some inst → HasKey nodes (entry_key inst) → HasSome gs i
    node_by inst i e has =
        let p : ClosedNode = record { node = has.1.0.0; offset = 0 } in (
          p,
          (is.closed i p).1
              (record {
                inst = inst;
                is = e;
                of = record { node = has.0; at = get_contained nodes has.0 has.1.0; same = ap (λ (k : NodeKey). k.inst) has.1.1; closed = ap (λ (k : NodeKey). k.sp) has.1.1 };
              }),
        )

    node_at : (inst : InstKey) (i : ℕ) → slice_get (insts_of gs) i ≡ Some inst → (s : _) → IsCovered nodes (record { key = entry_key inst; state = s }) → HasSome gs i
    node_at inst i e s covered = node_by inst i e (record { key = entry_key inst; state = covered.state }, (covered.present, refl))

    pub root_first : slice_get (insts_of gs) 0 ≡ Some root_inst
    root_first =
        let has = (is.insts root_inst).1 (record { key = entry_key root_inst; state = meets.reset.state }, meets.reset.present, refl) in
        root_at (insts_of gs) has.0 has.1 is.ascending (get_contained (insts_of gs) root_inst has)

    pub have_closed_nodes : AreRooted task nodes → HaveClosedNodes gs
    have_closed_nodes rooted =
        record {
          root = node_at root_inst 0 root_first _ meets.reset;
          entered = λ i e enters.
              let h = (is.entered i e).0 enters in
              elim h.edge [
                | inl q ↦ node_at h.into e.into h.leads _ (landed q.node q.kind h.into q.back (member q.node e.node q.at) q.enters)
                | inr q ↦
                    let n = (is.insts h.into).0 (contained_at (insts_of gs) e.into h.into h.leads) in
                    let own = rooted n.0 e.offset n.1 (subst (λ (k : InstKey). cut_at task.assumptions k ≡ Some e.offset) (sym n.2) q.cut) in
                    node_by h.into e.into h.leads (subst (λ (k : InstKey). HasKey nodes (entry_key k)) n.2 own)
              ];
        }

    pub root_bound : (ranks needs : List ℕ) → IsLeast (back_of (device_of task.flash)) gs ranks needs → 0 < length gs → slice_index needs 0 ≤ c.bound
    root_bound ranks needs least some =
        let n = least.least_needs (λ i. need_in c.instances (key_at i)) suffices 0 some in
        let r : key_at 0 ≡ root_inst = sym (key_is 0 root_inst root_first) in
        let root : slice_index needs 0 ≤ need_in c.instances root_inst = subst (λ (x : InstKey). slice_index needs 0 ≤ need_in c.instances x) r n in
        omega (arith, root, meets.bounded.enough)

-- ---- the law

pub chains_are_bounded : DeepestChainsAreBounded
chains_are_bounded =
    record {
      need = λ task c nodes need links meets d.
          let inside : 0 < length (insts_of d.graph) = slice_get_within (insts_of d.graph) 0 root_inst (root_first task c nodes meets d.graph d.family) in
          let same : length (insts_of d.graph) ≡ length d.graph = length-map d.graph (λ g. g.key) in
          let under = root_bound task c nodes meets d.graph d.family d.ranks d.needs d.least (omega (arith, inside, same)) in
          let root = d.root in
          omega (arith, under, root);
      root = λ task c nodes meets graph family. root_first task c nodes meets graph family;
    }
