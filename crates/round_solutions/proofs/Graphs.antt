-- The graph of a solved family, by its list of nodes.
use Rattle.std.proofs.Common.{◌≡◌, refl, sym, ap, ◌∙◌, subst, ℕ, zero, suc, ◌<◌, ◌≤◌, inl, inr, List, [], ◌∷◌, length, Some, Contains, slice_get, arith}
use Rattle.std.proofs.lemmas.List.{length-map}
use Rattle.std.proofs.lemmas.Option.{none-some, same_Some}
use Rattle.std.specs.FinMap.{entries, len-entries}
use Rattle.basics.specs.Lists.{one_at, get_inside}
use Rattle.basics.specs.Items.{contained_at, get_contained}
use Rattle.family_graph.proofs.Graphs.{keys_long}
use Rattle.avr_model.specs.Assumptions.{has_pairs}
use Rattle.avr_model.specs.Devices.{device_of}
use Rattle.abs_state.specs.Frames.{entered}
use Rattle.node_keys.specs.declared.keys.EdgeKind.{EdgeKind}
use Rattle.node_keys.specs.declared.keys.InstKey.{InstKey}
use Rattle.node_keys.specs.declared.keys.Kind.{Kind}
use Rattle.node_keys.specs.declared.keys.Kind.TheVariants.{Root, Call, Vector}
use Rattle.node_keys.specs.declared.keys.NodeKey.{NodeKey}
use Rattle.node_keys.specs.declared.keys.SpForm.TheVariants.{Closed}
use Rattle.node_keys.specs.Keys.{root_inst, entry_key, offset_of}
use Rattle.node_keys.specs.Order.{inst_cmp}
use Rattle.local_rules.specs.declared.local.Node.{Node}
use Rattle.edge_rules.specs.declared.edge.Edge.{Edge}
use Rattle.edge_rules.specs.Edges.{IsFaultless, Enters, by_call, by_interrupt, entering}
use Rattle.edge_rules.specs.Nest.{recurs, enters as by_node}
use Rattle.edge_rules.specs.Views.{AreShown}
use Rattle.edge_laws.specs.Laws.{with_state}
use Rattle.instance_graph.specs.declared.graph.Entered.{Entered}
use Rattle.instance_graph.specs.declared.graph.GraphInst.{GraphInst}
use Rattle.instance_graph.specs.declared.graph.ClosedNode.{ClosedNode}
use Rattle.instance_graph.specs.declared.graph.GraphWay.TheVariants.{Recur}
use Rattle.instance_graph.specs.declared.graph.GraphWay.TheVariants.{Enters as Enters_by}
use Rattle.instance_graph.specs.Graph as graph
use Rattle.instance_graph.specs.Cycle.{IsNamed, group_of}
use Rattle.family_graph.specs.Graphs.{insts_of, IsPeopled, IsGraphOf}
use Rattle.round_laws.specs.Graphs as told
use Rattle.round_laws.specs.Graphs.{IsNumber}
use Rattle.round_laws.proofs.GraphLaws.{graphs_tell}
use Rattle.certificate.specs.Valid.{reset_node}
use Rattle.round_rules.specs.Families.{Family, node_of, nodes_of, FamilyHas, FamilyHasInst}
use Rattle.round_rules.specs.Rounds.{IsEntering}
use Rattle.round_rules.specs.Refusals.{IsSolved}
use Rattle.round_laws.proofs.AllLaws.{has_member, member_has, formed_nodes, comes_root}
use Rattle.round_solutions.specs.Laws.{SolvedFamiliesAreShown, GraphsAreAcyclic}
use Rattle.round_solutions.proofs.Order.{ascending, before, inst_once, root_inst_first}
use Rattle.round_solutions.proofs.Lone.{formed}
use Rattle.local_rules.specs.Site.{Task}

-- the key of an instance, by its number
pub key_is : (gs : List GraphInst) (i : ℕ) (g : GraphInst) → slice_get gs i ≡ Some g → IsNumber (insts_of gs) i g.key
key_is [] i g e = absurd (none-some g e)
key_is (x ∷ xs) zero g e = ap Some (ap (λ (y : GraphInst). y.key) (same_Some x g e))
key_is (x ∷ xs) (suc i) g e = key_is xs i g e

-- only a node with a whole stack pointer enters an instance
closed_at : (task : Task) (n : Node) (way : EdgeKind) (inst : InstKey) (back : ℕ) → Enters task n way inst back → (offset : ℕ) × (n.key.sp ≡ Closed offset)
closed_at task n _ _ _ (by_call offset site clean form member) = (offset, form)
closed_at task n _ _ _ (by_interrupt offset v clears clean form i delay enabled allowed clearable) = (offset, form)

module _ (task : Task) (n : ℕ) (f : Family) (solved : IsSolved task n f) where
  abbrev nodes : List Node
  nodes = nodes_of f

  shown : AreShown (device_of task.flash) nodes
  shown = record { followed = has_pairs task.assumptions; ascending = ascending f; all = formed_nodes f (formed task n f solved) }

  -- the root's node is among them
  root_has : (m : Node) × (FamilyHas f m × (m.key ≡ entry_key root_inst))
  root_has = let l = comes_root task n f solved.comes in (with_state (reset_node task.assumptions) l.at, (l.is, refl))

  some : 0 < length nodes
  some = let i = member_has f root_has.0 root_has.1.0 in omega (arith, i.1)

  pub few : length nodes ≤ 65536
  few = omega (arith, length-map (entries f) node_of, len-entries f, solved.passes.fits.few_nodes)

  faultless : (m : Node) → Contains nodes m → IsFaultless task m
  faultless m i = solved.passes.faultless m (has_member f m i)

  peopled : IsPeopled task nodes
  peopled m way into back i enters =
      let e : Edge = record { kind = way; to = entry_key into; state = entered m.state } in
      let l = solved.closed m e (has_member f m i) (entering way into back enters) in
      let x : Node = record { key = entry_key into; state = l.at } in
      (x, (member_has f x l.is, refl))

  module _ (gs : List GraphInst) (is_graph : graph.IsGraph gs) (of : IsGraphOf task nodes gs) where
    abbrev keys : List InstKey
    keys = insts_of gs

    number_in : (inst : InstKey) → Contains keys inst → (i : ℕ) × IsNumber keys i inst
    number_in inst h = (h.0, get_contained keys inst h)

    pub numbered : (inst : InstKey) → FamilyHasInst f inst → (i : ℕ) × IsNumber keys i inst
    numbered inst h = number_in inst ((of.insts inst).1 (h.0, member_has f h.0 h.1, h.2))

    root_at : IsNumber keys 0 root_inst
    root_at =
        let h = numbered root_inst (root_has.0, root_has.1.0, ap (λ k. k.inst) root_has.1.1) in
        by h.0 h.1
      where
        by : (i : ℕ) → IsNumber keys i root_inst → IsNumber keys 0 root_inst
        by zero e = e
        by (suc i) e =
            let x = get_inside keys 0 (let g = is_graph.some in omega (arith, g, keys_long gs)) in
            absurd (root_inst_first x.0 (before inst_cmp keys 0 (suc i) x.0 root_inst of.ascending x.1 e (omega arith)))

    -- ---- entries

    graph_entered : (i : ℕ) (e : Entered) → graph.EntersAlong gs i e → told.IsEntered task f keys i e
    graph_entered i e h =
        let x = (of.entered i e).0 h in
        record {
          inst = x.inst;
          into = x.into;
          from = x.is;
          to = inl x.leads;
          entering = elim x.edge [
            | inl q ↦ by_node q.node q.kind q.back (has_member f q.node (contained_at nodes e.node q.node q.at)) q.same (ap offset_of q.closed) q.enters q.whole
            | inr q ↦ let n = (of.insts x.into).0 (contained_at keys e.into x.into x.leads) in recurs n.0 (has_member f n.0 n.1) n.2 q.cut q.root
          ];
        }

    all_entered : (i j : InstKey) (offset : ℕ) → IsEntering task f i j offset → told.HasEntryEdge keys gs i j offset
    all_entered i j offset (by_node n way back has is_i at e whole) =
        let member = member_has f n has in
        let from = numbered i (n, has, is_i) in
        let first = peopled n way j back member e in
        let to = number_in j ((of.insts j).1 (first.0, first.1.0, ap (λ (k : NodeKey). k.inst) first.1.1)) in
        let c = closed_at task n way j back e in
        let same : c.0 ≡ offset = sym (ap offset_of c.1) ∙ at in
        let edge : Entered = record { node = member.0; offset = offset; way = Enters_by way; into = to.0 } in
        record {
          number = from.0;
          edge = edge;
          enters = (of.entered from.0 edge).1 record {
            inst = i;
            is = from.1;
            into = j;
            leads = to.1;
            edge = inl (record { node = n; at = get_contained nodes n member; same = is_i; closed = c.1 ∙ ap Closed same; kind = way; way = refl; back = back; enters = e; whole = whole });
          };
          from = from.1;
          to = inl to.1;
          at = refl;
        }
    all_entered i j offset (recurs n has is_j cut top) =
        let to = numbered j (n, has, is_j) in
        let from : IsNumber keys 0 i = subst (IsNumber keys 0) (sym top) root_at in
        let edge : Entered = record { node = length nodes; offset = offset; way = Recur; into = to.0 } in
        record {
          number = 0;
          edge = edge;
          enters = (of.entered 0 edge).1 record { inst = i; is = from; into = j; leads = to.1; edge = inr (record { root = top; way = refl; behind = refl; cut = cut }) };
          from = from;
          to = inl to.1;
          at = refl;
        }

    -- ---- closed nodes

    graph_nodes : (i : ℕ) (p : ClosedNode) → graph.HasClosedNode gs i p → told.IsFamilyNode f keys i p.offset
    graph_nodes i p h =
        let x = (of.closed i p).0 h in
        record {
          node = x.of.node;
          has = has_member f x.of.node (contained_at nodes p.node x.of.node x.of.at);
          closed = x.of.closed;
          of = subst (λ (k : InstKey). IsNumber keys i k) (sym x.of.same) x.is;
        }

    all_closed : (m : Node) (offset : ℕ) → FamilyHas f m → m.key.sp ≡ Closed offset → told.HasGraphNode keys gs m.key.inst offset
    all_closed m offset has closed =
        let member = member_has f m has in
        let number = numbered m.key.inst (m, has, refl) in
        let p : ClosedNode = record { node = member.0; offset = offset } in
        record {
          number = number.0;
          closed = p;
          has = (of.closed number.0 p).1 record { inst = m.key.inst; is = number.1; of = record { node = m; at = get_contained nodes m member; same = refl; closed = closed } };
          of = number.1;
          at = refl;
        }

    -- ---- the graph

    keyed : (i : ℕ) (g : GraphInst) (inst : InstKey) → slice_get gs i ≡ Some g → IsNumber keys i inst → g.key ≡ inst
    keyed i g inst e d = one_at keys i g.key inst (key_is gs i g e) d

    pub graph_is : told.IsGraphOver task f keys gs
    graph_is = record {
      is_graph = is_graph;
      inside = omega (arith, keys_long gs);
      root = root_at;
      keyed = keyed;
      once = λ i j inst a b. inst_once keys i j inst of.ascending a b;
      numbered = numbered;
      entered = graph_entered;
      all_entered = all_entered;
      closed = graph_nodes;
      all_closed = all_closed;
    }

    acyclic : (at : ℕ) → IsNamed gs at → ⊥
    acyclic at named =
        let inst = get_inside keys at (graphs_tell.named task f keys gs at graph_is named) in
        by inst.0 inst.1 inst.0.kind refl
      where
        recursive : (inst : InstKey) → IsNumber keys at inst → group_of inst.kind ≡ 1 → ⊥
        recursive inst is one = let r = graphs_tell.recursion task f keys gs at inst graph_is named is one in solved.passes.acyclic r.inst r.reaches

        by : (inst : InstKey) → IsNumber keys at inst → (kind : Kind) → inst.kind ≡ kind → ⊥
        by inst is Root e = recursive inst is (ap group_of e)
        by inst is Call e = recursive inst is (ap group_of e)
        by inst is (Vector v) e = let r = graphs_tell.re_entry task f keys gs at v inst graph_is named is e in solved.passes.acyclic r.inst r.reaches

pub solved_families_are_shown : SolvedFamiliesAreShown
solved_families_are_shown = record { shown = shown; some = some; few = few; faultless = faultless; peopled = peopled }

pub graphs_are_acyclic : GraphsAreAcyclic
graphs_are_acyclic task n f gs at solved is_graph of named = acyclic task n f solved gs is_graph of at named
