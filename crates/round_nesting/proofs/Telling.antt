-- The graph justifies the verdict for each family with these notes.
use Rattle.std.proofs.Common.{◌≡◌, refl, sym, ap, ◌∙◌, subst, List, ◌∷◌, Some, slice_get, slice_index, slice_index_or, ℕ, ◌<◌, ◌≤◌, length, Contains, arith}
use Rattle.std.proofs.lemmas.Option.{slice_get_within, slice_get-get_or}
use Rattle.avr_model.specs.declared.device.Device.{Device}
use Rattle.avr_model.specs.Devices.{device_of, size_of, back_of}
use Rattle.node_keys.specs.declared.keys.InstKey.{InstKey}
use Rattle.node_keys.specs.declared.keys.Kind.TheVariants.{Vector}
use Rattle.node_keys.specs.declared.keys.SpForm.TheVariants.{Closed}
use Rattle.local_rules.specs.declared.local.Node.{Node}
use Rattle.basics.specs.Items.{first_in}
use Rattle.node_keys.specs.Keys.{root_inst}
use Rattle.edge_rules.specs.Nest.{recurs, enters as by_node}
use Rattle.instance_graph.specs.declared.graph.Entered.{Entered}
use Rattle.instance_graph.specs.declared.graph.GraphInst.{GraphInst}
use Rattle.instance_graph.specs.declared.graph.ClosedNode.{ClosedNode}
use Rattle.instance_graph.specs.Graph as graph
use Rattle.instance_graph.specs.Cycle.{IsNamed, group_of}
use Rattle.instance_graph.specs.Least.{IsLeast}
use Rattle.round_rules.specs.Families.{Family, FamilyHas, FamilyHasInst}
use Rattle.round_rules.specs.Rounds.{IsEntering}
use Rattle.round_laws.specs.Graphs.{GraphsTell, IsGraphOver, IsNumber, IsNumberFor, IsEntered, HasEntryEdge, IsFamilyNode as IsNodeIn, HasGraphNode}
use Rattle.round_nesting.specs.declared.verdict.NestingVerdict.TheVariants.{Nests, ReEntry, Recursion, TooDeep}
use Rattle.round_nesting.specs.Nestings.{Noted, AreOnce, IsNestingOf, TellsAll}
use Rattle.round_nesting.specs.declared.verdict.NestingVerdict.{NestingVerdict}
use Rattle.round_nesting.specs.Drawn.{number_of, IsDrawn, GraphTells}
use Rattle.round_nesting.proofs.Numbers.{there, stands, numbered}
use Rattle.local_rules.specs.Site.{Task}

module _ (n : Noted) (others : List InstKey) (gs : List GraphInst) (drawn : IsDrawn (root_inst ∷ others) n.spots n.entrances gs) (is : n.insts ≡ root_inst ∷ others) (once : AreOnce n.insts) where
  abbrev keys : List InstKey
  keys = root_inst ∷ others

  module _ (task : Task) (f : Family) (nesting : IsNestingOf task f n) where
    number_is : (inst : InstKey) → FamilyHasInst f inst → IsNumber keys (number_of keys inst) inst
    number_is inst h = numbered keys inst (subst (λ l. Contains l inst) is ((nesting.insts inst).1 h))

    -- the upper instance of an edge is numbered: it has a node, or is the root
    upper_is : (i j : InstKey) (depth : ℕ) → IsEntering task f i j depth → IsNumber keys (number_of keys i) i
    upper_is i j depth (by_node node way back has same at e whole) = number_is i (node, has, same)
    upper_is i j depth (recurs node has same cut top) = subst (λ (k : InstKey). IsNumber keys (number_of keys k) k) (sym top) (numbered keys root_inst (first_in root_inst others))

    entered : (i : ℕ) (e : Entered) → graph.EntersAlong gs i e → IsEntered task f keys i e
    entered i e h =
        let x = drawn.edges i e h in
        let entering = (nesting.entrances x.entrance).0 x.has in
        record {
          inst = x.entrance.from;
          into = x.entrance.into;
          from = subst (λ j. IsNumber keys j x.entrance.from) x.from (upper_is x.entrance.from x.entrance.into x.entrance.offset entering);
          to = subst (λ j. IsNumberFor keys j x.entrance.into) x.into (stands keys x.entrance.into);
          entering = subst (IsEntering task f x.entrance.from x.entrance.into) x.at entering;
        }

    all_entered : (i j : InstKey) (offset : ℕ) → IsEntering task f i j offset → HasEntryEdge keys gs i j offset
    all_entered i j offset entering =
        let x = drawn.all_edges (record { from = i; into = j; offset = offset }) ((nesting.entrances (record { from = i; into = j; offset = offset })).1 entering) in
        record {
          number = number_of keys i;
          edge = x.edge;
          enters = x.enters;
          from = upper_is i j offset entering;
          to = subst (λ k. IsNumberFor keys k j) x.into (stands keys j);
          at = sym x.at;
        }

    closed_nodes : (i : ℕ) (p : ClosedNode) → graph.HasClosedNode gs i p → IsNodeIn f keys i p.offset
    closed_nodes i p h =
        let x = drawn.closed i p h in
        let spot = (nesting.spots x.spot).0 x.has in
        record {
          node = spot.node;
          has = spot.has;
          closed = spot.closed ∙ ap (λ (k : ℕ). Closed k) x.at;
          of = subst (λ k. IsNumber keys i k) (sym spot.of) (subst (λ j. IsNumber keys j x.spot.inst) x.of (number_is x.spot.inst (spot.node, spot.has, spot.of)));
        }

    all_closed : (node : Node) (offset : ℕ) → FamilyHas f node → node.key.sp ≡ Closed offset → HasGraphNode keys gs node.key.inst offset
    all_closed node offset has closed =
        let x = drawn.all_closed (record { inst = node.key.inst; offset = offset })
        ((nesting.spots (record { inst = node.key.inst; offset = offset })).1 (record { node = node; has = has; of = refl; closed = closed })) in
        record { number = number_of keys node.key.inst; closed = x.closed; has = x.has; of = number_is node.key.inst (node, has, refl); at = sym x.at }

    pub is_graph_of : IsGraphOver task f keys gs
    is_graph_of = record {
      is_graph = drawn.is_graph;
      inside = omega (arith, drawn.count);
      root = refl;
      keyed = drawn.keyed;
      once = subst AreOnce is once;
      numbered = λ inst h. (number_of keys inst, number_is inst h);
      entered = entered;
      all_entered = all_entered;
      closed = closed_nodes;
      all_closed = all_closed;
    }

  pub tells_all : (device : Device) (w : NestingVerdict) → GraphTells device gs w → TellsAll device n w
  tells_all device w tells task f sized root nesting = tells task f keys sized (is_graph_of task f nesting)

-- ---- from the graph

module _ (tell : GraphsTell) (gs : List GraphInst) where
  module _ (at : ℕ) (g : GraphInst) (is : slice_get gs at ≡ Some g) (named : IsNamed gs at) where
    number : (task : Task) (f : Family) (keys : List InstKey) → IsGraphOver task f keys gs → IsNumber keys at g.key
    number task f keys of =
        let k = there keys at (tell.named task f keys gs at of named) in
        k.1 ∙ ap (λ (x : InstKey). Some x) (sym (of.keyed at g k.0 is k.1))

    pub re_entry : (v : ℕ) → g.key.kind ≡ Vector v → (device : Device) → GraphTells device gs (ReEntry v g.key.entry)
    re_entry v kind device task f keys sized of = tell.re_entry task f keys gs at v g.key of named (number task f keys of) kind

    pub recursion : group_of g.key.kind ≡ 1 → (device : Device) → GraphTells device gs (Recursion g.key.entry)
    recursion one device task f keys sized of = tell.recursion task f keys gs at g.key of named (number task f keys of) one

  module _ (device : Device) (ranks needs : List ℕ) (least : IsLeast (back_of device) gs ranks needs) (acyclic : (i : ℕ) → graph.ReachesBy gs i i → ⊥) where
    -- for a firmware of the device
    least_of : (task : Task) → device_of task.flash ≡ device → IsLeast (back_of (device_of task.flash)) gs ranks needs
    least_of task sized = subst (λ d. IsLeast (back_of d) gs ranks needs) (sym sized) least

    pub nests : slice_index needs 0 ≤ size_of device → GraphTells device gs Nests
    nests le task f keys sized of =
        let root = tell.root task f keys gs ranks needs of (least_of task sized) in
        (tell.acyclic task f keys gs of acyclic, record { need = root.need; are = root.are; small = omega (arith, root.is, le, ap size_of sized) })

    pub too_deep : size_of device < slice_index needs 0 → GraphTells device gs (TooDeep (slice_index needs 0))
    too_deep lt task f keys sized of = (tell.acyclic task f keys gs of acyclic, tell.root task f keys gs ranks needs of (least_of task sized), omega (arith, lt, ap size_of sized))

-- ---- a named instance is there

starts : (gs : List GraphInst) (i j : ℕ) → graph.ReachesBy gs i j → (g : GraphInst) × (slice_get gs i ≡ Some g)
starts gs _ _ (graph.once a e h) = (h.inst, h.is)
starts gs _ _ (graph.more a b e h rest) = (h.inst, h.is)

pub named_within : (gs : List GraphInst) (at : ℕ) → IsNamed gs at → at < length gs
named_within gs at named = let g = starts gs at at named.reaches in slice_get_within gs at g.0 g.1

pub named_is : (gs : List GraphInst) (at : ℕ) (d : GraphInst) → IsNamed gs at → slice_get gs at ≡ Some (slice_index_or gs at d)
named_is gs at d named = slice_get-get_or gs at d (named_within gs at named)
