-- The edges of a family by its landings.
use Rattle.std.proofs.Common.{◌≡◌, refl, sym, ap, ◌∙◌, subst, ℕ, zero, suc, ◌<◌, ◌≤◌, Bool, true, false, List, [], ◌∷◌, length, map, get_or, Some, slice_get, Contains, arith}
use Rattle.std.specs.Prelude.{if◌then◌else◌}
use Rattle.std.proofs.lemmas.List.{length-map}
use Rattle.std.proofs.lemmas.Option.{slice_get_within}
use Rattle.basics.specs.Items.{place_of_contained, contained_at, only_one_in, contained_in_join, each_of_join, inside_if_contained, none_in, first_in}
use Rattle.basics.specs.Lists.{one_at, get_inside}
use Rattle.edge_rules.specs.Places.{found_at}
use Rattle.avr_model.specs.Devices.{device_of}
use Rattle.node_keys.specs.declared.keys.InstKey.{InstKey}
use Rattle.node_keys.specs.declared.keys.NodeKey.{NodeKey}
use Rattle.node_keys.specs.declared.keys.EdgeKind.{EdgeKind}
use Rattle.node_keys.specs.declared.keys.EdgeKind.TheVariants as kind
use Rattle.node_keys.specs.Keys.{root_inst, entry_key}
use Rattle.local_rules.specs.declared.local.Node.{Node}
use Rattle.local_laws.proofs.AllLaws.{joins_are_least, local_parts_are_nodes, in_map, each_in_map}
use Rattle.edge_rules.specs.declared.edge.Edge.{Edge}
use Rattle.edge_rules.specs.Edges.{is_entry, raw_of, Enters, by_call, by_interrupt, IsEdge, moving, entering, returning}
use Rattle.edge_rules.specs.Families.{IsCovered}
use Rattle.edge_rules.specs.Views.{AreShown}
use Rattle.family_edges.specs.declared.landing.Landing.{Landing}
use Rattle.family_edges.specs.Landings.{AreLandings}
use Rattle.certificate.specs.Valid.{reset_node, AllLand}
use Rattle.shortest_walk.specs.Graph as walk
use Rattle.shortest_walk.specs.Graph.{PointsTo, IsNumberedGraph}
use Rattle.chain_explain.specs.Reached.{IsReached, at_reset, by_edge}
use Rattle.chain_explain.specs.Walks.{is_move, MovesTo}
use Rattle.chain_explain.specs.Moves.{at_of, move_of, moves_of, leads_by, moves_by, AreMoves}
use Rattle.chain_explain.proofs.Numbers.{same_number, is_found}
use Rattle.local_rules.specs.Site.{Task}

-- ---- landings

-- items read from a list of lists
pub read_each : {X : Type 0} (f : List X → List ℕ) (xss : List (List X)) (i : ℕ) → f [] ≡ [] → get_or (map f xss) i [] ≡ f (get_or xss i [])
read_each f [] i none = sym none
read_each f (xs ∷ xss) zero none = refl
read_each f (xs ∷ xss) (suc i) none = read_each f xss i none

moves_if : (kind : EdgeKind) → is_entry kind ≡ false → is_move kind ≡ true
moves_if kind.Local e = refl
moves_if kind.Call e = absurd cc
moves_if (kind.Interrupt v clears) e = absurd cc
moves_if kind.Return e = refl

no_entry : (kind : EdgeKind) → is_move kind ≡ true → is_entry kind ≡ false
no_entry kind.Local e = refl
no_entry kind.Call e = absurd cc
no_entry (kind.Interrupt v clears) e = absurd cc
no_entry kind.Return e = refl

chosen : (b : Bool) (i j : ℕ) → Contains (if b then [] else i ∷ []) j → (b ≡ false) × (j ≡ i)
chosen true i j h = absurd (none_in j h)
chosen false i j h = (refl, only_one_in i j h)

chosen_in : (b : Bool) (i : ℕ) → b ≡ false → Contains (if b then [] else i ∷ []) i
chosen_in b i e = subst (λ (c : Bool). Contains (if c then [] else i ∷ []) i) (sym e) (first_in i [])

-- the number of a landing in the same instance is a move
pub move_in : (landings : List Landing) (l : Landing) → Contains landings l → is_entry l.kind ≡ false → Contains (moves_of landings) l.at
move_in landings l has e = contained_in_join move_of landings l l.at has (chosen_in (is_entry l.kind) l.at e)

-- an edge leads from the node of the first number to that of the second
pub record LeadsByNumber (task : Task) (nodes : List Node) (i j : ℕ) : Type 0 where
  pub from : Node
  pub at : slice_get nodes i ≡ Some from
  pub edge : Edge
  pub is_edge : IsEdge task nodes from edge
  pub to : Node
  pub lands : slice_get nodes j ≡ Some to
  pub key : to.key ≡ edge.to

module _ (task : Task) (nodes : List Node) (shown : AreShown (device_of task.flash) nodes) where
  -- an edge that enters no instance stays in its own
  pub stays : (n : Node) (e : Edge) → Contains nodes n → IsEdge task nodes n e → is_move e.kind ≡ true → e.to.inst ≡ n.key.inst
  stays n _ has (moving to clean member) moves =
      let raw = joins_are_least.keys (raw_of task n).moves to member in
      let same = (local_parts_are_nodes.nodes task n.key n.state raw.0 (shown.all n has) clean raw.1.0).0 in
      sym (sym same ∙ ap (λ (k : NodeKey). k.inst) raw.1.1)
  stays n _ has (entering way inst back enters) moves = absurd (never way inst back enters moves)
    where
      never : (way : EdgeKind) (inst : InstKey) (back : ℕ) → Enters task n way inst back → is_move way ≡ true → ⊥
      never _ _ _ (by_call offset site clean closed has) m = cc
      never _ _ _ (by_interrupt offset v clears clean closed i d enabled allowed may) m = cc
  stays n _ has (returning way inst back leaver x state enters present at clean exit is) moves = refl

  module _ (all : List (List Landing)) (are : AreLandings task nodes all) where
    pub count_is : {X : Type 0} (f : List Landing → X) → length (map f all) ≡ length nodes
    count_is f = length-map all f ∙ are.are.count_is

    pub leads_on : (i j : ℕ) → PointsTo (leads_by all) i j → LeadsByNumber task nodes i j
    leads_on i j h =
        let lt : i < length nodes = let w = inside_if_contained (leads_by all) i j h in let c = count_is (map at_of) in omega (arith, w, c) in
        let n = get_inside nodes i lt in
        each_in_map at_of (LeadsByNumber task nodes i) (get_or all i [])
        (λ l has.
        let x = (are.are.each i n.0 lt n.1 l).0 has in
        let found = found_at x.edge.to nodes l.at x.at in
        record { from = n.0; at = n.1; edge = x.edge; is_edge = x.is; to = found.node; lands = found.is; key = found.same })
        j (subst (λ (xs : List ℕ). Contains xs j) (read_each (map at_of) all i refl) h)

    -- the landing of such an edge
    landing_in : (i j : ℕ) (l : LeadsByNumber task nodes i j) → Contains (get_or all i []) (record { kind = l.edge.kind; at = j })
    landing_in i j l =
        (are.are.each i l.from (slice_get_within nodes i l.from l.at) l.at (record { kind = l.edge.kind; at = j })).1
        (record { edge = l.edge; is = l.is_edge; kind = refl; at = is_found nodes shown.ascending l.edge.to j l.to l.lands l.key })

    pub on_leads : (i j : ℕ) → LeadsByNumber task nodes i j → PointsTo (leads_by all) i j
    on_leads i j l =
        subst (λ (xs : List ℕ). Contains xs j) (sym (read_each (map at_of) all i refl))
        (in_map at_of (get_or all i []) (record { kind = l.edge.kind; at = j }) (landing_in i j l))

    moves_on : (i j : ℕ) → PointsTo (moves_by all) i j → MovesTo task nodes i j
    moves_on i j h =
        let lt : i < length nodes = let w = inside_if_contained (moves_by all) i j h in let c = count_is moves_of in omega (arith, w, c) in
        let n = get_inside nodes i lt in
        each_of_join move_of (MovesTo task nodes i) (get_or all i [])
        (λ l k has to.
        let c = chosen (is_entry l.kind) l.at k to in
        let x = (are.are.each i n.0 lt n.1 l).0 has in
        let found = found_at x.edge.to nodes k (x.at ∙ ap (λ (y : ℕ). Some y) (sym c.1)) in
        let moves : is_move x.edge.kind ≡ true = subst (λ (way : EdgeKind). is_move way ≡ true) x.kind (moves_if l.kind c.0) in
        record {
          from = n.0;
          at = n.1;
          edge = x.edge;
          is_edge = x.is;
          moves = moves;
          to = found.node;
          lands = found.is;
          key = found.same;
          stays = ap (λ (y : NodeKey). y.inst) found.same ∙ stays n.0 x.edge (contained_at nodes i n.0 n.1) x.is moves;
        })
        j (subst (λ (xs : List ℕ). Contains xs j) (read_each moves_of all i refl) h)

    on_moves : (i j : ℕ) → MovesTo task nodes i j → PointsTo (moves_by all) i j
    on_moves i j m =
        let l : LeadsByNumber task nodes i j = record { from = m.from; at = m.at; edge = m.edge; is_edge = m.is_edge; to = m.to; lands = m.lands; key = m.key } in
        subst (λ (xs : List ℕ). Contains xs j) (sym (read_each moves_of all i refl))
        (move_in (get_or all i []) (record { kind = m.edge.kind; at = j }) (landing_in i j l) (no_entry m.edge.kind m.moves))

    pub are_moves : length nodes ≤ 65536 → AllLand task nodes → IsCovered nodes (reset_node task.assumptions) → AreMoves task nodes (moves_by all)
    are_moves few lands reset =
        record {
          few = few;
          count = count_is moves_of;
          exact = λ i j. (moves_on i j, on_moves i j);
          lands = lands;
          reset = reset;
        }

    pub is_graph : length nodes ≤ 65536 → IsNumberedGraph (leads_by all)
    is_graph few =
        record {
          few = let c = count_is (map at_of) in omega (arith, c, few);
          within = λ i j h.
              let l = leads_on i j h in
              let w = slice_get_within nodes j l.to l.lands in
              let c = count_is (map at_of) in
              omega (arith, w, c);
        }

    -- ---- what is reached

    -- the node of this number is reached
    abbrev pub IsReachedAt : ℕ → Type 0
    IsReachedAt i = (n : Node) × ((slice_get nodes i ≡ Some n) × IsReached task nodes n.key)

    module _ (root : ℕ) (reset : Node) (at : slice_get nodes root ≡ Some reset) (is : reset.key ≡ entry_key root_inst) where
      pub reached_down : (i : ℕ) → walk.IsNumberReached (leads_by all) (root ∷ []) i → IsReachedAt i
      reached_down i (walk.at_start _ h) =
          (reset, (subst (λ (x : ℕ). slice_get nodes x ≡ Some reset) (sym (only_one_in root i h)) at, subst (IsReached task nodes) (sym is) at_reset))
      reached_down j (walk.by_edge i _ r leads) =
          let before = reached_down i r in
          let l = leads_on i j leads in
          let same = one_at nodes i before.0 l.from before.1.0 l.at in
          let from : IsReached task nodes l.from.key = subst (λ (n : Node). IsReached task nodes n.key) same before.1.1 in
          (l.to, (l.lands, subst (IsReached task nodes) (sym l.key) (by_edge l.from l.edge (contained_at nodes i l.from l.at) from l.is_edge)))

      pub reached_up : (k : NodeKey) → IsReached task nodes k → (i : ℕ) (n : Node) → slice_get nodes i ≡ Some n → n.key ≡ k → walk.IsNumberReached (leads_by all) (root ∷ []) i
      reached_up _ at_reset i n e same =
          walk.at_start i (subst (Contains (root ∷ [])) (same_number nodes shown.ascending root i reset n at e (is ∙ sym same)) (first_in root []))
      reached_up _ (by_edge m edge has r is_edge) i n e same =
          let p = place_of_contained nodes m has in
          let before = reached_up m.key r p.0 m p.1 refl in
          walk.by_edge p.0 i before (on_leads p.0 i (record { from = m; at = p.1; edge = edge; is_edge = is_edge; to = n; lands = e; key = same }))
