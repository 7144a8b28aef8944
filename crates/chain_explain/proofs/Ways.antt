-- The path to a reached node within its instance.
use Rattle.std.proofs.Common.{◌≡◌, refl, sym, ap, ◌∙◌, subst, ℕ, ◌+◌, ◌-◌, ◌<◌, ◌≤◌, true, List, [], ◌∷◌, map, Some, slice_get, Contains, arith}
use Rattle.basics.specs.Items.{place_of_contained, only_one_in, first_in}
use Rattle.edge_rules.specs.Places.{FoundAt, found_at}
use Rattle.avr_model.specs.Devices.{device_of}
use Rattle.abs_state.specs.Frames.{entered}
use Rattle.node_keys.specs.declared.keys.InstKey.{InstKey}
use Rattle.node_keys.specs.declared.keys.NodeKey.{NodeKey}
use Rattle.node_keys.specs.declared.keys.EdgeKind.TheVariants as kind
use Rattle.node_keys.specs.Keys.{root_inst, entry_key}
use Rattle.local_rules.specs.declared.local.Node.{Node}
use Rattle.local_laws.specs.Laws.{HasKey}
use Rattle.edge_rules.specs.declared.edge.Edge.{Edge}
use Rattle.edge_rules.specs.Edges.{IsEdge, moving, entering, returning}
use Rattle.edge_rules.specs.Views.{AreShown, IsSpan, index_of}
use Rattle.shortest_walk.specs.Graph as walk
use Rattle.shortest_walk.specs.Graph.{PointsTo, IsNumberedGraph}
use Rattle.shortest_walk.specs.Walk.{IsFirstOfShortest}
use Rattle.chain_explain.specs.Reached.{IsReached, at_reset, by_edge}
use Rattle.chain_explain.specs.Walks as walks
use Rattle.chain_explain.specs.Walks.{is_move, Begins, IsStart, pc_at, IsWay}
use Rattle.chain_explain.specs.Moves.{IsPortion, AreMoves}
use Rattle.chain_explain.proofs.Numbers.{same_number}
use Rattle.chain_explain.proofs.Edges.{stays}
use Rattle.chain_explain.proofs.Shifted.{lifted, IsApart, first_up, reached_below, ReachedBelow}
use Rattle.chain_explain.proofs.Shifted as shifted
use Rattle.local_rules.specs.Site.{Task}

module _ (task : Task) (nodes : List Node) (shown : AreShown (device_of task.flash) nodes) where
  -- ---- where walks begin

  -- a walk of a reached node's instance begins at the first node of the instance
  pub begins_of : (k : NodeKey) → IsReached task nodes k → Begins task nodes k.inst (entry_key k.inst)
  begins_of _ at_reset = walks.at_reset
  begins_of _ (by_edge n edge has r is_edge) = onward (begins_of n.key r) edge is_edge
    where
      same : Begins task nodes n.key.inst (entry_key n.key.inst) → (inst : InstKey) → inst ≡ n.key.inst → Begins task nodes inst (entry_key inst)
      same before inst e = subst (λ (x : InstKey). Begins task nodes x (entry_key x)) (sym e) before

      onward : Begins task nodes n.key.inst (entry_key n.key.inst) → (e : Edge) → IsEdge task nodes n e → Begins task nodes e.to.inst (entry_key e.to.inst)
      onward before _ (moving to clean member) =
          same before to.key.inst (stays task nodes shown n (record { kind = kind.Local; to = to.key; state = to.state }) has (moving to clean member) refl)
      onward before _ (entering way inst back enters) = walks.by_entry n way inst back has enters
      onward before _ (returning way inst back leaver x state enters present at clean exit is) = before

  only_entry : (inst : InstKey) (k : NodeKey) → Begins task nodes inst k → k ≡ entry_key inst
  only_entry _ _ walks.at_reset = refl
  only_entry _ _ (walks.by_entry n way inst back has enters) = refl

  module _ (moves : List (List ℕ)) (are : AreMoves task nodes moves) where
    entry_there : (inst : InstKey) (k : NodeKey) → Begins task nodes inst k → HasKey nodes k
    entry_there _ _ walks.at_reset = (record { key = entry_key root_inst; state = are.reset.state }, (are.reset.present, refl))
    entry_there _ _ (walks.by_entry n way inst back has enters) =
        let l = are.lands n (record { kind = way; to = entry_key inst; state = entered n.state }) has (entering way inst back enters) in
        (record { key = entry_key inst; state = l.state }, (l.present, refl))

    pub start_has : (k : NodeKey) → IsReached task nodes k → HasKey nodes (entry_key k.inst)
    start_has k reached = entry_there k.inst (entry_key k.inst) (begins_of k reached)

    -- ---- how the node of the key is reached within its instance

    pub moves_reach : (k : NodeKey) → IsReached task nodes k → (i start : ℕ) (n first : Node) → slice_get nodes i ≡ Some n → n.key ≡ k → slice_get nodes start ≡ Some first
        → first.key ≡ entry_key k.inst → walk.IsNumberReached moves (start ∷ []) i
    moves_reach _ at_reset i start n first e same f is = walk.at_start i (subst (Contains (start ∷ [])) (same_number nodes shown.ascending start i first n f e (is ∙ sym same)) (first_in start []))
    moves_reach _ (by_edge m edge has r is_edge) i start n first e same f is =
        onward (λ p at begins. moves_reach m.key r p start m first at refl f begins) edge is_edge same is
      where
        move : ((p : ℕ) → slice_get nodes p ≡ Some m → first.key ≡ entry_key m.key.inst → walk.IsNumberReached moves (start ∷ []) p) → (d : Edge) → IsEdge task nodes m d → is_move d.kind ≡ true → n.key ≡ d.to → first.key ≡ entry_key d.to.inst → walk.IsNumberReached moves (start ∷ []) i
        move before d is_d moves_d to begins =
            let p = place_of_contained nodes m has in
            let stay = stays task nodes shown m d has is_d moves_d in
            walk.by_edge p.0 i (before p.0 p.1 (begins ∙ ap entry_key stay))
            ((are.exact p.0 i).1
            (record {
              from = m;
              at = p.1;
              edge = d;
              is_edge = is_d;
              moves = moves_d;
              to = n;
              lands = e;
              key = to;
              stays = ap (λ (x : NodeKey). x.inst) to ∙ stay;
            }))

        onward : ((p : ℕ) → slice_get nodes p ≡ Some m → first.key ≡ entry_key m.key.inst → walk.IsNumberReached moves (start ∷ []) p) → (d : Edge) → IsEdge task nodes m d → n.key ≡ d.to → first.key ≡ entry_key d.to.inst → walk.IsNumberReached moves (start ∷ []) i
        onward before _ (moving to clean member) to_is begins =
            move before (record { kind = kind.Local; to = to.key; state = to.state }) (moving to clean member) refl to_is begins
        onward before _ (entering way inst back enters) to_is begins =
            walk.at_start i (subst (Contains (start ∷ [])) (same_number nodes shown.ascending start i first n f e (begins ∙ sym to_is)) (first_in start []))
        onward before _ (returning way inst back leaver x state enters present at clean exit is_state) to_is begins =
            move before _ (returning way inst back leaver x state enters present at clean exit is_state) refl to_is begins

    -- ---- the instance of the key

    module _ (k : NodeKey) (reached : IsReached task nodes k) (low high : ℕ) (span : IsSpan nodes k.inst low high) where
      -- the nodes of the instance only move to one another
      pub apart : IsApart moves low high
      apart =
          record {
            order = span.order;
            inside = let c = are.count in let i = span.inside in omega (arith, c, i);
            few = let c = are.count in let f = are.few in omega (arith, c, f);
            above = λ i j le lt h. (both i j le lt h).0;
            below = λ i j le lt h. (both i j le lt h).1;
          }
        where
          both : (i j : ℕ) → low ≤ i → i < high → PointsTo moves i j → (low ≤ j) × (j < high)
          both i j le lt h =
              let m = (are.exact i j).0 h in
              let own : m.from.key.inst ≡ k.inst = (span.exact i m.from m.at).1 (le, lt) in
              (span.exact j m.to m.lands).0 (m.stays ∙ own)

      module _ (start target : ℕ) (starts : index_of (entry_key k.inst) nodes ≡ Some start) (ends : index_of k nodes ≡ Some target) where
        first : FoundAt (entry_key k.inst) nodes start
        first = found_at (entry_key k.inst) nodes start starts

        last : FoundAt k nodes target
        last = found_at k nodes target ends

        pub start_inside : (low ≤ start) × (start < high)
        start_inside = (span.exact start first.node first.is).0 (ap (λ (x : NodeKey). x.inst) first.same)

        pub target_inside : (low ≤ target) × (target < high)
        target_inside = (span.exact target last.node last.is).0 (ap (λ (x : NodeKey). x.inst) last.same)

        module _ (graph : List (List ℕ)) (is : IsPortion moves low (high - low) graph) where
          pub portion_graph : IsNumberedGraph graph
          portion_graph = shifted.is_graph moves graph low high apart is

          start_is : start ≡ low + (start - low)
          start_is = let s = start_inside.0 in omega (arith, s)

          target_is : target ≡ low + (target - low)
          target_is = let s = target_inside.0 in omega (arith, s)

          start_low : start - low < high - low
          start_low = let a = start_inside.0 in let b = start_inside.1 in omega (arith, a, b)

          pub portion_reaches : walk.IsNumberReached graph ((start - low) ∷ []) (target - low)
          portion_reaches =
              let whole = moves_reach k reached target start last.node first.node last.is last.same first.is first.same in
              let b : ReachedBelow moves graph low high apart is (start - low) (target - low) start_low target =
              reached_below moves graph low high apart is (start - low) (target - low) start_low target
              (subst (λ (x : ℕ). walk.IsNumberReached moves (x ∷ []) target) start_is whole) in
              subst (walk.IsNumberReached graph ((start - low) ∷ [])) (let e = b.is_own in omega (arith, e)) b.reached

          pub is_way : (numbers words' : List ℕ) → IsFirstOfShortest graph ((start - low) ∷ []) (target - low) numbers → words' ≡ map (λ i. pc_at nodes (low + i)) numbers
              → IsWay task nodes k.inst target words'
          is_way numbers words' f along =
              record {
                graph = moves;
                moves = are.exact;
                starts = start ∷ [];
                begin = λ i. (starts_at i, at_starts i);
                numbers = map (lifted low) numbers;
                first = subst (λ (x : ℕ). IsFirstOfShortest moves (x ∷ []) target (map (lifted low) numbers)) (sym start_is)
                    (subst (λ (x : ℕ). IsFirstOfShortest moves ((low + (start - low)) ∷ []) x (map (lifted low) numbers)) (sym target_is)
                    (first_up moves graph low high apart is (start - low) (target - low) start_low numbers f));
                along = along ∙ twice numbers;
              }
            where
              twice : (xs : List ℕ) → map (λ i. pc_at nodes (low + i)) xs ≡ map (pc_at nodes) (map (lifted low) xs)
              twice [] = refl
              twice (x ∷ xs) = ap (λ ys. pc_at nodes (low + x) ∷ ys) (twice xs)

              starts_at : (i : ℕ) → Contains (start ∷ []) i → IsStart task nodes k.inst i
              starts_at i h =
                  record {
                    node = first.node;
                    at = subst (λ (x : ℕ). slice_get nodes x ≡ Some first.node) (sym (only_one_in start i h)) first.is;
                    begins = subst (Begins task nodes k.inst) (sym first.same) (begins_of k reached);
                  }

              at_starts : (i : ℕ) → IsStart task nodes k.inst i → Contains (start ∷ []) i
              at_starts i s =
                  let e = same_number nodes shown.ascending start i first.node s.node first.is s.at (first.same ∙ sym (only_entry k.inst s.node.key s.begins)) in
                  subst (Contains (start ∷ [])) e (first_in start [])

          -- for each number of the key
          pub is_way_to : (numbers words' : List ℕ) → IsFirstOfShortest graph ((start - low) ∷ []) (target - low) numbers → words' ≡ map (λ i. pc_at nodes (low + i)) numbers
              → (at : ℕ) (n : Node) → slice_get nodes at ≡ Some n → n.key ≡ k → IsWay task nodes k.inst at words'
          is_way_to numbers words' f along at n e same =
              subst (λ (x : ℕ). IsWay task nodes k.inst x words') (same_number nodes shown.ascending target at last.node n last.is e (last.same ∙ sym same))
              (is_way numbers words' f along)
