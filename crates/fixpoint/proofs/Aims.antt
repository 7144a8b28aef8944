-- The targets of a round's visits are a round of the family.
use Rattle.std.proofs.Common.{◌≡◌, refl, sym, ap, ◌∙◌, subst, ◌⊎◌, inl, inr, ⊎_elim, List, [], ◌++◌, Option, Some, None, Contains}
use Rattle.std.proofs.lemmas.List.Elements.{Contains-append_left, Contains-append_right}
use Rattle.std.proofs.lemmas.Option.{same_Some}
use Rattle.std.specs.FinMap.{get}
use Rattle.basics.specs.Items.{first_in, contained_in_join, each_of_join}
use Rattle.family_edges.proofs.AllLaws.{back_edge, returned_in}
use Rattle.avr_model.specs.Assumptions.{has_pairs}
use Rattle.avr_model.specs.Devices.{device_of}
use Rattle.abs_state.specs.declared.state.AbsState.{AbsState}
use Rattle.abs_state.specs.Frames.{entered}
use Rattle.abs_state.specs.PairsBack.{returned}
use Rattle.abs_state.proofs.AllLaws.{states_are_ordered}
use Rattle.node_keys.specs.declared.keys.InstKey.{InstKey}
use Rattle.node_keys.specs.declared.keys.NodeKey.{NodeKey}
use Rattle.node_keys.specs.declared.keys.EdgeKind.TheVariants as kind
use Rattle.node_keys.specs.Keys.{entry_key}
use Rattle.local_rules.specs.declared.local.Exit.{Exit}
use Rattle.local_rules.specs.declared.local.Node.{Node}
use Rattle.local_rules.specs.Cover.{IsNodeIn}
use Rattle.local_laws.proofs.AllLaws.{in_map}
use Rattle.edge_rules.specs.declared.edge.Edge.{Edge}
use Rattle.edge_rules.specs.Edges.{IsFaultless, returned_key, IsEdge, moving, entering, returning, target}
use Rattle.edge_rules.specs.Families.{IsCovered}
use Rattle.edge_laws.proofs.AllLaws.{edges_lead_to_nodes}
use Rattle.family_edges.specs.declared.ways.Way.{Way}
use Rattle.family_edges.specs.Next.{Leaver, node_of, local_edge, entry_edge, return_by, returns_in}
use Rattle.round_table.specs.Crossings.{crossings_at, IsCrossing}
use Rattle.round_rules.specs.Families.{Family, nodes_of, FamilyHas, Lands, AreFormed}
use Rattle.round_laws.specs.Steps.{IsRoundOf}
use Rattle.round_laws.proofs.AllLaws.{families_are_their_nodes}
use Rattle.round_steps.specs.declared.looking.Look.{Look}
use Rattle.round_steps.specs.declared.looking.SeenState.{SeenState}
use Rattle.round_steps.specs.declared.noting.Notes.{Notes}
use Rattle.round_steps.specs.Looks.{IsLook, HasLook, AreSeen}
use Rattle.round_steps.specs.Notings.{caller, leaver}
use Rattle.round_steps.specs.Targets.{leaver_with, noted_leaver, noted_leavers, way_of, onward_to, onward_at, onwards_if, edges_of, targets_of, all_targets}
use Rattle.fixpoint.specs.Progress.{IsOwn, own_move, own_entry, ComesBack, comes_back, AreKnown, Turn}
use Rattle.fixpoint.proofs.Cases.{entries, returns, onwards, moves, edges_are, look_cases}
use Rattle.fixpoint.proofs.Looked.{seen_node, look_clean, look_same, look_exit, look_way, look_node, looked}
use Rattle.local_rules.specs.Site.{Task}

module _ (task : Task) where
  -- ---- edges

  -- the target of an edge of the family
  pub record IsAim (f : Family) (to : Node) : Type 0 where
    pub from : Node
    pub has : FamilyHas f from
    pub edge : Edge
    pub is : IsEdge task (nodes_of f) from edge
    pub at : target edge ≡ to

  pub own_aim : (f : Family) (n to : Node) → FamilyHas f n → IsOwn task n to → IsAim f to
  own_aim f n _ has (own_move to clean i) =
      record { from = n; has = has; edge = record { kind = kind.Local; to = to.key; state = to.state }; is = moving to clean i; at = refl }
  own_aim f n _ has (own_entry way inst back e) =
      record { from = n; has = has; edge = record { kind = way; to = entry_key inst; state = entered n.state }; is = entering way inst back e; at = refl }

  pub back_aim : (f : Family) (n m to : Node) → FamilyHas f n → FamilyHas f m → ComesBack task n m to → IsAim f to
  back_aim f n m _ has there (comes_back way inst back x state e same clean exit is) =
      record {
        from = n;
        has = has;
        edge = record { kind = kind.Return; to = returned_key way n.key back x; state = state };
        is = returning way inst back m x state e ((families_are_their_nodes.members f m).1 there) same clean exit is;
        at = refl;
      }

  -- the target of an edge of the family: the node's own successor, or a return by another
  pub record IsBack (f : Family) (n to : Node) : Type 0 where
    pub by : Node
    pub has : FamilyHas f by
    pub comes : ComesBack task n by to

  pub edge_cases : (f : Family) (n : Node) (e : Edge) → IsEdge task (nodes_of f) n e → IsOwn task n (target e) ⊎ IsBack f n (target e)
  edge_cases f n _ (moving to clean i) = inl (own_move to clean i)
  edge_cases f n _ (entering way inst back e) = inl (own_entry way inst back e)
  edge_cases f n _ (returning way inst back m x state e present same clean exit is) =
      inr (record { by = m; has = (families_are_their_nodes.members f m).0 present; comes = comes_back way inst back x state e same clean exit is })

  -- ---- one look's targets are edges' targets

  module _ (f : Family) (notes : Notes) (known : AreKnown task f notes) (x : Look) (is : IsLook task f x) where
    abbrev n : Node
    n = seen_node task f x is

    abbrev s : AbsState
    s = is.state

    clean : IsFaultless task n
    clean = look_clean task f x is

    pub look_aims : (to : Node) → Contains (targets_of f notes x) to → IsAim f to
    look_aims =
        look_cases task f notes x is (IsAim f) (λ to own. own_aim f n to is.has own)
        (λ w p t after enters j at r.
        let so = known.so.leavers w.inst p j in
        let same : so.node.state ≡ t = same_Some so.node.state t (sym so.has ∙ ap (get f) so.at ∙ at) in
        back_aim f n so.node _ is.has so.has
        (comes_back w.kind w.inst w.back p.exit after enters so.of (known.faultless so.node so.has) so.exit (ap (returned s) same ∙ r)))
        (λ e p t after exit j at r.
        let so = known.so.callers x.key.inst p j in
        let same : so.node.state ≡ t = same_Some so.node.state t (sym so.has ∙ ap (get f) so.at ∙ at) in
        subst (λ (k : NodeKey). IsAim f (record { key = returned_key p.kind k p.back e; state = after })) so.at
        (back_aim f so.node n _ so.has is.has
        (comes_back p.kind x.key.inst p.back e after so.enters refl clean exit (ap (λ (v : AbsState). returned v s) same ∙ r))))

    -- ---- all edges of the look's node are met

    abbrev firsts : List Edge
    firsts = entries f notes x s ++ returns f notes x s

    met : (e : Edge) → Contains ((firsts ++ onwards f notes x s) ++ moves f notes x s) e → Contains (targets_of f notes x) (target e)
    met e i = in_map target (edges_of f notes x) e (subst (λ (l : List Edge). Contains l e) (sym (edges_are f notes x s is.has)) i)

    in_firsts : (e : Edge) → Contains firsts e → Contains (targets_of f notes x) (target e)
    in_firsts e i =
        met e (Contains-append_left (firsts ++ onwards f notes x s) (moves f notes x s) e (Contains-append_left firsts (onwards f notes x s) e i))

    pub own_met : (to : Node) → IsOwn task n to → Contains (targets_of f notes x) to
    own_met _ (own_move to c i) =
        met (local_edge to) (Contains-append_right (firsts ++ onwards f notes x s) (moves f notes x s) (local_edge to)
        (in_map local_edge x.part.same to (subst (λ (l : List Node). Contains l to) (sym (look_same task f x is)) i)))
    own_met _ (own_entry way inst back e) =
        let w : Way = record { kind = way; inst = inst; back = back } in
        in_firsts (entry_edge s w) (Contains-append_left (entries f notes x s) (returns f notes x s) (entry_edge s w)
        (in_map (entry_edge s) x.ways.items w ((look_way task f x is w).1 e)))

    -- a node that leaves returns to the visited node
    pub entered_met : (m to : Node) → FamilyHas f m → ComesBack task n m to → Contains (targets_of f notes x) to
    entered_met m _ there (comes_back way inst back exit state en same c is_exit r) =
        let w : Way = record { kind = way; inst = inst; back = back } in
        let p = leaver m.key exit in
        let l : Leaver = record { exit = exit; state = m.state } in
        let e = back_edge x.key w exit state in
        let crossing : IsCrossing notes.leavers inst p = subst (λ (i : InstKey). IsCrossing notes.leavers i p) same ((known.each m there).leavers exit is_exit) in
        let leaves : Contains (noted_leavers f notes.leavers inst) l =
        contained_in_join (noted_leaver f) (crossings_at notes.leavers inst) p l crossing
        (subst (λ (o : Option AbsState). Contains (leaver_with exit o) l) (sym there) (first_in l [])) in
        in_firsts e (Contains-append_right (entries f notes x s) (returns f notes x s) e
        (contained_in_join (returns_in (noted_leavers f notes.leavers) (node_of x.key s)) x.ways.items w e ((look_way task f x is w).1 en)
        (contained_in_join (return_by (node_of x.key s) w) (noted_leavers f notes.leavers inst) l e leaves (returned_in (node_of x.key s) w l state r))))

    -- the visited node leaves
    pub left_met : (c to : Node) → FamilyHas f c → ComesBack task c n to → Contains (targets_of f notes x) to
    left_met c _ there (comes_back way inst back exit state en same d is_exit r) =
        let w : Way = record { kind = way; inst = inst; back = back } in
        let p = caller c.key w in
        let l : Leaver = record { exit = exit; state = s } in
        let e = back_edge c.key w exit state in
        let crossing : IsCrossing notes.callers x.key.inst p = subst (λ (i : InstKey). IsCrossing notes.callers i p) (sym same) ((known.each c there).callers way inst back en) in
        let found : Contains (onward_at f x.key.inst l p) e =
        subst (λ (o : Option AbsState). Contains (onward_to x.key.inst l p o) e) (sym there) (returned_in c (way_of x.key.inst p) l state r) in
        let leaves : x.part.exit ≡ Some exit = look_exit task f x is ∙ is_exit in
        met e (Contains-append_left (firsts ++ onwards f notes x s) (moves f notes x s) e (Contains-append_right firsts (onwards f notes x s) e
        (subst (λ (o : Option Exit). Contains (onwards_if f notes.callers x.key.inst s o) e) (sym leaves)
        (contained_in_join (onward_at f x.key.inst l) (crossings_at notes.callers x.key.inst) p e crossing found))))

  -- ---- the round

  module _ (f : Family) (formed : AreFormed (device_of task.flash) (has_pairs task.assumptions) f) (work : List NodeKey) (old notes : Notes) (seen : SeenState) (turn : Turn task f work old)
      (are : AreSeen task f work seen) (none : seen.worst ≡ None) (known : AreKnown task f notes) where
    abbrev xs : List Look
    xs = seen.looks.items

    abbrev ns : List Node
    ns = all_targets f notes xs

    aims : (to : Node) → Contains ns to → IsAim f to
    aims = each_of_join (targets_of f notes) (IsAim f) xs (λ x to i j. look_aims f notes known x (are.looks x i) to j)

    in_round : (x : Look) (to : Node) → Contains xs x → Contains (targets_of f notes x) to → Contains ns to
    in_round x to i j = contained_in_join (targets_of f notes) xs x to i j

    covered : (to : Node) → Contains ns to → IsCovered ns to
    covered to i = record { state = to.state; present = i; above = states_are_ordered.same to.state }

    own_in : (n to : Node) → FamilyHas f n → HasLook xs n.key → IsOwn task n to → Contains ns to
    own_in n to has h own =
        let is = are.looks h.look h.member in
        in_round h.look to h.member (own_met f notes known h.look is to (subst (λ (m : Node). IsOwn task m to) (sym (look_node task f h.look is n has h.at)) own))

    entered_in : (n m to : Node) → FamilyHas f n → FamilyHas f m → HasLook xs n.key → ComesBack task n m to → Contains ns to
    entered_in n m to has there h comes =
        let is = are.looks h.look h.member in
        in_round h.look to h.member
        (entered_met f notes known h.look is m to there (subst (λ (k : Node). ComesBack task k m to) (sym (look_node task f h.look is n has h.at)) comes))

    left_in : (n m to : Node) → FamilyHas f n → FamilyHas f m → HasLook xs m.key → ComesBack task n m to → Contains ns to
    left_in n m to has there h comes =
        let is = are.looks h.look h.member in
        in_round h.look to h.member
        (left_met f notes known h.look is n to has (subst (λ (k : Node). ComesBack task n k to) (sym (look_node task f h.look is m there h.at)) comes))

    look_of : (n : Node) → FamilyHas f n → Contains work n.key → HasLook xs n.key
    look_of n has i = looked task f work old seen turn are none n has i

    own_lands : (n to : Node) → FamilyHas f n → IsOwn task n to → Lands f to ⊎ IsCovered ns to
    own_lands n to has own = ⊎_elim (λ i. inr (covered to (own_in n to has (look_of n has i) own))) (λ held. inl (held.own to own)) (turn.held n has)

    back_lands : (n m to : Node) → FamilyHas f n → FamilyHas f m → ComesBack task n m to → Lands f to ⊎ IsCovered ns to
    back_lands n m to has there comes =
        ⊎_elim (λ i. inr (covered to (entered_in n m to has there (look_of n has i) comes)))
        (λ r. ⊎_elim (λ i. inr (covered to (left_in n m to has there (look_of m there i) comes))) (λ l. inl l) r) (turn.backs n m to has there comes)

    pub round_is : IsRoundOf task f ns
    round_is = record {
      formed = λ to i. let a = aims to i in
          subst (λ (t : Node). IsNodeIn (device_of task.flash) (has_pairs task.assumptions) t.key t.state) a.at
          (edges_lead_to_nodes.edges task (nodes_of f) a.from a.edge (λ n j. formed n ((families_are_their_nodes.members f n).0 j))
          ((families_are_their_nodes.members f a.from).1 a.has) a.is);
      all = λ n e has edge. ⊎_elim (own_lands n (target e) has) (λ b. back_lands n b.by (target e) has b.has b.comes) (edge_cases f n e edge);
      least = λ h up lands to i. let a = aims to i in subst (Lands h) a.at (lands a.from a.edge a.has a.is);
    }
