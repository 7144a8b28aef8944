-- Each instance with a node is entered, possibly over others, from the root: its need is at most the root's.
use Rattle.std.proofs.Common.{◌≡◌, refl, sym, ap, ◌∙◌, subst, ℕ, zero, suc, ◌≤◌, Bool, true, false, cond, nat_le, Option, Some, None, arith}
use Rattle.std.proofs.lemmas.Bool.Decides.{nat_tests}
use Rattle.std.specs.declared.cmp.Ordering.TheVariants.{Equal}
use Rattle.std.specs.FinMap.{get, retain_keys, get-retain_keys}
use Rattle.avr_model.specs.Assumptions.{has_pairs}
use Rattle.avr_model.specs.Devices.{device_of}
use Rattle.abs_state.specs.declared.state.AbsState.{AbsState}
use Rattle.abs_state.specs.Frames.{entered}
use Rattle.node_keys.specs.declared.keys.InstKey.{InstKey}
use Rattle.node_keys.specs.declared.keys.EdgeKind.{EdgeKind}
use Rattle.node_keys.specs.declared.keys.NodeKey.{NodeKey}
use Rattle.node_keys.specs.Keys.{root_inst, entry_key, cut_at}
use Rattle.node_keys.specs.Order.{node_cmp}
use Rattle.local_rules.specs.declared.local.Node.{Node}
use Rattle.local_laws.proofs.AllLaws.{joins_are_least, local_parts_are_nodes}
use Rattle.edge_rules.specs.declared.edge.Edge.{Edge}
use Rattle.edge_rules.specs.Edges.{raw_of, Enters, IsEdge, moving, entering, returning, target}
use Rattle.edge_rules.specs.Nest.{NestEdge, recurs, enters as by_node}
use Rattle.edge_laws.specs.Laws.{with_state}
use Rattle.edge_laws.proofs.AllLaws.{edges_grow}
use Rattle.round_rules.specs.Families.{Family, nodes_of, FamilyHas, Lands, Below, AreFormed, FamilyHasInst, HasNoFault, LandIn}
use Rattle.round_rules.specs.Rounds.{AreNeeds, IsNext, Comes}
use Rattle.round_laws.proofs.Keys.{node_exact}
use Rattle.round_laws.proofs.Least.{comes_formed, first_has}
use Rattle.local_rules.specs.Site.{Task}

module _ (task : Task) where
  -- needs of a family without faults are needs of one below it
  needs_down : {followed : Bool} (f g : Family) (need : InstKey → ℕ) → AreFormed (device_of task.flash) followed f → AreFormed (device_of task.flash) followed g → Below f g → HasNoFault task g → AreNeeds task g need → AreNeeds task f need
  needs_down f g need low high below clean are = record {
    offsets = λ n offset has form. let l = below n has in are.offsets (with_state n l.at) offset l.is form;
    entered = λ i j offset e. are.entered i j offset (up i j offset e);
  }
    where
      up : (i j : InstKey) (depth : ℕ) → NestEdge task (FamilyHas f) i j depth → NestEdge task (FamilyHas g) i j depth
      up i j depth (by_node n way back has same at e whole) =
          let l = below n has in
          let m = with_state n l.at in
          by_node m way back l.is same at (edges_grow.enters task n l.at way j back (low n has) (high m l.is) l.above (clean m l.is) e) whole
      up i j depth (recurs n has same cut top) = let l = below n has in recurs (with_state n l.at) l.is same cut top

  -- the instance of an edge's target is the node's own, or one that it enters
  edge_inst : {followed : Bool} (P : InstKey → Type 0) (f : Family) (n : Node) (e : Edge) → AreFormed (device_of task.flash) followed f → FamilyHas f n → P n.key.inst
      → ((way : EdgeKind) (inst : InstKey) (back : ℕ) → Enters task n way inst back → P inst) → IsEdge task (nodes_of f) n e → P e.to.inst
  edge_inst P f n _ formed has own enter (moving to clean member) =
      let raw = joins_are_least.keys (raw_of task n).moves to member in
      let same = (local_parts_are_nodes.nodes task n.key n.state raw.0 (formed n has) clean raw.1.0).0 in
      subst P (sym same ∙ ap (λ (k : NodeKey). k.inst) raw.1.1) own
  edge_inst P f n _ formed has own enter (entering way inst back enters) = enter way inst back enters
  edge_inst P f n _ formed has own enter (returning way inst back leaver x state enters present at clean exit is) = own

  module _ (need : InstKey → ℕ) where
    abbrev is_under : NodeKey → Bool
    is_under k = nat_le (need k.inst) (need root_inst)

    alike : (q x : NodeKey) → node_cmp q x ≡ Equal → is_under x ≡ is_under q
    alike q x e = ap is_under (sym (node_exact q x e))

    kept_by : (g : Family) (k : NodeKey) → is_under k ≡ true → get (retain_keys g is_under) k ≡ get g k
    kept_by g k e = get-retain_keys g is_under k (λ x t. alike k x t) ∙ ap (λ b. cond b (get g k) None) e

    kept_under : (g : Family) (k : NodeKey) (s : AbsState) → get (retain_keys g is_under) k ≡ Some s → is_under k ≡ true
    kept_under g k s e = by (is_under k) refl
      where
        by : (b : Bool) → is_under k ≡ b → b ≡ true
        by true t = refl
        by false t = absurd (let never = sym (get-retain_keys g is_under k (λ x h. alike k x h) ∙ ap (λ b. cond b (get g k) None) t) ∙ e in cc)

    lands_kept : (g : Family) (n : Node) → is_under n.key ≡ true → Lands g n → Lands (retain_keys g is_under) n
    lands_kept g n under l = record { at = l.at; is = kept_by g n.key under ∙ l.is; above = l.above }

    under_is : (k : NodeKey) → need k.inst ≤ need root_inst → is_under k ≡ true
    under_is k le = grind (arith, nat_tests)

    is_under_is : (k : NodeKey) → is_under k ≡ true → need k.inst ≤ need root_inst
    is_under_is k e = grind (arith, nat_tests)

    -- An entered instance needs no more than the root: it lies below its caller, or below the root once it has its first node.
    entered_under : (f g : Family) → AreNeeds task f need → AreNeeds task g need → (m : Node) → FamilyHas f m → need m.key.inst ≤ need root_inst
        → (way : EdgeKind) (inst : InstKey) (back : ℕ) → Enters task m way inst back → Lands g (record { key = entry_key inst; state = entered m.state }) → (cut : Option ℕ)
        → cut_at task.assumptions inst ≡ cut → need inst ≤ need root_inst
    entered_under f g low high m there under way inst back e lands None is =
        let enough = low.entered m.key.inst inst _ (by_node m way back there refl refl e is) in
        omega (arith, enough, under)
    entered_under f g low high m there under way inst back e lands (Some depth) is =
        let enough = high.entered root_inst inst depth (recurs (record { key = entry_key inst; state = lands.at }) lands.is refl is refl) in
        omega (arith, enough)

    next_under : (f g : Family) → AreFormed (device_of task.flash) (has_pairs task.assumptions) f → IsNext task f g → HasNoFault task g → AreNeeds task f need → AreNeeds task g need
        → ((n : Node) → FamilyHas f n → need n.key.inst ≤ need root_inst) → (n : Node) → FamilyHas g n → need n.key.inst ≤ need root_inst
    next_under f g formed next clean are above low n has =
        let h = retain_keys g is_under in
        let up : Below f h = λ m there. lands_kept g m (under_is m.key (low m there)) (next.above m there) in
        let lands : LandIn task f h = λ m e there edge.
        let le : need e.to.inst ≤ need root_inst = edge_inst (λ (inst : InstKey). need inst ≤ need root_inst) f m e formed there (low m there)
        (λ way inst back way_in. entered_under f g are above m there (low m there) way inst back way_in (next.edges m _ there (entering way inst back way_in)) (cut_at task.assumptions inst) refl) edge in
        lands_kept g (target e) (under_is e.to le) (next.edges m e there edge) in
        is_under_is n.key (kept_under g n.key (next.least h up lands n has).at (next.least h up lands n has).is)

    all_under : (n : ℕ) (f : Family) → Comes task n f → HasNoFault task f → AreNeeds task f need → (m : Node) → FamilyHas f m → need m.key.inst ≤ need root_inst
    all_under zero f c clean are = λ m has.
        first_has task.assumptions (λ k s. need k.inst ≤ need root_inst) (omega arith) m (subst (λ (x : Family). get x m.key ≡ Some m.state) c has)
    all_under (suc n) f c clean are =
        let formed = comes_formed task n c.0 c.1 in
        let needs = needs_down c.0 f need formed c.4.formed c.4.above clean are in
        next_under c.0 f formed c.4 clean needs are (all_under n c.0 c.1 c.2.faultless needs)

  pub under_root : (n : ℕ) (f : Family) (need : InstKey → ℕ) → Comes task n f → HasNoFault task f → AreNeeds task f need → (inst : InstKey) → FamilyHasInst f inst
      → need inst ≤ need root_inst
  under_root n f need c clean are inst has = subst (λ (x : InstKey). need x ≤ need root_inst) has.2 (all_under need n f c clean are has.0 has.1)
