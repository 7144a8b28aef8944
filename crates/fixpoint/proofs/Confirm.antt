-- A family each node of which was visited by itself: no test holds on it, and it is closed.
use Rattle.std.proofs.Common.{◌≡◌, sym, ◌∙◌, subst, ⊎_elim, List, [], ◌∷◌, ◌++◌, None, Contains}
use Rattle.std.proofs.lemmas.List.Elements.{Contains-push_cases}
use Rattle.basics.specs.Items.{none_in, first_in, contained_in_join, each_of_join}
use Rattle.avr_model.specs.Assumptions.{has_pairs}
use Rattle.avr_model.specs.Devices.{device_of}
use Rattle.node_keys.specs.declared.keys.NodeKey.{NodeKey}
use Rattle.node_keys.specs.Keys.{root_inst}
use Rattle.local_rules.specs.declared.local.Node.{Node}
use Rattle.local_rules.specs.Cover.{IsNodeIn}
use Rattle.local_laws.specs.Laws.{AreNodesIn}
use Rattle.edge_rules.specs.Edges.{IsFaultless, target}
use Rattle.edge_laws.specs.Laws.{with_state}
use Rattle.edge_laws.proofs.AllLaws.{edges_lead_to_nodes}
use Rattle.round_nesting.specs.Nestings.{AreOnce, TellsAll}
use Rattle.round_nesting.specs.declared.verdict.NestingVerdict.TheVariants as verdicts
use Rattle.round_rules.specs.Families.{Family, nodes_of, FamilyHas, FamilyHasInst, FitsLimits, AreFormed}
use Rattle.round_laws.specs.Closed.{IsMade}
use Rattle.round_laws.proofs.AllLaws.{never_both, formed_nodes, member_has}
use Rattle.round_steps.specs.declared.looking.Look.{Look}
use Rattle.round_steps.specs.declared.looking.SeenState.{SeenState}
use Rattle.round_steps.specs.declared.noting.Notes.{Notes}
use Rattle.round_steps.specs.Looks.{IsLook, HasLook, AreSeen}
use Rattle.round_steps.specs.Notings.{blank, AreNoted}
use Rattle.round_steps.specs.Targets.{targets_of, all_targets}
use Rattle.round_steps.specs.Gathers.{AreBeyond}
use Rattle.fixpoint.specs.Progress.{IsOwn, ComesBack, AreKnown, AreRoundsFound}
use Rattle.fixpoint.specs.Confirm.{AreKnownAt, LandAt}
use Rattle.fixpoint.proofs.Looked.{look_clean, look_node}
use Rattle.fixpoint.proofs.Known.{look_known, still_known, notes_so}
use Rattle.fixpoint.proofs.Aims.{look_aims, own_met, entered_met, edge_cases}
use Rattle.fixpoint.proofs.Ready.{nests_passes}
use Rattle.fixpoint.proofs.Order.{orders_end}
use Rattle.local_rules.specs.Site.{Task}

pub none_once : (notes : Notes) → notes ≡ blank → AreOnce notes.nesting.insts
none_once notes none = subst (λ (n : Notes). AreOnce n.nesting.insts) (sym none) (λ i j inst a b. absurd (let never = a in cc))

module _ (task : Task) (f : Family) where
  -- ---- notes

  -- if no fault was found, a node of these keys was visited
  look_there : (keys : List NodeKey) (seen : SeenState) → AreSeen task f keys seen → seen.worst ≡ None → (n : Node) → FamilyHas f n → Contains keys n.key
      → HasLook seen.looks.items n.key
  look_there keys seen are none n has i = ⊎_elim (λ h. h) (λ h. absurd (let never = sym none ∙ h.found in cc)) (are.each n.key n.state i has)

  this_one : (k l : NodeKey) → k ≡ l → Contains (k ∷ []) l
  this_one k l e = subst (Contains (k ∷ [])) e (first_in k [])

  pub none_known : (notes : Notes) → notes ≡ blank → AreKnownAt task f [] notes
  none_known notes none =
      subst (AreKnownAt task f []) (sym none)
      (record {
        faultless = λ n has i. absurd (none_in n.key i);
        each = λ n has i. absurd (none_in n.key i);
        so = record {
          callers = λ i p h. absurd (none_in p h);
          leavers = λ i p h. absurd (none_in p h);
          insts = λ i h. absurd (none_in i h);
          spots = λ s h. absurd (none_in s h);
          entrances = λ e h. absurd (none_in e h);
        };
      })

  pub more_known : (keys : List NodeKey) (k : NodeKey) (old new : Notes) (seen : SeenState) → AreKnownAt task f keys old → AreSeen task f (k ∷ []) seen
      → seen.worst ≡ None → AreNoted task.assumptions old seen.looks.items new → AreKnownAt task f (keys ++ k ∷ []) new
  more_known keys k old new seen known are none noting =
      let there : (n : Node) → FamilyHas f n → k ≡ n.key → HasLook seen.looks.items n.key = λ n has e. look_there (k ∷ []) seen are none n has (this_one k n.key e) in
      record {
        faultless = λ n has i. ⊎_elim (known.faultless n has)
            (λ e. let h = there n has e in let is = are.looks h.look h.member in
            subst (IsFaultless task) (look_node task f h.look is n has h.at) (look_clean task f h.look is))
            (Contains-push_cases keys k n.key i);
        each = λ n has i. ⊎_elim (λ j. still_known task f old new seen.looks.items noting n (known.each n has j))
            (λ e. look_known task f old new seen.looks.items noting are.looks n has (there n has e))
            (Contains-push_cases keys k n.key i);
        so = notes_so task f old new seen.looks.items noting are.looks known.so;
      }

  pub whole_known : (keys : List NodeKey) (notes : Notes) → ((n : Node) → FamilyHas f n → Contains keys n.key) → AreKnownAt task f keys notes → AreKnown task f notes
  whole_known keys notes all known =
      record { faultless = λ n has. known.faultless n has (all n has); each = λ n has. known.each n has (all n has); so = known.so }

  -- ---- edges

  module _ (formed : AreFormed (device_of task.flash) (has_pairs task.assumptions) f) (notes : Notes) (known : AreKnown task f notes) where
    pub targets_are_nodes : (xs : List Look) → ((x : Look) → Contains xs x → IsLook task f x) → AreNodesIn (device_of task.flash) (has_pairs task.assumptions) (all_targets f notes xs)
    targets_are_nodes xs looks =
        each_of_join (targets_of f notes) (λ (to : Node). IsNodeIn (device_of task.flash) (has_pairs task.assumptions) to.key to.state) xs
        (λ x to i j. let a = look_aims task f notes known x (looks x i) to j in
        subst (λ (t : Node). IsNodeIn (device_of task.flash) (has_pairs task.assumptions) t.key t.state) a.at
        (edges_lead_to_nodes.edges task (nodes_of f) a.from a.edge (formed_nodes f formed) (member_has f a.from a.has) a.is))

    pub edges_land : (k : NodeKey) (seen : SeenState) (items : List Node) → AreSeen task f (k ∷ []) seen
        → AreBeyond (device_of task.flash) (has_pairs task.assumptions) f (all_targets f notes seen.looks.items) items → items ≡ [] → LandAt task f (k ∷ [])
    edges_land k seen items are beyond none n e has i edge =
        ⊎_elim (λ h.
        let is = are.looks h.look h.member in
        let same = look_node task f h.look is n has h.at in
        let met : Contains (targets_of f notes h.look) (target e) =
        ⊎_elim (λ own. own_met task f notes known h.look is (target e) (subst (λ (m : Node). IsOwn task m (target e)) (sym same) own))
        (λ b. entered_met task f notes known h.look is b.by (target e) b.has (subst (λ (m : Node). ComesBack task m b.by (target e)) (sym same) b.comes))
        (edge_cases task f n e edge) in
        ⊎_elim (λ l. l) (λ c. absurd (none_in _ (subst (λ (l : List Node). Contains l (with_state (target e) c.state)) none c.present)))
        (beyond.each (target e) (contained_in_join (targets_of f notes) seen.looks.items h.look (target e) h.member met)))
        (λ h. absurd (never_both task n.key n.state h.fault (known.faultless n has) h.is))
        (are.each n.key n.state i has)

  pub none_land : LandAt task f []
  none_land n e has i edge = absurd (none_in n.key i)

  pub more_land : (keys : List NodeKey) (k : NodeKey) → LandAt task f keys → LandAt task f (k ∷ []) → LandAt task f (keys ++ k ∷ [])
  more_land keys k before this n e has i edge =
      ⊎_elim (λ j. before n e has j edge) (λ same. this n e has (this_one k n.key same) edge) (Contains-push_cases keys k n.key i)

  -- ---- the end

  pub confirmed : (keys : List NodeKey) (notes : Notes) → IsMade task f → FamilyHasInst f root_inst → FitsLimits f → ((n : Node) → FamilyHas f n → Contains keys n.key)
      → AreKnown task f notes → TellsAll (device_of task.flash) notes.nesting verdicts.Nests → LandAt task f keys → AreRoundsFound task None f
  confirmed keys notes made root fits all known nests land =
      orders_end.ends task f made (λ n e has edge. land n e has (all n has) edge) (nests_passes task f notes fits known root nests)
