-- The results of a round's visits determine the faults of the whole family.
use Rattle.std.proofs.Common.{◌≡◌, sym, ap, ◌∙◌, subst, ⊎_elim, List, [], Some, None, Err, Contains}
use Rattle.std.specs.Prelude.{◌↔◌}
use Rattle.std.specs.FinMap.{get}
use Rattle.std.proofs.lemmas.Option.{same_Some}
use Rattle.round_steps.proofs.Seeing.{some_fault}
use Rattle.node_keys.specs.declared.keys.NodeKey.{NodeKey}
use Rattle.local_rules.specs.declared.local.Node.{Node}
use Rattle.local_rules.specs.declared.local.NodeFault.{NodeFault}
use Rattle.local_rules.specs.Local.{local, joined_onto}
use Rattle.edge_rules.specs.Edges.{IsFaultless, raw_of, Enters}
use Rattle.family_edges.specs.declared.ways.Way.{Way}
use Rattle.family_edges.proofs.AllLaws.{local_parts_are_edges}
use Rattle.round_rules.specs.Families.{Family, FamilyHas, HasNoFault}
use Rattle.round_rules.specs.Refusals.{FaultAt, IsFaultNoLater, IsLeastFault}
use Rattle.round_laws.proofs.AllLaws.{never_both}
use Rattle.round_steps.specs.declared.looking.Look.{Look}
use Rattle.round_steps.specs.declared.looking.SeenState.{SeenState}
use Rattle.round_steps.specs.declared.noting.Notes.{Notes}
use Rattle.round_steps.specs.Looks.{IsLook, HasLook, AreSeen}
use Rattle.fixpoint.specs.Progress.{Turn}
use Rattle.local_rules.specs.Site.{Task}

module _ (task : Task) where
  -- a visit and its node
  module _ (f : Family) (x : Look) (is : IsLook task f x) where
    abbrev pub seen_node : Node
    seen_node = record { key = x.key; state = is.state }

    pub look_clean : IsFaultless task seen_node
    look_clean = (local_parts_are_edges.faultless task seen_node).0 (x.part, is.leads)

    pub look_same : x.part.same ≡ joined_onto [] (raw_of task seen_node).moves
    look_same = local_parts_are_edges.same task seen_node x.part is.leads

    pub look_exit : x.part.exit ≡ (raw_of task seen_node).exit
    look_exit = local_parts_are_edges.exit task seen_node x.part is.leads

    pub look_way : (w : Way) → Contains x.ways.items w ↔ Enters task seen_node w.kind w.inst w.back
    look_way w =
        let law = local_parts_are_edges.ways task seen_node x.part w is.leads in
        (λ i. law.0 (subst (λ (l : List Way). Contains l w) is.entered i), λ e. subst (λ (l : List Way). Contains l w) (sym is.entered) (law.1 e))

    -- a node of the visit's key is the visited one
    pub look_node : (n : Node) → FamilyHas f n → x.key ≡ n.key → seen_node ≡ n
    look_node n has at =
        let state : is.state ≡ n.state = same_Some is.state n.state (sym is.has ∙ ap (get f) at ∙ has) in
        λ i. record { key = at i; state = state i }

  -- a node of the list was visited, or has a fault
  module _ (f : Family) (work : List NodeKey) (notes : Notes) (seen : SeenState) (turn : Turn task f work notes) (are : AreSeen task f work seen) where
    look_at_clean : (n : Node) → FamilyHas f n → HasLook seen.looks.items n.key → IsFaultless task n
    look_at_clean n has h =
        let is = are.looks h.look h.member in
        subst (IsFaultless task) (look_node f h.look is n has h.at) (look_clean f h.look is)

    pub none_faulty : seen.worst ≡ None → HasNoFault task f
    none_faulty none n has =
        ⊎_elim (λ i. ⊎_elim (look_at_clean n has) (λ h. absurd (let never = sym none ∙ h.found in cc)) (are.each n.key n.state i has)) (λ held. held.faultless) (turn.held n has)

    pub least_fault : (b : NodeFault) → seen.worst ≡ Some b → IsLeastFault task f b
    least_fault b worst = (are.fault b worst, λ y at. later y at)
      where
        later : (y : NodeFault) → FaultAt task f y → IsFaultNoLater b y
        later y at =
            let n = at.node in
            ⊎_elim
            (λ i. ⊎_elim
            (λ h. absurd (never_both task n.key n.state y (look_at_clean n at.has h) at.is))
            (λ h.
            let first : h.first ≡ b = some_fault h.first b seen.worst h.found worst in
            let fault : h.fault ≡ y = err_is h.fault y n h.is at.is in
            subst (λ (z : NodeFault). IsFaultNoLater z y) first (subst (IsFaultNoLater h.first) fault h.no_later))
            (are.each n.key n.state i at.has))
            (λ held. absurd (never_both task n.key n.state y held.faultless at.is)) (turn.held n at.has)
          where
            err_is : (a c : NodeFault) (n : Node) → local task n.key n.state ≡ Err a → local task n.key n.state ≡ Err c → a ≡ c
            err_is a c n d e = let both = sym d ∙ e in cc

    -- if no fault was found, a node of the list was visited
    pub looked : seen.worst ≡ None → (n : Node) → FamilyHas f n → Contains work n.key → HasLook seen.looks.items n.key
    looked none n has i = ⊎_elim (λ h. h) (λ h. absurd (let never = sym none ∙ h.found in cc)) (are.each n.key n.state i has)
