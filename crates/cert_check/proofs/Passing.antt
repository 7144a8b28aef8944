-- One pass over all edges.
use Rattle.std.proofs.Common.{◌≡◌, refl, sym, ap, ◌∙◌, subst, ℕ, ◌+◌, ◌<◌, ◌≤◌, ⊎_elim, List, [], ◌++◌, length, Option, Some, None, slice_get, Contains, arith}
use Rattle.std.specs.Option.{option_map}
use Rattle.std.proofs.lemmas.Bool.{cases_lt}
use Rattle.std.proofs.lemmas.List.Elements.{Contains-append_left, Contains-append_right, Contains-append_cases}
use Rattle.std.proofs.lemmas.Option.{none-some, same_Some, slice_get_within}
use Rattle.basics.specs.Items.{place_of_contained, contained_at, none_in}
use Rattle.basics.specs.Lists.{one_at}
use Rattle.avr_model.specs.Assumptions.{has_pairs}
use Rattle.avr_model.specs.Devices.{device_of}
use Rattle.node_keys.specs.declared.keys.NodeKey.{NodeKey}
use Rattle.local_rules.specs.declared.local.Node.{Node}
use Rattle.edge_rules.specs.declared.edge.Edge.{Edge}
use Rattle.edge_rules.specs.Edges.{IsEdge, AreEdges, target}
use Rattle.edge_rules.specs.Expansion.{Seeds}
use Rattle.edge_rules.specs.Views.{AreShown, key_of}
use Rattle.edge_laws.proofs.AllLaws.{edges_lead_to_nodes}
use Rattle.certificate.specs.declared.instance.Inst.{Inst}
use Rattle.certificate.specs.Insts.{inst_keys}
use Rattle.cert_check.specs.declared.demand.Demand.{Demand}
use Rattle.cert_check.specs.Reading.{LandsOpen}
use Rattle.cert_check.specs.Verdict.{AllLanded, IsFirstGap}
use Rattle.cert_check.specs.Demands.{IsLeastOffered, LeadsToNode, GapAt, KeyBelow, AreTargets, demands_of, AsksFor, AreDemands, AllBelong, IsMidway}
use Rattle.cert_check.proofs.Demands.{listed_asks, asked_listed, landed_belongs}
use Rattle.local_rules.specs.Site.{Task}

key_is : (nodes : List Node) (at : ℕ) (n : Node) (k : NodeKey) → slice_get nodes at ≡ Some n → option_map key_of (slice_get nodes at) ≡ Some k → n.key ≡ k
key_is nodes at n k is e = same_Some n.key k (sym (ap (option_map key_of) is) ∙ e)

module _ (task : Task) (own : Seeds) (insts : List Inst) (nodes : List Node) where
  pub begins : IsMidway task own insts nodes 0 []
  begins = record {
    land = λ i n e is lt. absurd (omega (arith, lt));
    asked = λ d h. absurd (none_in d h);
    listed = λ i n d is lt. absurd (omega (arith, lt));
  }

  module _ (at : ℕ) (demands : List Demand) (mid : IsMidway task own insts nodes at demands) (n : Node) (is : slice_get nodes at ≡ Some n) (edges : List Edge)
      (are : AreEdges task nodes n edges) where
    pub targets : AreShown (device_of task.flash) nodes → AreTargets edges
    targets shown = λ e h. (edges_lead_to_nodes.edges task nodes n e shown.all (contained_at nodes at n is) ((are e).0 h)).formed.count_slots

    pub gap_first : (to : NodeKey) → IsLeastOffered (LeadsToNode (has_pairs task.assumptions) own nodes) (GapAt (has_pairs task.assumptions) own nodes) KeyBelow edges (Some to) → IsFirstGap task own nodes at to
    gap_first to h = record {
      node = n;
      is = is;
      edge = h.0.0;
      from = (are h.0.0).0 h.0.1.0;
      leads = h.0.1.1.0;
      gap = h.0.1.1.1;
      least = λ e ie g. h.1 e e.to ((are e).1 ie) (refl, g);
      earlier = λ i m e im lt ie. mid.land i m e im lt ie;
    }

    pub targets_belong : AllBelong insts nodes → IsLeastOffered (LeadsToNode (has_pairs task.assumptions) own nodes) (GapAt (has_pairs task.assumptions) own nodes) KeyBelow edges None → (e : Edge) → Contains edges e
        → Contains (inst_keys insts) e.to.inst
    targets_belong belong clear = λ e h. landed_belongs insts nodes (target e) belong (clear e h).0

    land_here : IsLeastOffered (LeadsToNode (has_pairs task.assumptions) own nodes) (GapAt (has_pairs task.assumptions) own nodes) KeyBelow edges None → (i : ℕ) (m : Node) (e : Edge) → slice_get nodes i ≡ Some m → i < at + 1
        → IsEdge task nodes m e → LandsOpen (has_pairs task.assumptions) own nodes (target e)
    land_here clear i m e im lt ie =
        ⊎_elim (λ below. mid.land i m e im below ie)
        (λ above. let same : i ≡ at = omega (arith, lt, above) in
        let mn : m ≡ n = one_at nodes at m n (subst (λ j. slice_get nodes j ≡ Some m) same im) is in
        clear e ((are e).1 (subst (λ x. IsEdge task nodes x e) mn ie)))
        (cases_lt i at)

    listed_here : (new : List Demand) → new ≡ demands ++ demands_of task insts n.key edges → (i : ℕ) (m : Node) (d : Demand) → slice_get nodes i ≡ Some m → i < at + 1
        → AsksFor task insts m d → Contains new d
    listed_here new e i m d im lt asks =
        subst (λ l. Contains l d) (sym e)
        (⊎_elim (λ below. Contains-append_left demands (demands_of task insts n.key edges) d (mid.listed i m d im below asks))
        (λ above. let same : i ≡ at = omega (arith, lt, above) in
        let mn : m ≡ n = one_at nodes at m n (subst (λ j. slice_get nodes j ≡ Some m) same im) is in
        Contains-append_right demands (demands_of task insts n.key edges) d
        (asked_listed task insts n nodes edges are d (subst (λ x. AsksFor task insts x d) mn asks)))
        (cases_lt i at))

    pub goes_on : (k : NodeKey) (new : List Demand) → option_map key_of (slice_get nodes at) ≡ Some k → IsLeastOffered (LeadsToNode (has_pairs task.assumptions) own nodes) (GapAt (has_pairs task.assumptions) own nodes) KeyBelow edges None
        → new ≡ demands ++ demands_of task insts k edges → IsMidway task own insts nodes (at + 1) new
    goes_on k new key clear e =
        let f : new ≡ demands ++ demands_of task insts n.key edges = subst (λ x. new ≡ demands ++ demands_of task insts x edges) (sym (key_is nodes at n k is key)) e in
        record {
          land = land_here clear;
          asked = λ d h. ⊎_elim (mid.asked d)
              (λ i. record { node = n; present = contained_at nodes at n is; asks = listed_asks task insts n nodes edges are d i })
              (Contains-append_cases demands (demands_of task insts n.key edges) d (subst (λ l. Contains l d) f h));
          listed = listed_here new f;
        }

  module _ (at : ℕ) (demands : List Demand) (mid : IsMidway task own insts nodes at demands) (full : length nodes ≤ at) where
    pub ends : AllLanded task own nodes × AreDemands task insts nodes demands
    ends = (
      λ n e h ie. let w = place_of_contained nodes n h in
          mid.land w.0 n e w.1 (let lt = slice_get_within nodes w.0 n w.1 in omega (arith, lt, full)) ie,
      λ d. (
        mid.asked d,
        λ a. let w = place_of_contained nodes a.node a.present in
            mid.listed w.0 a.node d w.1 (let lt = slice_get_within nodes w.0 a.node w.1 in omega (arith, lt, full)) a.asks,
      ),
    )

pub key_belongs : (insts : List Inst) (nodes : List Node) (at : ℕ) (k : NodeKey) → AllBelong insts nodes → option_map key_of (slice_get nodes at) ≡ Some k
    → Contains (inst_keys insts) k.inst
key_belongs insts nodes at k belong e = by (slice_get nodes at) refl e
  where
    by : (o : Option Node) → slice_get nodes at ≡ o → option_map key_of o ≡ Some k → Contains (inst_keys insts) k.inst
    by None is e = absurd (none-some k e)
    by (Some n) is e = subst (λ (x : NodeKey). Contains (inst_keys insts) x.inst) (same_Some n.key k e) (belong n (contained_at nodes at n is))
