-- The edges of a family without faults, listed.
use Rattle.std.proofs.Common.{◌≡◌, sym, ap, subst, inr, List, [], map, Ok, Err, Result, Contains}
use Rattle.std.specs.List.{flat_map}
use Rattle.basics.specs.Items.{contained_in_join, each_of_join}
use Rattle.avr_model.specs.Assumptions.{has_pairs}
use Rattle.avr_model.specs.Devices.{device_of}
use Rattle.abs_state.proofs.AllLaws.{states_are_ordered}
use Rattle.local_rules.specs.declared.local.Node.{Node}
use Rattle.local_rules.specs.declared.local.NodeFault.{NodeFault}
use Rattle.local_rules.specs.Cover.{IsNodeIn}
use Rattle.local_laws.proofs.AllLaws.{in_map, each_in_map}
use Rattle.edge_rules.specs.declared.edge.Edge.{Edge}
use Rattle.edge_rules.specs.Edges.{IsFaultless, IsEdge, AreEdges, target}
use Rattle.edge_laws.proofs.AllLaws.{edges_lead_to_nodes}
use Rattle.family_edges.specs.Ways.{ways_of}
use Rattle.family_edges.specs.Next.{edges_with, next_by, next_of}
use Rattle.family_edges.proofs.AllLaws.{local_parts_are_edges, answer_edges}
use Rattle.round_rules.specs.Families.{Family, nodes_of, FamilyHas, AreFormed, HasNoFault}
use Rattle.round_laws.specs.Steps.{IsRoundOf}
use Rattle.round_laws.specs.Closed.{HaveRounds}
use Rattle.round_laws.proofs.AllLaws.{has_member, member_has, formed_nodes}
use Rattle.round_laws.proofs.CloseLaws.{closed_families_end_rounds}
use Rattle.round_solutions.specs.Closed.{ClosedFamiliesAreSolved}
use Rattle.local_rules.specs.Site.{Task}

module _ (task : Task) where
  -- the edges from a node, and none from one with a fault
  edges_or : Result (List Edge) NodeFault → List Edge
  edges_or (Ok all) = all
  edges_or (Err f) = []

  edges_from : List Node → Node → List Edge
  edges_from nodes n = edges_or (next_of task nodes n)

  are_edges : (nodes : List Node) (n : Node) → IsFaultless task n → AreEdges task nodes n (edges_from nodes n)
  unfolding edges_from edges_or
  are_edges nodes n clean =
      let l = (local_parts_are_edges.faultless task n).1 clean in
      let all = edges_with task nodes n (ways_of task n.key l.0.calls) l.0 in
      let is : next_of task nodes n ≡ Ok all = ap (next_by task nodes n) l.1 in
      subst (AreEdges task nodes n) (ap edges_or (sym is)) (answer_edges task nodes n (Ok all) is)

  all_edges : List Node → List Edge
  all_edges nodes = flat_map (edges_from nodes) nodes

  targets : Family → List Node
  targets f = map target (all_edges (nodes_of f))

  round_of : (f : Family) → AreFormed (device_of task.flash) (has_pairs task.assumptions) f → HasNoFault task f → IsRoundOf task f (targets f)
  unfolding targets all_edges
  round_of f formed clean =
      let each : (P : Node → Type 0) → ((n : Node) (e : Edge) → FamilyHas f n → IsEdge task (nodes_of f) n e → P (target e)) → (to : Node) → Contains (targets f) to → P to = λ P h.
      each_in_map target P (all_edges (nodes_of f))
      (λ e. each_of_join (edges_from (nodes_of f)) (λ x. P (target x)) (nodes_of f)
      (λ n x i j. let has = has_member f n i in h n x has ((are_edges (nodes_of f) n (clean n has) x).0 j)) e) in
      record {
        formed = each (λ to. IsNodeIn (device_of task.flash) (has_pairs task.assumptions) to.key to.state) (λ n e has edge. edges_lead_to_nodes.edges task (nodes_of f) n e (formed_nodes f formed) (member_has f n has) edge);
        all = λ n e has edge. inr (record {
          state = e.state;
          present = in_map target (all_edges (nodes_of f)) e
              (contained_in_join (edges_from (nodes_of f)) (nodes_of f) n e (member_has f n has) ((are_edges (nodes_of f) n (clean n has) e).1 edge));
          above = states_are_ordered.same e.state;
        });
        least = λ h up lands. each (Rattle.round_rules.specs.Families.Lands h) (λ n e has edge. lands n e has edge);
      }

  have_rounds : HaveRounds task
  have_rounds f formed clean = (targets f, round_of f formed clean)

pub closed_families_are_solved : ClosedFamiliesAreSolved
closed_families_are_solved = record {
  rounds = have_rounds;
  solved = λ task f made closed passes. closed_families_end_rounds.ends task f (have_rounds task) made closed passes;
}
