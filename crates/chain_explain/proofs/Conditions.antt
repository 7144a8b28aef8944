-- The reached nodes of a family that meets the conditions meet them too.
use Rattle.std.proofs.Common.{refl, ℕ, List, Contains}
use Rattle.abs_state.specs.Frames.{entered}
use Rattle.node_keys.specs.declared.keys.InstKey.{InstKey}
use Rattle.node_keys.specs.Keys.{entry_key}
use Rattle.local_rules.specs.declared.local.Node.{Node}
use Rattle.edge_rules.specs.declared.edge.Edge.{Edge}
use Rattle.edge_rules.specs.Edges.{IsEdge, moving, entering, returning, target}
use Rattle.edge_rules.specs.Nest.{NestEdge, recurs, enters as by_node}
use Rattle.edge_rules.specs.Families.{IsCovered}
use Rattle.certificate.specs.Claims.{Claim}
use Rattle.certificate.specs.Valid.{reset_node, AllLand, MeetsConditions}
use Rattle.family_graph.specs.Graphs.{IsPeopled}
use Rattle.chain_explain.specs.Reached.{IsReached, AreReached, at_reset, by_edge}
use Rattle.local_rules.specs.Site.{Task}

module _ (task : Task) (nodes reached : List Node) (are : AreReached task nodes reached) where
  pub of_family : (n : Node) → Contains reached n → Contains nodes n
  of_family n h = ((are.exact n).0 h).0

  pub reached_by : (n : Node) → Contains reached n → IsReached task nodes n.key
  reached_by n h = ((are.exact n).0 h).1

  -- an edge of the reached nodes is one of the family
  edge_up : (n : Node) (e : Edge) → IsEdge task reached n e → IsEdge task nodes n e
  edge_up n _ (moving to clean member) = moving to clean member
  edge_up n _ (entering way inst back enters) = entering way inst back enters
  edge_up n _ (returning way inst back leaver x state enters present at clean exit is) =
      returning way inst back leaver x state enters (of_family leaver present) at clean exit is

  -- an edge of the nest of the reached nodes is one of the family's
  nest_up : (i j : InstKey) (depth : ℕ) → NestEdge task (Contains reached) i j depth → NestEdge task (Contains nodes) i j depth
  nest_up i j depth (by_node n way back h same at e whole) = by_node n way back (of_family n h) same at e whole
  nest_up i j depth (recurs n h same cut top) = recurs n (of_family n h) same cut top

  -- a covered node with a reached key is covered by a reached one
  covered_down : (n : Node) → IsCovered nodes n → IsReached task nodes n.key → IsCovered reached n
  covered_down n c r = record { state = c.state; present = (are.exact (record { key = n.key; state = c.state })).1 (c.present, r); above = c.above }

  pub meets_reached : (c : Claim) → MeetsConditions task c nodes → MeetsConditions task c reached
  meets_reached c meets =
      record {
        device = meets.device;
        reset = covered_down (reset_node task.assumptions) meets.reset at_reset;
        faultless = λ n h. meets.faultless n (of_family n h);
        edges = λ n e h is.
            let up = edge_up n e is in
            covered_down (target e) (meets.edges n e (of_family n h) up) (by_edge n e (of_family n h) (reached_by n h) up);
        ranks = λ i j depth edge. meets.ranks i j depth (nest_up i j depth edge);
        needs = λ inst.
            let s = meets.needs inst in
            record {
              offsets = λ n offset h same closed. s.offsets n offset (of_family n h) same closed;
              entered = λ into depth edge. s.entered into depth (nest_up inst into depth edge);
            };
        bounded = meets.bounded;
        assumptions = meets.assumptions;
      }

-- if edges land, each entered instance has its first node
pub peopled : (task : Task) (nodes : List Node) → AllLand task nodes → IsPeopled task nodes
peopled task nodes lands n way into back has enters =
    let l = lands n (record { kind = way; to = entry_key into; state = entered n.state }) has (entering way into back enters) in
    (record { key = entry_key into; state = l.state }, (l.present, refl))
