-- Invariants while all nodes of a family are checked.
use Rattle.std.specs.Prelude.{List, Contains}
use Rattle.node_keys.specs.declared.keys.NodeKey.{NodeKey}
use Rattle.local_rules.specs.declared.local.Node.{Node}
use Rattle.edge_rules.specs.declared.edge.Edge.{Edge}
use Rattle.edge_rules.specs.Edges.{IsFaultless, IsEdge, target}
use Rattle.round_rules.specs.Families.{Family, nodes_of, FamilyHas, Lands}
use Rattle.round_steps.specs.declared.noting.Notes.{Notes}
use Rattle.fixpoint.specs.Progress.{AreTrue, IsKnown}
use Rattle.local_rules.specs.Site.{Task}

-- the nodes of these keys have no fault and are in the notes, and the notes hold
pub record AreKnownAt (task : Task) (f : Family) (keys : List NodeKey) (notes : Notes) : Type 0 where
  pub faultless : (n : Node) → FamilyHas f n → Contains keys n.key → IsFaultless task n
  pub each : (n : Node) → FamilyHas f n → Contains keys n.key → IsKnown task notes n
  pub so : AreTrue task f notes

-- the edges of the nodes of these keys land
abbrev pub LandAt : Task → Family → List NodeKey → Type 0
LandAt task f keys = (n : Node) (e : Edge) → FamilyHas f n → Contains keys n.key → IsEdge task (nodes_of f) n e → Lands f (target e)
