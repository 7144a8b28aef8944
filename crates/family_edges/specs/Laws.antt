-- Laws of answers.
use Rattle.std.specs.Prelude.{ℕ, ◌≡◌, ◌↔◌, ◌<◌, List, [], length, Option, Ok, Contains}
use Rattle.edge_rules.specs.Families.{AreFaultless}
use Rattle.abs_state.specs.declared.state.AbsState.{AbsState}
use Rattle.local_rules.specs.declared.local.Node.{Node}
use Rattle.local_rules.specs.declared.local.Exit.{Exit}
use Rattle.local_rules.specs.declared.local.Local.{Local}
use Rattle.local_rules.specs.declared.local.NodeFault.{NodeFault}
use Rattle.local_rules.specs.Local.{local, joined_onto}
use Rattle.edge_rules.specs.Edges.{IsFaultless, raw_of, Enters}
use Rattle.edge_rules.specs.Expansion.{Seeds, IsExpansion, IsMissing}
use Rattle.family_edges.specs.declared.filled.Expanded.{Expanded}
use Rattle.family_edges.specs.declared.filled.Expanded.TheVariants.{Whole, Missing}
use Rattle.family_edges.specs.declared.exit_list.Leaving.{Leaving}
use Rattle.family_edges.specs.declared.exit_list.Leaving.TheVariants.{All, Fault}
use Rattle.family_edges.specs.Expanding.{IsExpanded}
use Rattle.family_edges.specs.Exits.{GivesExits, IsFirstFault}
use Rattle.family_edges.specs.declared.ways.Way.{Way}
use Rattle.family_edges.specs.Ways.{ways_of}
use Rattle.local_rules.specs.Site.{Task}

-- each node has an expansion
abbrev pub HasAll : Task → Seeds → Type 0
HasAll task nodes = (at : ℕ) → at < length nodes → (s : AbsState) × IsExpansion task nodes at s

-- The answer has all states exactly if each node has one, and else the least node without one. It is unique.
pub record AnswersAreExact : Type 0 where
  pub whole : (task : Task) (nodes : Seeds) (answer : Expanded) → IsExpanded task nodes answer
      → ((filled : List Node) × (answer ≡ Whole filled)) ↔ HasAll task nodes
  pub missing : (task : Task) (nodes : Seeds) (answer : Expanded) (at : ℕ) → IsExpanded task nodes answer
      → (answer ≡ Missing at) ↔ IsMissing task nodes at
  pub one : (task : Task) (nodes : Seeds) (a b : Expanded) → IsExpanded task nodes a → IsExpanded task nodes b → a ≡ b

-- The answer has all exits exactly if no node has a fault, and else the first fault. It is unique.
pub record ExitsAreExact : Type 0 where
  pub whole : (task : Task) (nodes : List Node) (answer : Leaving) → GivesExits task nodes answer
      → ((exits : List (Option Exit)) × (answer ≡ All exits)) ↔ AreFaultless task nodes
  pub fault : (task : Task) (nodes : List Node) (answer : Leaving) (at : ℕ) (f : NodeFault) → GivesExits task nodes answer
      → (answer ≡ Fault at f) ↔ IsFirstFault task nodes at f
  pub one : (task : Task) (nodes : List Node) (a b : Leaving) → GivesExits task nodes a → GivesExits task nodes b → a ≡ b

-- The local part of a node agrees with its edges: it exists exactly if the node has no fault, and has the same successors, exit, and
-- calls.
pub record LocalPartsAreEdges : Type 0 where
  pub faultless : (task : Task) (n : Node) → ((l : Local) × (local task n.key n.state ≡ Ok l)) ↔ IsFaultless task n
  pub same : (task : Task) (n : Node) (l : Local) → local task n.key n.state ≡ Ok l → l.same ≡ joined_onto [] (raw_of task n).moves
  pub exit : (task : Task) (n : Node) (l : Local) → local task n.key n.state ≡ Ok l → l.exit ≡ (raw_of task n).exit
  pub ways : (task : Task) (n : Node) (l : Local) (w : Way) → local task n.key n.state ≡ Ok l
      → Contains (ways_of task n.key l.calls) w ↔ Enters task n w.kind w.inst w.back
