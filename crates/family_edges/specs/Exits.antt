-- The exits of the nodes of a family.
use Rattle.std.specs.Prelude.{ℕ, ◌≡◌, ◌<◌, List, length, Option, Some, Result, Ok, Err, Contains, slice_get}
use Rattle.local_rules.specs.declared.local.Node.{Node}
use Rattle.local_rules.specs.declared.local.Local.{Local}
use Rattle.local_rules.specs.declared.local.Exit.{Exit}
use Rattle.local_rules.specs.declared.local.NodeFault.{NodeFault}
use Rattle.local_rules.specs.Local.{local}
use Rattle.edge_rules.specs.Edges.{IsFaultless, raw_of}
use Rattle.family_edges.specs.declared.exit_list.Leaving.{Leaving}
use Rattle.family_edges.specs.declared.exit_list.Leaving.TheVariants.{All, Fault}
use Rattle.family_edges.specs.Next.{exit_in}
use Rattle.local_rules.specs.Site.{Task}

-- no node has a fault, and these are their exits, by number
pub record AreExits (task : Task) (nodes : List Node) (exits : List (Option Exit)) : Type 0 where
  pub count : length exits ≡ length nodes
  pub faultless : (n : Node) → Contains nodes n → IsFaultless task n
  pub each : (at : ℕ) (n : Node) → slice_get nodes at ≡ Some n → slice_get exits at ≡ Some (raw_of task n).exit

-- the node of this number has this fault, and no node before it has one
pub record IsFirstFault (task : Task) (nodes : List Node) (at : ℕ) (f : NodeFault) : Type 0 where
  pub node : Node
  pub present : slice_get nodes at ≡ Some node
  pub fault : local task node.key node.state ≡ Err f
  pub before : (i : ℕ) (n : Node) → i < at → slice_get nodes i ≡ Some n → IsFaultless task n

-- the exits of all nodes, or the first fault
abbrev pub GivesExits : Task → List Node → Leaving → Type 0
GivesExits task nodes (All exits) = AreExits task nodes exits
GivesExits task nodes (Fault at f) = IsFirstFault task nodes at f

-- ---- on the way there

-- the node's exit, or its fault
abbrev pub exit_or : Result Local NodeFault → Result (Option Exit) NodeFault
exit_or (Ok l) = Ok l.exit
exit_or (Err f) = Err f

-- each given exit is the node's
abbrev pub AreExitsKnown : Task → List Node → List (Option Exit) → Type 0
AreExitsKnown task nodes known =
    (at : ℕ) (n : Node) (x : Option Exit) → slice_get nodes at ≡ Some n → slice_get known at ≡ Some x → x ≡ exit_in (local task n.key n.state)

-- the exits of the nodes below this number, which have no fault
pub record ExitsSoFar (task : Task) (nodes : List Node) (at : ℕ) (exits : List (Option Exit)) : Type 0 where
  pub count : length exits ≡ at
  pub clean : (i : ℕ) (n : Node) → i < at → slice_get nodes i ≡ Some n → IsFaultless task n
  pub each : (i : ℕ) (n : Node) → i < at → slice_get nodes i ≡ Some n → slice_get exits i ≡ Some (raw_of task n).exit
