-- Invariants between rounds. Source: own.
use Rattle.std.specs.Prelude.{ℕ, ◌+◌, ◌≡◌, ◌⊎◌, ⊤, List, [], Option, Some, None, Contains}
use Rattle.abs_state.specs.declared.state.AbsState.{AbsState}
use Rattle.abs_state.specs.Frames.{entered}
use Rattle.abs_state.specs.PairsBack.{returned}
use Rattle.node_keys.specs.declared.keys.InstKey.{InstKey}
use Rattle.node_keys.specs.declared.keys.NodeKey.{NodeKey}
use Rattle.node_keys.specs.declared.keys.EdgeKind.{EdgeKind}
use Rattle.node_keys.specs.declared.keys.SpForm.TheVariants.{Closed}
use Rattle.node_keys.specs.Keys.{root_inst, entry_key, offset_of, cut_at}
use Rattle.local_rules.specs.declared.local.Exit.{Exit}
use Rattle.local_rules.specs.declared.local.Node.{Node}
use Rattle.local_rules.specs.Local.{joined_onto}
use Rattle.edge_rules.specs.Edges.{IsFaultless, raw_of, Enters, returned_key}
use Rattle.round_table.specs.declared.crossings.Crossing.{Crossing}
use Rattle.round_table.specs.Crossings.{IsCrossing}
use Rattle.round_nesting.specs.Nestings.{Spot, Entrance, AreOnce, IsSpotOf}
use Rattle.round_rules.specs.Families.{Family, FamilyHas, FamilyHasInst, Lands, HasNoFault, cells}
use Rattle.round_rules.specs.Rounds.{IsEntering, Comes}
use Rattle.round_rules.specs.declared.refusal.Refusal.{Refusal}
use Rattle.round_rules.specs.declared.refusal.Refusal.TheVariants.{Spent}
use Rattle.round_rules.specs.Refusals.{IsSolved}
use Rattle.round_rules.specs.Solutions.{IsWithinBudget}
use Rattle.round_steps.specs.declared.noting.Notes.{Notes}
use Rattle.round_steps.specs.Notings.{caller, leaver}
use Rattle.local_rules.specs.Site.{Task}

-- ---- where a node leads, alone and with one that leaves what it enters

pub data IsOwn (task : Task) (n : Node) : Node → Type 0 where
  own_move : (to : Node) → IsFaultless task n → Contains (joined_onto [] (raw_of task n).moves) to → IsOwn task n to
  own_entry : (way : EdgeKind) (inst : InstKey) (back : ℕ) → Enters task n way inst back → IsOwn task n (record { key = entry_key inst; state = entered n.state })

pub data ComesBack (task : Task) (n m : Node) : Node → Type 0 where
  comes_back : (way : EdgeKind) (inst : InstKey) (back : ℕ) (x : Exit) (state : AbsState) → Enters task n way inst back → m.key.inst ≡ inst → IsFaultless task m
      → (raw_of task m).exit ≡ Some x → returned n.state m.state ≡ Some state → ComesBack task n m (record { key = returned_key way n.key back x; state = state })

-- ---- what the notes say

-- a node of the family enters the instance, as the crossing says
pub record IsCaller (task : Task) (f : Family) (inst : InstKey) (p : Crossing) : Type 0 where
  pub node : Node
  pub has : FamilyHas f node
  pub at : node.key ≡ p.node
  pub enters : Enters task node p.kind inst p.back

-- a node of the family leaves its instance, as the crossing says
pub record IsLeaver (task : Task) (f : Family) (inst : InstKey) (p : Crossing) : Type 0 where
  pub node : Node
  pub has : FamilyHas f node
  pub at : node.key ≡ p.node
  pub of : node.key.inst ≡ inst
  pub exit : (raw_of task node).exit ≡ Some p.exit

-- the notes hold of the family
pub record AreTrue (task : Task) (f : Family) (notes : Notes) : Type 0 where
  pub callers : (inst : InstKey) (p : Crossing) → IsCrossing notes.callers inst p → IsCaller task f inst p
  pub leavers : (inst : InstKey) (p : Crossing) → IsCrossing notes.leavers inst p → IsLeaver task f inst p
  pub insts : (inst : InstKey) → Contains notes.nesting.insts inst → FamilyHasInst f inst
  pub spots : (s : Spot) → Contains notes.nesting.spots s → IsSpotOf f s
  pub entrances : (e : Entrance) → Contains notes.nesting.entrances e → IsEntering task f e.from e.into e.offset

-- the notes have all that the node contributes
pub record IsKnown (task : Task) (notes : Notes) (n : Node) : Type 0 where
  pub callers : (way : EdgeKind) (inst : InstKey) (back : ℕ) → Enters task n way inst back
      → IsCrossing notes.callers inst (caller n.key (record { kind = way; inst = inst; back = back }))
  pub leavers : (x : Exit) → (raw_of task n).exit ≡ Some x → IsCrossing notes.leavers n.key.inst (leaver n.key x)
  pub inst : Contains notes.nesting.insts n.key.inst
  pub spot : (offset : ℕ) → n.key.sp ≡ Closed offset → Contains notes.nesting.spots (record { inst = n.key.inst; offset = offset })
  pub entrances : (way : EdgeKind) (inst : InstKey) (back : ℕ) → Enters task n way inst back → cut_at task.assumptions inst ≡ None
      → Contains notes.nesting.entrances (record { from = n.key.inst; into = inst; offset = offset_of n.key.sp })
  pub recur : (depth : ℕ) → cut_at task.assumptions n.key.inst ≡ Some depth
      → Contains notes.nesting.entrances (record { from = root_inst; into = n.key.inst; offset = depth })

-- the notes have all nodes of a family without faults, and hold
pub record AreKnown (task : Task) (f : Family) (notes : Notes) : Type 0 where
  pub faultless : HasNoFault task f
  pub each : (n : Node) → FamilyHas f n → IsKnown task notes n
  pub so : AreTrue task f notes

-- ---- before a round

-- the node needs no visit
pub record IsHeld (task : Task) (f : Family) (notes : Notes) (n : Node) : Type 0 where
  pub faultless : IsFaultless task n
  pub known : IsKnown task notes n
  pub own : (to : Node) → IsOwn task n to → Lands f to

-- Each node that is not in the list needs no visit, and between two such nodes returns land. If no node has a fault, the notes hold.
pub record Turn (task : Task) (f : Family) (work : List NodeKey) (notes : Notes) : Type 0 where
  pub held : (n : Node) → FamilyHas f n → Contains work n.key ⊎ IsHeld task f notes n
  pub backs : (n m to : Node) → FamilyHas f n → FamilyHas f m → ComesBack task n m to → Contains work n.key ⊎ (Contains work m.key ⊎ Lands f to)
  pub so : HasNoFault task f → AreTrue task f notes
  pub once : AreOnce notes.nesting.insts

-- ---- the budget

-- the budget that is left after n rounds
abbrev pub IsBudgetLeft : Option ℕ → Option ℕ → ℕ → Type 0
IsBudgetLeft None None n = ⊤
IsBudgetLeft None (Some left) n = ⊥
IsBudgetLeft (Some steps) None n = ⊥
IsBudgetLeft (Some steps) (Some left) n = left + n ≡ steps

-- the state of the rounds so far
pub record RoundsProgress (task : Task) (steps left : Option ℕ) (f : Family) (count : ℕ) (work : List NodeKey) (notes : Notes) : Type 0 where
  pub number : ℕ
  pub comes : Comes task number f
  pub budget : IsBudgetLeft steps left number
  pub turn : Turn task f work notes
  pub counted : count ≡ cells f

-- the budget was for n rounds, and the refusal says so
abbrev pub IsSpent : Option ℕ → ℕ → Refusal → Type 0
IsSpent steps n r = (r ≡ Spent n) × (steps ≡ Some n)

-- the rounds end within the budget at this family
pub record AreRoundsFound (task : Task) (steps : Option ℕ) (f : Family) : Type 0 where
  pub number : ℕ
  pub within : IsWithinBudget steps number
  pub solved : IsSolved task number f
