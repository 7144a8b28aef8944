-- A look is a visit of a node of the family: it finds its successors or its fault.
use Rattle.std.specs.Prelude.{◌≡◌, ◌≢◌, ◌⊎◌, List, [], ◌∷◌, ◌++◌, Option, Some, Result, Ok, Err, Contains, OnOk}
use Rattle.std.specs.FinMap.{get}
use Rattle.abs_state.specs.declared.state.AbsState.{AbsState}
use Rattle.node_keys.specs.declared.keys.NodeKey.{NodeKey}
use Rattle.local_rules.specs.declared.local.NodeFault.{NodeFault}
use Rattle.local_rules.specs.declared.local.NodeFault.TheVariants.{Memory}
use Rattle.local_rules.specs.Local.{local}
use Rattle.family_edges.specs.Ways.{ways_of}
use Rattle.round_rules.specs.Families.{Family}
use Rattle.round_rules.specs.Refusals.{FaultAt, IsFaultNoLater}
use Rattle.round_steps.specs.declared.looking.Look.{Look}
use Rattle.round_steps.specs.declared.looking.SeenState.{SeenState}
use Rattle.local_rules.specs.Site.{Task}

-- the look is at a node of the family, and has its successors
pub record IsLook (task : Task) (f : Family) (x : Look) : Type 0 where
  pub state : AbsState
  pub has : get f x.key ≡ Some state
  pub leads : local task x.key state ≡ Ok x.part
  pub entered : x.ways.items ≡ ways_of task x.key x.part.calls

-- one of the looks is at this node
pub record HasLook (xs : List Look) (k : NodeKey) : Type 0 where
  pub look : Look
  pub member : Contains xs look
  pub at : look.key ≡ k

-- the node has a fault, and the worst fault is at least as bad
pub record HasFault (task : Task) (worst : Option NodeFault) (k : NodeKey) (s : AbsState) : Type 0 where
  pub fault : NodeFault
  pub is : local task k s ≡ Err fault
  pub first : NodeFault
  pub found : worst ≡ Some first
  pub no_later : IsFaultNoLater first fault

-- each of these nodes of the family was visited or has a fault, and the worst fault is the least of theirs
pub record AreSeen (task : Task) (f : Family) (keys : List NodeKey) (seen : SeenState) : Type 0 where
  pub looks : (x : Look) → Contains seen.looks.items x → IsLook task f x
  pub each : (k : NodeKey) (s : AbsState) → Contains keys k → get f k ≡ Some s → HasLook seen.looks.items k ⊎ HasFault task seen.worst k s
  pub fault : (x : NodeFault) → seen.worst ≡ Some x → FaultAt task f x

-- ---- one more

-- the worse of the fault so far and another
pub record IsWorst (before : Option NodeFault) (fault now : NodeFault) : Type 0 where
  pub later : IsFaultNoLater now fault
  pub kept : (x : NodeFault) → before ≡ Some x → IsFaultNoLater now x
  pub either : (now ≡ fault) ⊎ (before ≡ Some now)

pub record IsFaultSeen (old : SeenState) (fault : NodeFault) (new : SeenState) : Type 0 where
  pub real : fault ≢ Memory
  pub worst : NodeFault
  pub is : new.worst ≡ Some worst
  pub of : IsWorst old.worst fault worst
  pub looks : new.looks.items ≡ old.looks.items

abbrev pub IsSeenBesides : Result Look NodeFault → SeenState → SeenState → Type 0
IsSeenBesides (Ok x) old new = (new.looks.items ≡ old.looks.items ++ x ∷ []) × (new.worst ≡ old.worst)
IsSeenBesides (Err fault) old new = IsFaultSeen old fault new

-- this node is seen besides those before it
abbrev pub SeesMore : {A E : Type 0} → Result A E → Task → Family → SeenState → NodeKey → SeenState → Type 0
SeesMore result task f old key new = (keys : List NodeKey) → AreSeen task f keys old → OnOk result (AreSeen task f (keys ++ key ∷ []) new)
