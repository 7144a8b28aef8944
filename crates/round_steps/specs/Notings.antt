-- Notes of visits: the nodes that enter or leave an instance, and the nesting of instances.
use Rattle.std.specs.Prelude.{◌≡◌, ◌↔◌, ◌⊎◌, List, [], Option, Some, None, Contains}
use Rattle.avr_model.specs.declared.assumption.Entry.{Entry}
use Rattle.node_keys.specs.declared.keys.InstKey.{InstKey}
use Rattle.node_keys.specs.declared.keys.NodeKey.{NodeKey}
use Rattle.node_keys.specs.declared.keys.EdgeKind.TheVariants as kind
use Rattle.node_keys.specs.declared.keys.SpForm.TheVariants.{Closed}
use Rattle.node_keys.specs.Keys.{root_inst, offset_of, cut_at}
use Rattle.local_rules.specs.declared.local.Exit.{Exit}
use Rattle.family_edges.specs.declared.ways.Way.{Way}
use Rattle.round_table.specs.declared.crossings.Crossing.{Crossing}
use Rattle.round_table.specs.Crossings.{Groups, IsCrossing}
use Rattle.round_nesting.specs.Nestings.{Spot, Entrance, Noted, nothing}
use Rattle.round_steps.specs.declared.looking.Look.{Look}
use Rattle.round_steps.specs.declared.noting.Notes.{Notes}

abbrev pub blank : Notes
blank = record { callers = []; leavers = []; nesting = nothing }

-- ---- what comes besides

-- some item of the list has the property
pub record AnyHas {X Y : Type 0} (xs : List X) (P : X → Y → Type 0) (y : Y) : Type 0 where
  pub one : X
  pub member : Contains xs one
  pub has : P one y

-- the second property is the first one or P
abbrev pub Besides : {Y : Type 0} → (Y → Type 0) → (Y → Type 0) → (Y → Type 0) → Type 0
Besides old more new = (y : _) → new y ↔ (old y ⊎ more y)

-- a crossing with its instance
abbrev pub HasCrossing : Groups → InstKey × Crossing → Type 0
HasCrossing gs y = IsCrossing gs y.0 y.1

-- the crossing of a node that enters an instance this way, and of one that leaves its instance
abbrev pub caller : NodeKey → Way → Crossing
caller k w = record { node = k; kind = w.kind; back = w.back; exit = record { masks = k.masks; i = k.i; delay = k.delay } }

abbrev pub leaver : NodeKey → Exit → Crossing
leaver k x = record { node = k; kind = kind.Return; back = k.pc; exit = x }

abbrev pub entrance : NodeKey → InstKey → Entrance
entrance k into = record { from = k.inst; into = into; offset = offset_of k.sp }

abbrev pub CallsBy : NodeKey → Way → InstKey × Crossing → Type 0
CallsBy k w y = y ≡ (w.inst, caller k w)

abbrev pub LeavesBy : NodeKey → Option Exit → InstKey × Crossing → Type 0
LeavesBy k x y = (x ≡ Some y.1.exit) × (y ≡ (k.inst, leaver k y.1.exit))

-- the entrance of an instance that isn't cut, by a node of this key; and of the instance of this key, if it is cut, by the root
abbrev pub EntersBy : List Entry → NodeKey → InstKey → Entrance → Type 0
EntersBy A k into e = (cut_at A into ≡ None) × (e ≡ entrance k into)

abbrev pub RecursBy : List Entry → InstKey → Entrance → Type 0
RecursBy A inst e = (cut_at A inst ≡ Some e.offset) × (e ≡ record { from = root_inst; into = inst; offset = e.offset })

abbrev pub HasCallers : Groups → NodeKey → List Way → Groups → Type 0
HasCallers old k ws new = Besides (HasCrossing old) (AnyHas ws (CallsBy k)) (HasCrossing new)

abbrev pub HasLeaver : Groups → NodeKey → Option Exit → Groups → Type 0
HasLeaver old k x new = Besides (HasCrossing old) (LeavesBy k x) (HasCrossing new)

-- the notes grew by these entrances
pub record HasEntrances (old : Noted) (more : Entrance → Type 0) (new : Noted) : Type 0 where
  pub insts : (i : InstKey) → Contains new.insts i ↔ Contains old.insts i
  pub spots : (s : Spot) → Contains new.spots s ↔ Contains old.spots s
  pub entrances : Besides (Contains old.entrances) more (Contains new.entrances)

-- the entrances in one of these ways
abbrev pub EnterBy : List Entry → NodeKey → List Way → Entrance → Type 0
EnterBy A k ws = AnyHas ws (λ w. EntersBy A k w.inst)

-- ---- of a look

abbrev pub CallsAt : Look → InstKey × Crossing → Type 0
CallsAt x = AnyHas x.ways.items (CallsBy x.key)

abbrev pub LeavesAt : Look → InstKey × Crossing → Type 0
LeavesAt x = LeavesBy x.key x.part.exit

abbrev pub InstAt : Look → InstKey → Type 0
InstAt x i = i ≡ x.key.inst

abbrev pub SpotAt : Look → Spot → Type 0
SpotAt x s = (s.inst ≡ x.key.inst) × (x.key.sp ≡ Closed s.offset)

abbrev pub EntersAt : List Entry → Look → Entrance → Type 0
EntersAt A x e = RecursBy A x.key.inst e ⊎ EnterBy A x.key x.ways.items e

-- the notes grew by what was found at one node
pub record IsNoted (A : List Entry) (old : Notes) (x : Look) (new : Notes) : Type 0 where
  pub callers : Besides (HasCrossing old.callers) (CallsAt x) (HasCrossing new.callers)
  pub leavers : Besides (HasCrossing old.leavers) (LeavesAt x) (HasCrossing new.leavers)
  pub insts : Besides (Contains old.nesting.insts) (InstAt x) (Contains new.nesting.insts)
  pub spots : Besides (Contains old.nesting.spots) (SpotAt x) (Contains new.nesting.spots)
  pub entrances : Besides (Contains old.nesting.entrances) (EntersAt A x) (Contains new.nesting.entrances)

-- the notes grew by what was found at several nodes
pub record AreNoted (A : List Entry) (old : Notes) (xs : List Look) (new : Notes) : Type 0 where
  pub callers : Besides (HasCrossing old.callers) (AnyHas xs CallsAt) (HasCrossing new.callers)
  pub leavers : Besides (HasCrossing old.leavers) (AnyHas xs LeavesAt) (HasCrossing new.leavers)
  pub insts : Besides (Contains old.nesting.insts) (AnyHas xs InstAt) (Contains new.nesting.insts)
  pub spots : Besides (Contains old.nesting.spots) (AnyHas xs SpotAt) (Contains new.nesting.spots)
  pub entrances : Besides (Contains old.nesting.entrances) (AnyHas xs (EntersAt A)) (Contains new.nesting.entrances)
