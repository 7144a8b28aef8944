-- Crossings by instance: the nodes that enter or leave it.
use Rattle.std.specs.Prelude.{ℕ, ◌≡◌, ◌↔◌, ◌⊎◌, List, [], map, Some, slice_get, Contains, unwrap_or}
use Rattle.std.specs.Map.{lookup}
use Rattle.indexmap.specs.IndexSet.{IndexSet}
use Rattle.node_keys.specs.declared.keys.InstKey.{InstKey}
use Rattle.node_keys.specs.Order.{same_inst}
use Rattle.round_table.specs.declared.crossings.Crossing.{Crossing}

-- the crossings of each instance, in order of first use
abbrev pub Groups : Type 0
Groups = List (InstKey × List Crossing)

-- an instance's set as a list
abbrev pub listed : {S : Type 0} → InstKey × IndexSet Crossing S → InstKey × List Crossing
listed e = (e.0, e.1.keys)

abbrev pub groups_of : {S : Type 0} → List (InstKey × IndexSet Crossing S) → Groups
groups_of = map listed

-- the instance's crossings
abbrev pub crossings_at : Groups → InstKey → List Crossing
crossings_at gs inst = unwrap_or (lookup (same_inst inst) gs) []

-- the crossing is the instance's
abbrev pub IsCrossing : Groups → InstKey → Crossing → Type 0
IsCrossing gs inst c = Contains (crossings_at gs inst) c

-- one more crossing, if it is new
abbrev pub IsCrossingAdded : Groups → InstKey → Crossing → Groups → Type 0
IsCrossingAdded gs inst crossing new = (i : InstKey) (c : Crossing) → IsCrossing new i c ↔ (IsCrossing gs i c ⊎ ((i ≡ inst) × (c ≡ crossing)))

-- no crossing occurs twice
abbrev pub AreCrossingsOnce : List Crossing → Type 0
AreCrossingsOnce cs = (i j : ℕ) (c : Crossing) → slice_get cs i ≡ Some c → slice_get cs j ≡ Some c → i ≡ j
