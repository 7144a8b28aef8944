-- What a join of nodes into a family changes.
use Rattle.std.specs.Prelude.{ℕ, Bool, ◌+◌, ◌≡◌, ◌≤◌, List, ◌++◌, map, length, Contains, Result, OnOk}
use Rattle.std.specs.FinMap.{get}
use Rattle.avr_model.specs.declared.device.Device.{Device}
use Rattle.node_keys.specs.declared.keys.NodeKey.{NodeKey}
use Rattle.local_rules.specs.declared.local.Node.{Node}
use Rattle.local_laws.specs.Laws.{AreNodesIn}
use Rattle.round_rules.specs.Families.{Family, Lands, AreFormed, cells}
use Rattle.round_laws.specs.Steps.{raised_all, HaveOwnKeys, weight}

abbrev pub keys_of : List Node → List NodeKey
keys_of = map (λ (n : Node). n.key)

-- none of the nodes lands in the family
abbrev pub AreNew : Family → List Node → Type 0
AreNew f ns = (n : Node) → Contains ns n → Lands f n → ⊥

-- the families agree on each key that is not in the list
abbrev pub KeptBut : Family → Family → List NodeKey → Type 0
KeptBut f g changed = (k : NodeKey) → (Contains changed k → ⊥) → get g k ≡ get f k

-- the family's nodes and these are nodes of the analysis of one device: all follow pairs, or none does
pub record FitTogether (f : Family) (ns : List Node) : Type 0 where
  pub device : Device
  pub followed : Bool
  pub formed : AreFormed device followed f
  pub nodes : AreNodesIn device followed ns

-- g is f with some of the nodes joined, and the others are left
pub record AreJoinedSoFar (f : Family) (all : List Node) (g : Family) (count : ℕ) (left : List Node) (changed : List NodeKey) : Type 0 where
  pub joined : raised_all g left ≡ raised_all f all
  pub counted : count ≡ cells g
  pub fresh : AreNew g left
  pub apart : HaveOwnKeys left
  pub fit : FitTogether g left
  pub formed : (device : Device) (followed : Bool) → AreFormed device followed f → AreNodesIn device followed all → AreFormed device followed g × AreNodesIn device followed left
  pub keys : changed ++ keys_of left ≡ keys_of all
  pub kept : KeptBut f g changed
  pub more : weight f + length changed ≤ weight g

-- on each device on which f is formed and these are nodes of the analysis, g is formed
abbrev pub StaysFormed : {A E : Type 0} → Result A E → Family → List Node → Family → Type 0
StaysFormed result f ns g = (device : Device) (followed : Bool) → AreFormed device followed f → AreNodesIn device followed ns → OnOk result (AreFormed device followed g)
