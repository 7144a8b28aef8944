-- What clauses of functions over nodes say often.
use Rattle.std.specs.Prelude.{ℕ, ◌≡◌, List, ◌++◌, Some, Result, OnOk, slice_get}
use Rattle.avr_model.specs.Devices.{device_of}
use Rattle.avr_model.specs.Assumptions.{has_pairs}
use Rattle.local_rules.specs.Cover.{IsNodeIn}
use Rattle.local_rules.specs.Site.{Task}
use Rattle.local_rules.specs.declared.local.Node.{Node}

-- this holds of the node of this number
abbrev pub AtNumber : List Node → ℕ → (Node → Type 0) → Type 0
AtNumber nodes at P = (n : Node) → slice_get nodes at ≡ Some n → P n

-- if there is no error, these items were added at the end
abbrev pub Grows : {X A E : Type 0} → Result A E → List X → List X → List X → Type 0
Grows result old new more = OnOk result (new ≡ old ++ more)

-- a node of the task's analysis
abbrev pub IsNodeOf : Task → Node → Type 0
IsNodeOf task n = IsNodeIn (device_of task.flash) (has_pairs task.assumptions) n.key n.state
