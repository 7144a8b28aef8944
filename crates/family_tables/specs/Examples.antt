-- The instances and nodes of a firmware with one call, the worked one of edges. No register or flag matters.
use Rattle.std.specs.Prelude.{ℕ, Bool, true, false, List, [], ◌∷◌}
use Rattle.abs_state.specs.Values.{root}
use Rattle.abs_state.specs.Frames.{entered}
use Rattle.node_keys.specs.declared.keys.NodeKey.{NodeKey}
use Rattle.node_keys.specs.Keys.{root_inst, entry_key}
use Rattle.edge_rules.specs.declared.seeded.NodeForm.{NodeForm}
use Rattle.edge_rules.specs.declared.seeded.NodeForm.TheVariants.{State, From}
use Rattle.edge_rules.specs.Examples.{callee}
use Rattle.edge_rules.specs.Expansion.{Seeds}
use Rattle.certificate.specs.declared.instance.Inst.{Inst}

-- the word after the call
abbrev pub behind : NodeKey
behind = record (entry_key root_inst) { pc = 1 }

-- the node has a state, or comes from the node before
abbrev pub form_by : Bool → NodeForm
form_by true = From 0
form_by false = State root

abbrev pub nodes_by : Bool → Seeds
nodes_by from = (entry_key root_inst, State root) ∷ (behind, form_by from) ∷ (entry_key callee, State (entered root)) ∷ []

abbrev pub insts_by : ℕ → ℕ → List Inst
insts_by rank need = record { key = root_inst; rank = rank; need = need } ∷ record { key = callee; rank = 0; need = 0 } ∷ []
