-- What the code does for a whole `Raw`: it inserts nodes into a list and returns the calls and the return, or the fault that counts.
use Rattle.std.specs.Prelude.{ℕ, ◌≡◌, ◌≢◌, List, [], Option, Some, None, Result, Ok, Err}
use Rattle.std.specs.Global.{Vec}
use Rattle.text_base.specs.Answers.{Answers}
use Rattle.local_rules.specs.declared.local.Local.{Local}
use Rattle.local_rules.specs.declared.local.Node.{Node}
use Rattle.local_rules.specs.declared.local.NodeFault.{NodeFault}
use Rattle.local_rules.specs.declared.local.NodeFault.TheVariants.{UnresolvedJump, Memory}
use Rattle.local_rules.specs.Raw.{Raw}
use Rattle.local_rules.specs.Local.{settled}
use Rattle.abs_step.specs.Adding.{Moving, plain, with_nodes, first_fault}
use Rattle.abs_step.specs.declared.flow.Outgoing.{Outgoing}

-- the possible targets of an indirect transfer at pc, or the fault that there are too many
abbrev pub FindsWords : Result (Vec ℕ) NodeFault → Option (List ℕ) → ℕ → Type 0
FindsWords (Ok words) due pc = due ≡ Some words.items
FindsWords (Err f) due pc = f ≢ Memory → (due ≡ None) × (f ≡ UnresolvedJump pc)

-- the nodes were inserted, and the calls and the return are given
pub record IsLed (old new : Moving) (o : Outgoing) (r : Raw) : Type 0 where
  pub faults : r.faults ≡ []
  pub nodes : new ≡ with_nodes old r.moves
  pub calls : o.calls ≡ r.calls
  pub exit : o.exit ≡ r.exit

abbrev pub LeadsOn : Moving → Moving → Result Outgoing NodeFault → Raw → Type 0
LeadsOn old new (Ok o) r = IsLed old new o r
LeadsOn old new (Err f) r = f ≢ Memory → first_fault r.faults ≡ Some f

-- into a list of which no state is refined
abbrev pub LeadsAs : List Node → List Node → Result Outgoing NodeFault → Raw → Type 0
LeadsAs old new result r = LeadsOn (plain old) (plain new) result r

-- the one answer that is due for a `Raw`, unless memory runs out
abbrev pub Settles : Result Local NodeFault → Raw → Type 0
Settles result r = Answers (λ l. l) Memory result (settled r r.faults)
