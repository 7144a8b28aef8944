-- One more successor, in which vectors may be enabled.
use Rattle.std.proofs.Common.{◌≡◌, ◌≢◌, sym, ap, ◌∙◌, Bool, true, false, List, [], ◌∷◌, ◌++◌, Some, Result, Ok, Err}
use Rattle.avr_model.specs.declared.device.Device.{Device}
use Rattle.avr_model.specs.declared.assumption.Entry.{Entry}
use Rattle.abs_state.specs.declared.state.AbsState.{AbsState}
use Rattle.node_keys.specs.declared.keys.NodeKey.{NodeKey}
use Rattle.node_keys.specs.Wakes.{widened}
use Rattle.local_rules.specs.declared.local.Node.{Node}
use Rattle.local_rules.specs.declared.local.NodeFault.{NodeFault}
use Rattle.local_rules.specs.declared.local.NodeFault.TheVariants.{Memory}
use Rattle.local_rules.specs.Raw.{Raw, nowhere}
use Rattle.local_rules.specs.Writes.{waking}
use Rattle.abs_step.specs.Adding.{Moving, Adds, AreNodesAdded, with_nodes, first_fault}
use Rattle.abs_step.proofs.Added.{with_all, with_none, none_added}

-- the fault is the one that counts, if the node has it
abbrev pub Stops : NodeFault → Raw → Type 0
Stops f r = f ≢ Memory → first_fault r.faults ≡ Some f

module _ (device : Device) (A : List Entry) (k : NodeKey) (s : AbsState) where
  -- no successor is added
  pub none_woken : (b : Bool) (old : Moving) → b ≡ false → AreNodesAdded old old (waking b (record { key = record k { masks = widened device A k.masks }; state = s }) nowhere)
  none_woken true old e = absurd (cc)
  none_woken false old e = none_added old

  -- the nodes so far, and then the further successor, if there is one
  pub woken_too : {U : Type 0} (result : Result U NodeFault) (b : Bool) (old mid new : Moving) (r : Raw) → AreNodesAdded old mid r
      → Adds mid new result (waking b (record { key = record k { masks = widened device A k.masks }; state = s }) nowhere) → Adds old new result (waking b (record { key = record k { masks = widened device A k.masks }; state = s }) r)
  woken_too (Ok u) false old mid new r p q = record { moves = p.moves; nodes = q.nodes ∙ sym (with_none mid) ∙ p.nodes }
  woken_too (Ok u) true old mid new r p q =
      let more : List Node = record { key = record k { masks = widened device A k.masks }; state = s } ∷ [] in
      record {
        moves = ap (λ (r : Raw). record r { moves = r.moves ++ more }) p.moves;
        nodes = q.nodes ∙ ap (λ (m : Moving). with_nodes m more) p.nodes ∙ sym (with_all old r.moves more);
      }
  woken_too (Err f) false old mid new r p q = λ other. absurd (let none = q other in cc)
  woken_too (Err f) true old mid new r p q = λ other. absurd (let none = q other in cc)

  -- the fault that counts stays the same
  pub stopped_before : (f : NodeFault) (b : Bool) (r : Raw) → Stops f r → Stops f (waking b (record { key = record k { masks = widened device A k.masks }; state = s }) r)
  stopped_before f false r h = h
  stopped_before f true r h = h
