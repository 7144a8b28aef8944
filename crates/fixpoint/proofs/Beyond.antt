-- The nodes of a round that do not yet land in the family are a round.
use Rattle.std.proofs.Common.{Bool, ◌⊎◌, inl, inr, ⊎_elim, List}
use Rattle.avr_model.specs.declared.device.Device.{Device}
use Rattle.avr_model.specs.Assumptions.{has_pairs}
use Rattle.avr_model.specs.Devices.{device_of}
use Rattle.abs_state.proofs.AllLaws.{states_are_ordered}
use Rattle.local_rules.specs.declared.local.Node.{Node}
use Rattle.edge_rules.specs.Families.{IsCovered}
use Rattle.edge_rules.specs.Edges.{target}
use Rattle.edge_laws.specs.Laws.{with_state}
use Rattle.round_rules.specs.Families.{Family, Lands}
use Rattle.round_laws.specs.Steps.{IsRoundOf}
use Rattle.round_steps.specs.Gathers.{AreBeyond}
use Rattle.local_rules.specs.Site.{Task}

module _ (device : Device) (followed : Bool) (f : Family) (all items : List Node) (beyond : AreBeyond device followed f all items) where
  lands_or : (to : Node) → IsCovered all to → Lands f to ⊎ IsCovered items to
  lands_or to c =
      ⊎_elim (λ l. inl (record { at = l.at; is = l.is; above = states_are_ordered.through to.state c.state l.at c.above l.above }))
      (λ d. inr (record { state = d.state; present = d.present; above = states_are_ordered.through to.state c.state d.state c.above d.above }))
      (beyond.each (with_state to c.state) c.present)

pub round_beyond : (task : Task) (f : Family) (all items : List Node) → IsRoundOf task f all → AreBeyond (device_of task.flash) (has_pairs task.assumptions) f all items → IsRoundOf task f items
round_beyond task f all items round beyond = record {
  formed = beyond.nodes;
  all = λ n e has edge. ⊎_elim (λ l. inl l) (lands_or (device_of task.flash) (has_pairs task.assumptions) f all items beyond (target e)) (round.all n e has edge);
  least = λ h up lands. beyond.least h (round.least h up lands);
}
