-- The successors of a step, if the facts on pairs hold after the instruction has set its registers and flags.
use Rattle.std.proofs.Common.{ℕ, Bool, Option}
use Rattle.avr_model.specs.declared.effect.Effect.{Effect}
use Rattle.avr_model.specs.State.{State}
use Rattle.avr_model.specs.Step.{with_registers}
use Rattle.sp_domain.specs.Tags.{Origin}
use Rattle.pair_domain.specs.declared.facts.PairFacts.{PairFacts}
use Rattle.abs_state.specs.Laws.{HoldsAt}
use Rattle.node_keys.specs.declared.keys.NodeKey.{NodeKey}
use Rattle.local_rules.specs.declared.local.Node.{Node}
use Rattle.local_rules.specs.Raw.{Raw}
use Rattle.local_rules.specs.Cover as cover

-- the facts on pairs hold before a byte is stored
abbrev pub HeldAt : State → Option PairFacts → Effect → Type 0
HeldAt m x e = HoldsAt x (with_registers m.registers e.registers) e.sreg

pub record ArrivesWhere (may : Bool) (m : State) (o : Origin) (x : Option PairFacts) (guarded : Bool) (e : Effect) (to : Node) : Type 0 where
  pub lands : HeldAt m x e → cover.ArrivesAt may m o guarded e to

pub record FollowsWhere (may : Bool) (m : State) (o : Origin) (x : Option PairFacts) (k : NodeKey) (guarded : Bool) (b1 b2 : ℕ) (e : Effect) (r : Raw) : Type 0 where
  pub leads : HeldAt m x e → cover.Follows may m o k guarded b1 b2 e r
