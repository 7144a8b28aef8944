use Rattle.std.proofs.Common.{◌∙◌, sym, ap, ℕ, ◌≤◌, ◌&&◌, arith, get_or, take, length, Bool, not}
use Rattle.std.specs.List.{list_any}
use Rattle.std.proofs.lemmas.Bool.{and_from, or_from}
use Rattle.std.proofs.lemmas.List.{take_all}
use Rattle.std.proofs.lemmas.List.Folds.{list_any_at, list_any_more}
use Rattle.basics.specs.Booleans.{and_with_false}
use Rattle.avr_model.specs.declared.rows.EnablePlace.{EnablePlace}
use Rattle.avr_model.specs.declared.rows.Enable.TheVariants.{Bit}
use Rattle.avr_model.specs.Masks.{is_barred}
use Rattle.avr_model.specs.State.{minus16}
use Rattle.node_keys.specs.Wakes.{may_enable_other}
use Rattle.local_rules.specs.Permitted.{permits_number}
use Rattle.local_reads.specs.Waking.{may_enable_reached}
use Rattle.local_reads.proofs.Waking.{may_wake_other}
use Rattle.vector_table.proofs.AllLaws.{item_vector}
use Rattle.local_reads.proofs.wakes.may_enable_other.Goals as goal
use Rattle.local_reads.proofs.wakes.may_enable_other.Goals.{else-may_enable_reached-via-then-may_enable_reached+else-not-is_barred, else-may_enable_reached-via-else-may_enable_reached}

abbrev nowhere : EnablePlace
nowhere = record { vector = 0; address = 0; mask = 0; enable = Bit }

pub is_barred-requires : goal.is_barred-requires
is_barred-requires c =
    record { vector = item_vector c.args.byte.now.device c.enable_places-place-items.result.now c.loop-place.place-index _ c.enable_places-place-items.ensures c.loop-place-test.true }

pub returns-then-not-is_barred : goal.returns-then-not-is_barred
unfolding may_enable_other
returns-then-not-is_barred c =
    let byte = c.args.byte.now in
    let ps = c.enable_places-place-items.result.now in
    let reaches : ℕ → Bool = (λ a. permits_number byte.state.now byte.r (minus16 a byte.up)) in
    let q : EnablePlace → Bool = may_wake_other byte.device byte.assumptions.now reaches byte.bits in
    sym (ap (list_any q) (sym c.enable_places-place-items.ensures)
    ∙ list_any_at q ps c.loop-place.place-index _ c.loop-place-test.true
    (and_from _ _ (sym c.may_enable_reached.ensures ∙ c.if-may_enable_reached.true) (ap not (sym c.is_barred.ensures ∙ c.if-not-is_barred.true))))

pub loop-place-preserved : goal.loop-place-preserved
loop-place-preserved c =
    let byte = c.args.byte.now in
    let ps = c.enable_places-place-items.result.now in
    let p : EnablePlace = get_or ps c.loop-place.place-index nowhere in
    let reaches : ℕ → Bool = (λ a. permits_number byte.state.now byte.r (minus16 a byte.up)) in
    let q : EnablePlace → Bool = may_wake_other byte.device byte.assumptions.now reaches byte.bits in
    list_any_more q ps c.loop-place.place-index nowhere c.loop-place-test.true
    ∙ or_from (list_any q (take c.loop-place.place-index ps)) (q p) c.loop-place.invariant
    (elim c.else-may_enable_reached.branch [
      | else-may_enable_reached-via-then-may_enable_reached+else-not-is_barred w ↦
          ap (λ (b : Bool). may_enable_reached reaches byte.bits p && b) (ap not (sym w.is_barred.ensures ∙ w.if-not-is_barred.false))
          ∙ and_with_false (may_enable_reached reaches byte.bits p)
      | else-may_enable_reached-via-else-may_enable_reached w ↦
          ap (λ (b : Bool). b && not (is_barred byte.device byte.assumptions.now p.vector)) (sym c.may_enable_reached.ensures ∙ w.if-may_enable_reached.false)
    ])

pub returns : goal.returns
unfolding may_enable_other
returns c =
    let byte = c.args.byte.now in
    let ps = c.enable_places-place-items.result.now in
    let reaches : ℕ → Bool = (λ a. permits_number byte.state.now byte.r (minus16 a byte.up)) in
    let q : EnablePlace → Bool = may_wake_other byte.device byte.assumptions.now reaches byte.bits in
    let last : length ps ≤ c.loop-place.place-index = omega (arith, c.loop-place-test.false) in
    sym (ap (list_any q) (sym c.enable_places-place-items.ensures ∙ sym (take_all c.loop-place.place-index ps last)) ∙ c.loop-place.invariant)
