use Rattle.std.proofs.Common.{◌≡◌, ◌∙◌, sym, ap, ◌≤◌, ◌==◌, arith, eq-eqb, ne_eqb, get_or, take, length, Bool, false, ◌&&◌}
use Rattle.std.specs.List.{list_any}
use Rattle.std.proofs.lemmas.List.{take_all}
use Rattle.std.proofs.lemmas.List.Folds.{list_any_at, list_any_more}
use Rattle.std.proofs.lemmas.Bool.{or_from}
use Rattle.basics.specs.Booleans.{all_three}
use Rattle.avr_model.specs.declared.rows.EnablePlace.{EnablePlace}
use Rattle.avr_model.specs.declared.rows.Enable.TheVariants.{Bit}
use Rattle.avr_model.specs.Masks.{is_barred}
use Rattle.node_keys.specs.Wakes.{may_enable, may_enable_barred}
use Rattle.vector_table.proofs.AllLaws.{item_vector}
use Rattle.node_keys.proofs.waking.may_enable_barred.Goals as goal
use Rattle.node_keys.proofs.waking.may_enable_barred.Goals.{else-place-address-via-then-place-address+then-may_enable+else-is_barred, else-place-address-via-then-place-address+else-may_enable, else-place-address-via-else-place-address}

abbrev nowhere : EnablePlace
nowhere = record { vector = 0; address = 0; mask = 0; enable = Bit }

none_by : (a b d : Bool) → a ≡ false → (a && b && d) ≡ false
none_by a b d h = grind arith

none_by_bit : (a b d : Bool) → b ≡ false → (a && b && d) ≡ false
none_by_bit a b d h = grind arith

none_by_word : (a b d : Bool) → d ≡ false → (a && b && d) ≡ false
none_by_word a b d h = grind arith

pub is_barred-requires : goal.is_barred-requires
is_barred-requires c = record { vector = item_vector c.args.device c.enable_places-place-items.result.now c.loop-place.place-index _ c.enable_places-place-items.ensures c.loop-place-test.true }

pub returns-then-is_barred : goal.returns-then-is_barred
unfolding may_enable_barred
returns-then-is_barred c =
    let ps = c.enable_places-place-items.result.now in
    let q : EnablePlace → Bool = λ (p : EnablePlace). (p.address == c.args.address) && may_enable c.args.value.now p && is_barred c.args.device c.args.assumptions.now p.vector in
    sym (ap (list_any q) (sym c.enable_places-place-items.ensures)
    ∙ list_any_at q ps c.loop-place.place-index _ c.loop-place-test.true
    (all_three _ _ _ (eq-eqb _ c.args.address c.if-place-address.true) (sym c.may_enable.ensures ∙ c.if-may_enable.true) (sym c.is_barred.ensures ∙ c.if-is_barred.true)))

pub loop-place-preserved : goal.loop-place-preserved
loop-place-preserved c =
    let ps = c.enable_places-place-items.result.now in
    let p : EnablePlace = get_or ps c.loop-place.place-index nowhere in
    let here : Bool = p.address == c.args.address in
    let common : Bool = may_enable c.args.value.now p in
    let barred : Bool = is_barred c.args.device c.args.assumptions.now p.vector in
    let q : EnablePlace → Bool = λ (p : EnablePlace). (p.address == c.args.address) && may_enable c.args.value.now p && is_barred c.args.device c.args.assumptions.now p.vector in
    list_any_more q ps c.loop-place.place-index nowhere c.loop-place-test.true
    ∙ or_from (list_any q (take c.loop-place.place-index ps)) (q p) c.loop-place.invariant
    (elim c.else-place-address.branch [
      | else-place-address-via-then-place-address+then-may_enable+else-is_barred w ↦ none_by_word here common barred (sym w.is_barred.ensures ∙ w.if-is_barred.false)
      | else-place-address-via-then-place-address+else-may_enable w ↦ none_by_bit here common barred (sym w.may_enable.ensures ∙ w.if-may_enable.false)
      | else-place-address-via-else-place-address w ↦ none_by here common barred (ne_eqb p.address c.args.address w.if-place-address.false)
    ])

pub returns : goal.returns
unfolding may_enable_barred
returns c =
    let ps = c.enable_places-place-items.result.now in
    let q : EnablePlace → Bool = λ (p : EnablePlace). (p.address == c.args.address) && may_enable c.args.value.now p && is_barred c.args.device c.args.assumptions.now p.vector in
    let last : length ps ≤ c.loop-place.place-index = omega (arith, c.loop-place-test.false) in
    sym (ap (list_any q) (sym c.enable_places-place-items.ensures ∙ sym (take_all c.loop-place.place-index ps last)) ∙ c.loop-place.invariant)
