use Rattle.std.proofs.Common.{◌≡◌, ◌==◌, ◌&&◌, false, take}
use Rattle.std.specs.List.{list_any}
use Rattle.avr_model.specs.declared.rows.EnablePlace.{EnablePlace}
use Rattle.avr_model.specs.Masks.{is_barred}
use Rattle.node_keys.specs.Wakes.{may_enable}
use Rattle.node_keys.proofs.waking.may_enable_barred.Given as goal

-- the byte enables no barred vector at the places so far
abbrev pub invariant-loop-place : goal.invariant-loop-place
invariant-loop-place l =
    list_any (λ (p : EnablePlace). (p.address == l.address) && may_enable l.value p && is_barred l.device l.assumptions p.vector) (take l.place-index l.place-items) ≡ false
