use Rattle.std.proofs.Common.{◌≡◌, ◌==◌, ◌&&◌, false, take}
use Rattle.std.specs.List.{list_any}
use Rattle.avr_model.specs.declared.rows.EnablePlace.{EnablePlace}
use Rattle.avr_model.specs.Masks.{is_barred}
use Rattle.avr_model.specs.Vectors.{has_common}
use Rattle.vector_table.proofs.barred.enables_barred.Given as goal

-- the byte enables no barred vector at the places so far
abbrev pub invariant-loop-place : goal.invariant-loop-place
invariant-loop-place l =
    list_any (λ (p : EnablePlace). (p.address == l.address) && has_common l.byte p.mask && is_barred l.device l.assumptions p.vector) (take l.place-index l.place-items) ≡ false
