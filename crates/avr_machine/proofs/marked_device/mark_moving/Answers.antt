use Rattle.std.proofs.Common.{◌∙◌, ap, sym, ◌||◌, Bool, length, true, false, rules}
use Rattle.std.specs.Prelude.{slice_index_or, None}
use Rattle.vector_table.specs.Moving.{is_at}
use Rattle.avr_machine.proofs.MovingPlaces.{place_small, two_places}
use Rattle.avr_machine.proofs.marked_device.mark_moving.Goals as goal

pub mark_place-requires : goal.mark_place-requires
mark_place-requires c = place_small c.args.device 0 c.moving-places.result c.moving-places.ensures

pub mark_place-requires-2 : goal.mark_place-requires-2
mark_place-requires-2 c = place_small c.args.device 1 c.moving-places.result c.moving-places.ensures

pub returns : goal.returns
returns c =
    λ a. c.mark_place-2.ensures a
    ∙ ap (λ (b : Bool). b || is_at (slice_index_or c.moving-places.result 1 None) a) (c.mark_place.ensures a)
    ∙ two_places c.args.device c.moving-places.result a c.moving-places.ensures (search rules) (slice_index_or c.args.marks.now a false)
