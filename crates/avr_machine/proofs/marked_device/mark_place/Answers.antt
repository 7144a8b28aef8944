use Rattle.std.proofs.Common.{◌∙◌, ap, sym, ℕ, ◌<◌, true, false, ◌||◌, Option, Some, arith, subst}
use Rattle.std.specs.Prelude.{slice_index_or, slice_set, IfSome}
use Rattle.avr_model.specs.declared.rows.MovingPlace.{MovingPlace}
use Rattle.vector_table.specs.Moving.{is_at}
use Rattle.avr_machine.proofs.MovingPlaces.{marked_there}
use Rattle.avr_machine.proofs.marked_device.mark_place.Goals as goal

pub bounds-marks-from : goal.bounds-marks-from
bounds-marks-from c =
    let small : c.in-Some.moving.address < 4101 = subst (λ (o : Option MovingPlace). IfSome o (λ p. p.address < 4101)) c.in-Some.is c.requires in
    omega (arith, small, c.from.ensures)

pub returns-in-Some : goal.returns-in-Some
returns-in-Some c =
    let small : c.in-Some.moving.address < 4101 = subst (λ (o : Option MovingPlace). IfSome o (λ p. p.address < 4101)) c.in-Some.is c.requires in
    λ a. ap (λ (n : ℕ). slice_index_or (slice_set c.args.marks.now n true) a false) c.from.ensures
    ∙ marked_there c.in-Some.moving c.args.marks.now small c.told-marks a
    ∙ ap (λ (o : Option MovingPlace). slice_index_or c.args.marks.now a false || is_at o a) (sym c.in-Some.is)
