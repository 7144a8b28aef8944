use Rattle.std.proofs.Common.{◌≡◌, ◌∙◌, sym, ap, Some, option_copied, option_map}
use Rattle.avr_model.specs.declared.rows.EnablePlace.{EnablePlace}
use Rattle.avr_model.specs.Vectors.{held_of}
use Rattle.vector_table.proofs.Places.{held_vector}
use Rattle.vector_table.proofs.table.held_of.Goals as goal

pub returns-in-Some-clause-exact : goal.returns-in-Some-clause-exact
unfolding held_of
returns-in-Some-clause-exact c = ap (option_map (λ (p : EnablePlace). p.vector)) (sym (ap option_copied c.in-Some.is) ∙ c.first_held.ensures)

pub returns-in-Some-clause-vector : goal.returns-in-Some-clause-vector
unfolding held_of
returns-in-Some-clause-vector c =
    let is : held_of c.args.device c.args.address c.args.bit ≡ Some c.in-Some.place.now.vector =
    sym (ap (option_map (λ (p : EnablePlace). p.vector)) (sym (ap option_copied c.in-Some.is) ∙ c.first_held.ensures)) in
    held_vector c.args.device c.args.address c.args.bit c.in-Some.place.now.vector is

pub returns-in-None-clause-exact : goal.returns-in-None-clause-exact
unfolding held_of
returns-in-None-clause-exact c = ap (option_map (λ (p : EnablePlace). p.vector)) (sym (ap option_copied c.in-None.is) ∙ c.first_held.ensures)
