use Rattle.std.proofs.Common.{◌∙◌, sym, ap, option_copied}
use Rattle.avr_model.specs.Vectors.{enable_place_at}
use Rattle.vector_table.proofs.table.enable_place_at.Goals as goal

pub returns-in-Some : goal.returns-in-Some
unfolding enable_place_at
returns-in-Some c = sym (ap option_copied c.in-Some.is) ∙ c.first_at.ensures

pub returns-in-None : goal.returns-in-None
unfolding enable_place_at
returns-in-None c = sym (ap option_copied c.in-None.is) ∙ c.first_at.ensures
