use Rattle.std.proofs.Common.{◌∙◌}
use Rattle.avr_model.specs.Vectors.{are_among}
use Rattle.vector_table.proofs.Among.{among_coded}
use Rattle.vector_table.proofs.enable_bits.Masks.is_among.Goals as goal

pub returns : goal.returns
returns c =
    among_coded c.self.inside.bits c.other.inside.bits c.self.invariant c.other.invariant
    ∙ (λ i. are_among (c.self.view_is i) (c.other.view_is i))
