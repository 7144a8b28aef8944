use Rattle.std.proofs.Common.{refl, ap, ◌∙◌}
use Rattle.avr_model.specs.Sites.{instruction_at}
use Rattle.flash_image.proofs.Said.{said}
use Rattle.flash_image.proofs.image.Flash.instruction.Goals as goal

pub returns-in-Some : goal.returns-in-Some
returns-in-Some c =
    said _ _ _ _ _ _ c.self.invariant.1 c.deref.ensures.value refl c.in-Some.ensures.lookup.0 c.in-Some.ensures.lookup.1
    ∙ ap (λ w. instruction_at w c.args.a) c.self.view_is
