use Rattle.std.proofs.Common.{false, replicate, ap, sym, ◌∙◌}
use Rattle.avr_model.specs.Marks.{marks}
use Rattle.avr_model.specs.Devices.{Image, image_of}
use Rattle.flash_image.specs.Marked.{marked}
use Rattle.flash_image.proofs.Marked.{table_of}
use Rattle.flash_image.proofs.image.Flash.keep_marks.Goals as goal

pub invariant_of-self : goal.invariant_of-self
invariant_of-self c = (
  c.self.invariant.0,
  c.self.invariant.1,
  λ some. record {
    table = c.mark_all.new.table;
    tells =
        table_of (marks (image_of c.self.inside.device c.self.inside.words.items)) c.mark_all.new.table
        (c.mark_all.ensures ∙ ap (λ (image : Image). marked (replicate 65536 false) (marks image)) (sym c.self.view_is));
    listed = c.in_ok-self-inside.ensures;
  },
)
