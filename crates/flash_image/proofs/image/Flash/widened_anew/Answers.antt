use Rattle.avr_model.specs.Marks.{marks}
use Rattle.flash_image.proofs.Marked.{table_of}
use Rattle.flash_image.proofs.image.Flash.widened_anew.Goals as goal

pub returns : goal.returns
returns c = c.widened.ensures (marks c.args.self.now) (table_of (marks c.args.self.now) c.mark_all.new.table c.mark_all.ensures)
