use Rattle.std.proofs.Common.{ap, ◌∙◌, ℕ, List, Option, codes}
use Rattle.std.proofs.lemmas.Result.{on_ok_weaker}
use Rattle.text_base.specs.Writing.{Written, with_word}
use Rattle.flash_image.specs.Naming.{least_name}
use Rattle.reports.specs.Report.{name_word}
use Rattle.replies.proofs.Sites.{named_written}
use Rattle.replies.proofs.places.put_named.Goals as goal

pub returns : goal.returns
returns c =
    on_ok_weaker c.write_name.result
    (λ e. named_written c.args.firmware.now.flash.now c.args.firmware.now.names.now c.args.place.pc c.args.out.now c.put_place.new.line c.write_name.new.out c.in_ok-put_place.ensures
    (e ∙ ap (λ (x : Written). with_word x (name_word (least_name c.args.firmware.now.names.now c.args.place.named))) c.in_ok-word.ensures.written
    ∙ ap (λ (o : Option (List ℕ)). with_word (with_word c.put_place.new.line (codes "in")) (name_word o)) c.requires))
    c.write_name.ensures
