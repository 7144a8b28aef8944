use Rattle.std.proofs.Common.{◌∙◌, ◌++◌, ◌≡◌, ap, Ok}
use Rattle.text_base.specs.Writing.{Written}
use Rattle.assumption_files.specs.Spelling.{text_of}
use Rattle.assumption_files.specs.Exact.{IsListReading}
use Rattle.uses.proofs.lists.read_back.Goals as goal

pub returns-in-Ok : goal.returns-in-Ok
returns-in-Ok c =
    let list = c.args.list.now in
    let text : c.deref.result.now ≡ text_of c.args.device list =
    c.deref.ensures.value ∙ c.finish-text.ensures ∙ ap (λ (w : Written). w.bytes) c.in_ok-write.ensures.written ∙ ap (λ (w : Written). w.bytes ++ text_of c.args.device list) c.new-out.ensures in
    let due : IsListReading c.args.device c.deref.result.now list = record { fits = record { are = c.entries-entries.ensures.kept; fit = c.requires }; bytes = text } in
    let same = c.in-Ok.ensures.due (Ok list) due in
    cc
