use Rattle.std.proofs.Common.{ap, ◌∙◌, map}
use Rattle.std.proofs.lemmas.Result.{on_ok_weaker}
use Rattle.text_base.specs.Writing.{Written, with_words, with_end}
use Rattle.assumption_files.specs.Spelling.{word_address_text}
use Rattle.reports.specs.Explained.{path_line}
use Rattle.reports.proofs.explained.write_walk.Goals as goal

pub returns : goal.returns
returns c =
    let path = c.in_ok-write_words.ensures ∙ ap (λ (x : Written). with_words x (map (word_address_text c.args.device) c.args.walk.now)) c.in_ok-word.ensures.written in
    on_ok_weaker c.end_line.result
    (λ e. c.appending_laws.ensures.line c.args.out.now c.end_line.new.self (path_line c.args.device c.args.walk.now) c.requires (e ∙ ap with_end path))
    c.end_line.ensures.written
