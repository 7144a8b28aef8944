use Rattle.std.proofs.lemmas.Result.{on_ok_weaker}
use Rattle.text_base.specs.Lines.{line}
use Rattle.witness_replay.proofs.Parts.{more_text}
use Rattle.assumption_files.proofs.AllLaws.{none_begun}
use Rattle.reports.specs.Explained.{link_line, path_text}
use Rattle.reports.proofs.explained.write_part.Goals as goal

pub write_path-requires : goal.write_path-requires
write_path-requires c =
    none_begun c.args.out.now c.write_link.new.out (line (link_line c.args.device c.args.names.now c.args.part.now))
    (c.appending_laws.ensures.line c.args.out.now c.write_link.new.out (link_line c.args.device c.args.names.now c.args.part.now) c.requires c.in_ok-write_link.ensures)

pub returns : goal.returns
returns c =
    on_ok_weaker c.write_path.result
    (λ e. more_text c.args.out.now c.write_link.new.out c.write_path.new.out (line (link_line c.args.device c.args.names.now c.args.part.now)) (path_text c.args.device c.args.part.now.point)
    (c.appending_laws.ensures.line c.args.out.now c.write_link.new.out (link_line c.args.device c.args.names.now c.args.part.now) c.requires c.in_ok-write_link.ensures) e)
    c.write_path.ensures
