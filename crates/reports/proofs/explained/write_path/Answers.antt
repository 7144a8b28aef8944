use Rattle.std.proofs.Common.{ℕ, List, ap, sym, ◌∙◌}
use Rattle.std.proofs.lemmas.Result.{on_ok_weaker}
use Rattle.text_base.specs.Lines.{line}
use Rattle.line_reading.specs.Appending.{with_text}
use Rattle.assumption_files.proofs.AllLaws.{no_lines}
use Rattle.chain_explain.specs.declared.explanation.PartPoint.{PartPoint}
use Rattle.reports.specs.Explained.{path_line, path_text}
use Rattle.reports.proofs.explained.write_path.Goals as goal

pub returns-in-Node : goal.returns-in-Node
returns-in-Node c =
    on_ok_weaker c.write_walk.result
    (λ e. e ∙ ap (λ (ws : List ℕ). with_text c.args.out.now (line (path_line c.args.device ws))) c.as_slice.ensures
    ∙ ap (λ (p : PartPoint). with_text c.args.out.now (path_text c.args.device p)) (sym c.in-Node.is))
    c.write_walk.ensures

pub returns-in-Recur : goal.returns-in-Recur
returns-in-Recur c =
    no_lines c.args.out.now c.requires ∙ ap (λ (p : PartPoint). with_text c.args.out.now (path_text c.args.device p)) (sym c.in-Recur.is)
