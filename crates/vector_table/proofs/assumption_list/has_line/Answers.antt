use Rattle.std.proofs.Common.{◌∙◌, sym, ap, option_copied}
use Rattle.vector_table.proofs.Order.{is_line_in, line_at_first}
use Rattle.vector_table.proofs.assumption_list.has_line.Goals as goal

pub returns-in-Some : goal.returns-in-Some
returns-in-Some c =
    c.is_line.ensures
    ∙ ap (is_line_in c.args.kind c.args.site) (sym (ap option_copied c.in-Some.is) ∙ c.first_from.ensures)
    ∙ sym (line_at_first c.args.entries.now c.args.site c.args.kind c.requires.kind c.requires.in_order)

pub returns-in-None : goal.returns-in-None
returns-in-None c =
    ap (is_line_in c.args.kind c.args.site) (sym (ap option_copied c.in-None.is) ∙ c.first_from.ensures)
    ∙ sym (line_at_first c.args.entries.now c.args.site c.args.kind c.requires.kind c.requires.in_order)
