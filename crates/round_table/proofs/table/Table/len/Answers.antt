use Rattle.std.proofs.Common.{sym, ap, ◌∙◌, subst}
use Rattle.std.specs.FinMap.{len}
use Rattle.std.specs.List.{IsDistinct}
use Rattle.node_keys.specs.Order.{same_node}
use Rattle.round_table.specs.Shared.{stated}
use Rattle.round_table.proofs.Entries.{table_len}
use Rattle.round_table.proofs.Shared.{keys_stated, long_stated}
use Rattle.round_table.proofs.table.Table.len.Goals as goal

pub returns : goal.returns
returns c =
    let pool = c.self.inside.pool in
    let es = c.self.inside.map.entries in
    c.len.ensures.len ∙ sym (long_stated pool es)
    ∙ sym (table_len (stated pool es) (subst (IsDistinct same_node) (sym (keys_stated pool es)) c.len.ensures.unique)) ∙ ap len c.self.view_is
