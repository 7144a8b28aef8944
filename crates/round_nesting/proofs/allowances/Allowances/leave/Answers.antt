use Rattle.std.proofs.Common.{sym, ◌∙◌}
use Rattle.round_nesting.proofs.Covering.{one_kept}
use Rattle.round_nesting.proofs.allowances.Allowances.leave.Goals as goal

pub returns-in_ok-insert-in-Some-None-clause-kept : goal.returns-in_ok-insert-in-Some-None-clause-kept
returns-in_ok-insert-in-Some-None-clause-kept c =
    one_kept c.args.self.now.map.entries c.insert.new.self.entries c.into.result.now c.left-left.result (sym c.in-Some-None.is-1 ∙ c.of-2.ensures)
    c.in_ok-insert-in-Some-None.ensures.updates.0
