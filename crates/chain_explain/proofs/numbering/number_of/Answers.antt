use Rattle.std.proofs.Common.{sym, ◌∙◌}
use Rattle.chain_explain.proofs.Numbers.{none_has}
use Rattle.chain_explain.proofs.numbering.number_of.Goals as goal

pub unreachable-requires : goal.unreachable-requires
unreachable-requires c = none_has c.args.key.now c.args.nodes.now (sym c.find.ensures ∙ c.in-None.is) c.requires
