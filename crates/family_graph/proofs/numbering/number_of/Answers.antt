use Rattle.std.proofs.Common.{◌∙◌}
use Rattle.std.proofs.lemmas.List.{get_or_read}
use Rattle.family_graph.proofs.Insts.{number_at}
use Rattle.family_graph.proofs.numbering.number_of.Goals as goal

pub returns : goal.returns
returns c =
    let h =
    number_at c.args.nodes.now c.args.numbering.now.insts.items c.args.numbering.now.numbers.items c.args.inst.now c.span-low.result.0 c.span-low.result.1
    c.requires.numbers c.span-low.ensures c.requires.has in
    get_or_read c.args.numbering.now.numbers.items _ _ h.0 c.index.ensures 0 ∙ h.1
