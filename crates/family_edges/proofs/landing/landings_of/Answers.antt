use Rattle.std.proofs.Common.{sym, ◌∙◌, arith}
use Rattle.family_edges.proofs.Landed.{inside_at}
use Rattle.family_edges.proofs.landing.landings_of.Goals as goal

pub overflow_cast-at : goal.overflow_cast-at
overflow_cast-at c =
    let lt = inside_at c.edge-item.result.to c.args.nodes.now c.in-Some.at (sym c.find_from.ensures ∙ c.in-Some.is) in
    omega (arith, lt, c.requires)
