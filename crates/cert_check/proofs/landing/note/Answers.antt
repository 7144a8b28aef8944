use Rattle.std.proofs.Common.{sym, ◌∙◌, arith}
use Rattle.family_edges.proofs.Landed.{inside_at}
use Rattle.cert_check.proofs.landing.note.Goals as goal

pub overflow_cast-at : goal.overflow_cast-at
overflow_cast-at c =
    let lt = inside_at c.args.edge.now.to c.args.site.now.nodes.now c.in-Some.at (sym c.find_from-index.ensures ∙ c.in-Some.is) in
    omega (arith, lt, c.requires.few)
