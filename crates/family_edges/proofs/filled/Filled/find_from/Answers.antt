use Rattle.std.proofs.Common.{length, refl, ap, ◌∙◌, arith, ◌<◌}
use Rattle.std.proofs.lemmas.Option.{slice_get_read}
use Rattle.edge_rules.specs.Views.{index_of}
use Rattle.family_edges.proofs.Places.{place_is}
use Rattle.family_edges.proofs.filled.Filled.find_from.Goals as goal

pub returns-then-eq : goal.returns-then-eq
returns-then-eq c =
    let nodes = c.self.inside.items.items in
    let k = c.args.key.now in
    let at = c.loop-at.at in
    let inside : at < length nodes = omega (arith, c.loop-at-test.true, c.min-end.ensures, c.len.ensures) in
    let there = slice_get_read nodes (length nodes) at c.index.result.now refl inside c.index.ensures in
    place_is nodes k at c.index.result.now c.self.invariant there (c.eq.ensures.same.0 c.if-eq.true) ∙ ap (index_of k) c.self.view_is
