use Rattle.std.proofs.Common.{◌≡◌, ◌<◌, ◌∙◌, arith, Some, get_or, slice_get, subst, sym, refl, length}
use Rattle.std.proofs.lemmas.Bool.Decides.{nat_tests}
use Rattle.std.proofs.lemmas.Option.{slice_get_read}
use Rattle.instance_graph.specs.Table.{at}
use Rattle.instance_graph.proofs.Naming.{settled_apart, settled_there, no_candidate}
use Rattle.instance_graph.proofs.cycle.is_candidate.Goals as goal

pub returns-then-is_some : goal.returns-then-is_some
returns-then-is_some c = λ _.
    let found = settled_there (at c.args.table.now c.args.i) (sym c.is_some.ensures ∙ c.if-is_some.true) in
    settled_apart c.requires.sound.0 c.args.graph.now c.args.table.now c.requires.sound.1 c.args.i found.0 found.1

pub returns : goal.returns
returns c = λ no.
    let gs = c.args.graph.now in
    let is = slice_get_read gs (length gs) c.args.i c.index-graph-i.result refl c.requires.within c.index-graph-i.is in
    let low : c.highest.result < c.read.result = grind (arith, nat_tests) in
    no_candidate gs c.args.numbers.now c.args.i c.read.result (get_or gs c.args.i c.index-graph-i.result) c.as_slice.result.now c.requires.layers (subst (λ x. slice_get gs c.args.i ≡ Some x) c.index-graph-i.is is) c.as_slice.ensures c.read.ensures
    (λ e h same. absurd (omega (arith, c.highest.ensures e h, low, same)))
