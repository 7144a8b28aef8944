use Rattle.std.proofs.Common.{◌≡◌, ◌≤◌, Some, get_or, slice_get, slice_index, subst, refl, length, arith}
use Rattle.std.proofs.lemmas.Option.{slice_get_read}
use Rattle.instance_graph.proofs.Naming.{layers_more, layers_upto}
use Rattle.instance_graph.proofs.cycle.layers.Goals as goal

pub loop-i-preserved : goal.loop-i-preserved
loop-i-preserved c =
    let gs = c.args.graph.now in
    let is = slice_get_read gs (length gs) c.loop-i.i c.index-graph-i.result refl c.loop-i-test.true c.index-graph-i.is in
    layers_more gs c.args.numbers.items c.loop-i.i (slice_index c.args.numbers.items c.loop-i.i) (get_or gs c.loop-i.i c.index-graph-i.result) c.as_slice.result.now (subst (λ x. slice_get gs c.loop-i.i ≡ Some x) c.index-graph-i.is is) c.as_slice.ensures refl
    (λ e h.
    let low : slice_index c.args.numbers.items e.into ≤ c.highest.result = subst (λ ns. slice_index ns e.into ≤ c.highest.result) c.deref.ensures.value (c.highest.ensures e h) in
    let at : c.read.result ≡ slice_index c.args.numbers.items c.loop-i.i = subst (λ ns. c.read.result ≡ slice_index ns c.loop-i.i) c.deref-in-loop-i.ensures.value c.read.ensures in
    omega (arith, low, at, c.if-highest-read.false))
    c.loop-i.invariant

pub returns : goal.returns
returns c = layers_upto c.args.graph.now c.args.numbers.items c.loop-i.i c.loop-i-test.false c.loop-i.invariant
