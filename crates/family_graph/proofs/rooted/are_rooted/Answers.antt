use Rattle.std.proofs.Common.{◌<◌, arith}
use Rattle.std.proofs.lemmas.Option.{slice_get_within}
use Rattle.basics.specs.Items.{contained_at, place_of_contained}
use Rattle.family_edges.specs.Tasks.{task_of}
use Rattle.family_graph.proofs.rooted.are_rooted.Goals as goal

pub returns-then-not-is_rooted-clause-no : goal.returns-then-not-is_rooted-clause-no
returns-then-not-is_rooted-clause-no c = λ is rooted. c.is_rooted.ensures.no c.if-not-is_rooted.true (λ n depth here cut. rooted n depth (contained_at c.args.nodes.now c.loop-at.at n here) cut)

pub returns-clause-yes : goal.returns-clause-yes
returns-clause-yes c = λ is n depth member cut.
    let w = place_of_contained c.args.nodes.now n member in
    let within = slice_get_within c.args.nodes.now w.0 n w.1 in
    c.loop-at.invariant w.0 (omega (arith, within, c.loop-at-test.false, c.count-at-end.ensures.count)) n depth w.1 cut
