use Rattle.std.proofs.Common.{arith, ◌∙◌, sym, refl, length}
use Rattle.std.proofs.lemmas.Option.{slice_get_read}
use Rattle.instance_graph.specs.Table.{at}
use Rattle.instance_graph.proofs.Table.{settled_visit, no_visit, stays_stuck, small_table, none_here, into_within}
use Rattle.instance_graph.proofs.peel.visit.Goals as goal

pub settle-requires-clause-small : goal.settle-requires-clause-small
settle-requires-clause-small c = small_table c.args.back c.args.graph.now c.args.table.now c.requires.graph c.requires.sound

pub settle-requires-clause-within : goal.settle-requires-clause-within
settle-requires-clause-within c = into_within c.args.back c.args.graph.now c.args.table.now c.requires.graph c.requires.sound c.args.i c.index-graph-i.result (slice_get_read c.args.graph.now (length c.args.graph.now) c.args.i c.index-graph-i.result refl c.requires.within c.index-graph-i.is)

pub returns-in-None : goal.returns-in-None
returns-in-None c =
    let at_i = slice_get_read c.args.graph.now (length c.args.graph.now) c.args.i c.index-graph-i.result refl c.requires.within c.index-graph-i.is in
    let missing = none_here (at c.args.table.now c.args.i) (sym c.is_some.ensures ∙ c.if-is_some.false) in
    let e = c.in-None.ensures.none in
    no_visit c.args.back c.args.graph.now c.args.table.now c.args.i c.requires.sound (λ _. stays_stuck c.args.back (omega arith) c.args.graph.now c.args.table.now c.requires.graph c.requires.sound c.args.i c.index-graph-i.result c.requires.within at_i missing e.0 e.1 e.2)

pub returns-in-Some : goal.returns-in-Some
returns-in-Some c =
    let at_i = slice_get_read c.args.graph.now (length c.args.graph.now) c.args.i c.index-graph-i.result refl c.requires.within c.index-graph-i.is in
    let missing = none_here (at c.args.table.now c.args.i) (sym c.is_some.ensures ∙ c.if-is_some.false) in
    settled_visit c.args.back (omega arith) c.args.graph.now c.args.table.now c.requires.graph c.requires.sound c.args.i c.index-graph-i.result c.requires.within at_i missing c.in-Some.found c.in-Some.ensures.some
