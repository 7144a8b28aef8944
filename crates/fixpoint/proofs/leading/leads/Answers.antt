use Rattle.std.proofs.Common.{◌∙◌, ap, arith, length, get_or, List}
use Rattle.basics.specs.Lists.{get_inside}
use Rattle.family_edges.specs.declared.landing.Landing.{Landing}
use Rattle.family_graph.proofs.Ways.{ways_of_at, landing_inside}
use Rattle.fixpoint.proofs.Led.{led_written}
use Rattle.fixpoint.proofs.leading.leads.Goals as goal
use Rattle.family_edges.specs.Tasks.{task_of}

pub note_all-requires : goal.note_all-requires
note_all-requires c =
    let task = task_of c.args.task.now in
    let nodes = c.args.family.now.nodes in
    let n = get_inside nodes c.loop-at.at (omega (arith, c.loop-at-test.true, c.count-at-end.ensures.count)) in
    let are =
    ways_of_at task nodes c.args.family.now.landings c.requires.landings c.loop-at.at n.0 n.1 c.index-landings-at.result c.as_slice.result.now
    (c.index-landings-at.is ∙ ap (λ (xs : List (List Landing)). get_or xs c.loop-at.at c.index-landings-at.result) c.as_slice-landings.ensures) c.as_slice.ensures in
    λ l has.
    let lt = landing_inside task nodes n.0 c.as_slice.result.now are l has in
    omega (arith, lt, ap length c.as_mut_slice.ensures.value, c.loop-at.invariant.all)

pub loop-at-preserved : goal.loop-at-preserved
loop-at-preserved c =
    let task = task_of c.args.task.now in
    let nodes = c.args.family.now.nodes in
    let n = get_inside nodes c.loop-at.at (omega (arith, c.loop-at-test.true, c.count-at-end.ensures.count)) in
    let are =
    ways_of_at task nodes c.args.family.now.landings c.requires.landings c.loop-at.at n.0 n.1 c.index-landings-at.result c.as_slice.result.now
    (c.index-landings-at.is ∙ ap (λ (xs : List (List Landing)). get_or xs c.loop-at.at c.index-landings-at.result) c.as_slice-landings.ensures) c.as_slice.ensures in
    led_written task nodes c.count-at-end.ensures.shown.1 c.loop-at.at n.0 n.1 c.as_slice.result.now are c.loop-at.leads.items c.note_all.new.leads c.as_mut_slice.result.now
    c.loop-at.leads.len c.loop-at.invariant c.as_mut_slice.ensures.value c.note_all.ensures c.loop-at.leads.ok.0
