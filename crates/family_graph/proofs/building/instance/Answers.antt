use Rattle.std.proofs.Common.{◌≡◌, ℕ, List, subst₂, arith, refl, length}
use Rattle.node_keys.specs.declared.keys.InstKey.{InstKey}
use Rattle.family_graph.specs.Numbers.{AreRecursOf}
use Rattle.std.proofs.lemmas.Option.{slice_get_read}
use Rattle.basics.specs.Items.{contained_at}
use Rattle.basics.specs.Lists.{get_inside, one_at}
use Rattle.family_graph.proofs.Adding.{nodes_more, entries_more, instance_made}
use Rattle.family_graph.proofs.Ways.{ways_at, ways_have}
use Rattle.family_graph.proofs.building.instance.Goals as goal
use Rattle.family_edges.specs.Tasks.{task_of}

pub bounds-ways-at : goal.bounds-ways-at
bounds-ways-at c = omega (arith, c.loop-at-test.true, c.span-low.ensures.inside, c.requires.ways.count_is)

pub add_node-requires-clause-has : goal.add_node-requires-clause-has
add_node-requires-clause-has c =
    let nodes = c.args.nodes.now in
    let n = get_inside nodes c.loop-at.at (omega (arith, c.loop-at-test.true, c.span-low.ensures.inside)) in
    ways_have (task_of c.args.task.now) nodes c.requires.peopled n.0 (contained_at nodes c.loop-at.at n.0 n.1) c.as_slice.result.now
    (ways_at (task_of c.args.task.now) nodes c.args.ways.now c.requires.ways c.loop-at.at n.0 n.1 c.index-ways-at.result c.as_slice.result.now c.index-ways-at.is c.as_slice.ensures)

pub loop-at-preserved : goal.loop-at-preserved
loop-at-preserved c =
    let nodes = c.args.nodes.now in
    let task = task_of c.args.task.now in
    let n = get_inside nodes c.loop-at.at (omega (arith, c.loop-at-test.true, c.span-low.ensures.inside)) in
    let adds = c.in_ok-add_node.ensures n.0 n.1 in
    let ways = ways_at task nodes c.args.ways.now c.requires.ways c.loop-at.at n.0 n.1 c.index-ways-at.result c.as_slice.result.now c.index-ways-at.is c.as_slice.ensures in (
      nodes_more task nodes c.args.numbering.now.insts.items c.span-low.result.0 c.loop-at.at c.loop-at.auto.at n.0 n.1 c.as_slice.result.now
          n.0.key.sp refl c.loop-at.parts.offsets.items c.add_node.new.parts.offsets.items c.loop-at.parts.entered.items c.add_node.new.parts.entered.items adds c.loop-at.invariant.0,
      entries_more task nodes c.args.numbering.now.insts.items c.span-low.result.0 c.loop-at.at c.loop-at.auto.at n.0 n.1
          c.args.numbering.now.numbers.items c.requires.numbers c.requires.peopled c.as_slice.result.now ways
          n.0.key.sp refl c.loop-at.parts.offsets.items c.add_node.new.parts.offsets.items c.loop-at.parts.entered.items c.add_node.new.parts.entered.items adds c.loop-at.invariant.1,
    )

pub returns : goal.returns
returns c =
    let insts = c.args.numbering.now.insts.items in
    let end : c.loop-at.at ≡ c.span-low.result.1 = omega (arith, c.loop-at-test.false, c.loop-at.auto.at-end c.span-low.ensures.order) in
    λ inst e.
    instance_made (task_of c.args.task.now) c.args.nodes.now insts c.index.result.now inst c.span-low.result.0 c.span-low.result.1 c.loop-at.at
    c.loop-at.parts.offsets.items c.new-3.result c.loop-at.parts.entered.items c.add_root_edges.new.entered.items c.new-4.result
    (one_at insts c.args.i c.index.result.now inst (slice_get_read insts (length insts) c.args.i c.index.result.now refl c.requires.inside c.index.ensures) e)
    c.span-low.ensures end c.new-3.ensures c.new-4.ensures c.loop-at.invariant.0 c.loop-at.invariant.1 (subst₂ (λ (ks : List InstKey) (behind : ℕ). AreRecursOf (task_of c.args.task.now).assumptions ks behind c.index.result.now c.loop-at.parts.entered.items c.add_root_edges.new.entered.items)
    c.deref.ensures.value c.count-behind.ensures.count c.in_ok-add_root_edges.ensures)
