use Rattle.std.proofs.Common.{◌≡◌, ◌<◌, ◌+◌, ◌≤◌, arith, sym, subst, length, ℕ, List}
use Rattle.basics.specs.Lists.{get_inside}
use Rattle.instance_graph.specs.declared.graph.GraphInst.{GraphInst}
use Rattle.instance_graph.specs.Graph.{IsGraph}
use Rattle.family_graph.specs.Graphs.{AreWays, IsGraphOf}
use Rattle.family_graph.specs.Numbers.{AreGraphInsts}
use Rattle.family_graph.proofs.Graphs.{made_more, graph_is, composable}
use Rattle.family_graph.proofs.building.graph_of.Goals as goal
use Rattle.family_edges.specs.Tasks.{task_of}

pub instance-requires-clause-ways : goal.instance-requires-clause-ways
instance-requires-clause-ways c = subst (AreWays (task_of c.args.task.now) c.args.nodes.now) (sym c.as_slice.ensures) c.requires.ways

pub loop-i-preserved : goal.loop-i-preserved
loop-i-preserved c =
    let insts = c.in_ok-numbering.numbering.insts.items in
    let inside : c.loop-i.i < length insts = omega (arith, c.loop-i-test.true, c.len-i-end.ensures) in
    let k = get_inside insts c.loop-i.i inside in
    subst (AreGraphInsts (task_of c.args.task.now) c.args.nodes.now insts (c.loop-i.i + 1)) (sym c.in_ok-push.ensures.items)
    (made_more (task_of c.args.task.now) c.args.nodes.now insts c.loop-i.i c.loop-i.instances.items k.0 c.in_ok-inst.inst c.loop-i.invariant k.1
    (c.in_ok-inst.ensures k.0 k.1))

pub returns-clause-family : goal.returns-clause-family
returns-clause-family c =
    let insts = c.in_ok-numbering.numbering.insts.items in
    let end : c.loop-i.i ≡ length insts = omega (arith, c.loop-i-test.false, c.loop-i.auto.i-end, c.len-i-end.ensures) in
    subst (λ (gs : List GraphInst). IsGraphOf (task_of c.args.task.now) c.args.nodes.now gs) (sym c.new.ensures)
    (graph_is (task_of c.args.task.now) c.args.nodes.now insts c.in_ok-numbering.numbering.numbers.items c.in_ok-numbering.ensures c.loop-i.instances.items
    (subst (λ (i : ℕ). AreGraphInsts (task_of c.args.task.now) c.args.nodes.now insts i c.loop-i.instances.items) end c.loop-i.invariant))

pub returns-clause-graph : goal.returns-clause-graph
returns-clause-graph c =
    let insts = c.in_ok-numbering.numbering.insts.items in
    let end : c.loop-i.i ≡ length insts = omega (arith, c.loop-i-test.false, c.loop-i.auto.i-end, c.len-i-end.ensures) in
    let few : length c.loop-i.instances.items ≤ 65537 = omega (arith, c.loop-i.invariant.count_is, end, c.in_ok-numbering.ensures.few, c.requires.few) in
    subst (λ (gs : List GraphInst). IsGraph gs) (sym c.new.ensures)
    (composable (task_of c.args.task.now) c.args.nodes.now c.count-count.ensures.shown c.entries-entries.ensures.kept c.loop-i.instances.items
    (graph_is (task_of c.args.task.now) c.args.nodes.now insts c.in_ok-numbering.numbering.numbers.items c.in_ok-numbering.ensures c.loop-i.instances.items
    (subst (λ (i : ℕ). AreGraphInsts (task_of c.args.task.now) c.args.nodes.now insts i c.loop-i.instances.items) end c.loop-i.invariant))
    c.requires.some few)
