use Rattle.std.proofs.Common.{◌≤◌, arith, get_or, slice_index}
use Rattle.basics.specs.Items.{all_up_to, all_taken}
use Rattle.instance_graph.specs.declared.graph.Entered.{Entered}
use Rattle.instance_graph.proofs.Table.{no_entry}
use Rattle.instance_graph.proofs.cycle.highest.Goals as goal

pub loop-entered-preserved : goal.loop-entered-preserved
loop-entered-preserved c =
    let e : Entered = get_or c.args.edges.now c.loop-entered.entered-index no_entry in
    let low : slice_index c.args.numbers.now e.into ≤ c.max-most.result = omega (arith, c.max-most.ensures, c.read.ensures) in
    all_up_to (λ x. slice_index c.args.numbers.now x.into ≤ c.max-most.result) c.args.edges.now c.loop-entered.entered-index no_entry c.loop-entered-test.true (λ x h. omega (arith, c.loop-entered.invariant x h, c.max-most.ensures)) low

pub returns : goal.returns
returns c = all_taken (λ x. slice_index c.args.numbers.now x.into ≤ c.loop-entered.most) c.args.edges.now c.loop-entered.entered-index c.loop-entered-test.false c.loop-entered.invariant
