use Rattle.std.proofs.Common.{subst, List, arith}
use Rattle.avr_model.specs.Devices.{back_of}
use Rattle.instance_graph.specs.declared.graph.GraphInst.{GraphInst}
use Rattle.instance_graph.specs.Least.{IsLeast}
use Rattle.round_nesting.specs.Drawn.{GraphTells}
use Rattle.round_nesting.proofs.Telling.{nests}
use Rattle.round_nesting.proofs.judging.judge_graph.Goals as goal

pub returns-in-Err-Cycle : goal.returns-in-Err-Cycle
returns-in-Err-Cycle c = subst (λ (gs : List GraphInst). GraphTells c.args.device gs c.named.result) c.as_slice.ensures (c.named.ensures c.args.device)

pub returns : goal.returns
returns c =
    let found = c.in-Ok.ensures in
    let least : IsLeast (back_of c.args.device) c.args.graph.now.instances c.in-Ok.composed.ranks c.in-Ok.composed.needs =
    subst (λ back. IsLeast back c.args.graph.now.instances c.in-Ok.composed.ranks c.in-Ok.composed.needs) c.back.ensures.exact found.ok in
    nests c.graphs_tell.ensures c.args.graph.now.instances c.args.device c.in-Ok.composed.ranks c.in-Ok.composed.needs least found.acyclic
    (omega (arith, c.need-need.ensures))
