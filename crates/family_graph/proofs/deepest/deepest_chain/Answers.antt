use Rattle.std.proofs.Common.{arith, ap, ◌∙◌, subst, ◌≤◌, slice_index}
use Rattle.avr_model.specs.Devices.{back_of}
use Rattle.instance_graph.specs.Least.{IsLeast}
use Rattle.avr_model.proofs.AllLaws.{devices_are_alike}
use Rattle.family_graph.proofs.Conditions.{peopled, some_node, ranked, have_closed_nodes, root_bound, root_first}
use Rattle.family_graph.proofs.deepest.deepest_chain.Goals as goal
use Rattle.family_edges.specs.Tasks.{task_of}

pub graph_of-requires-clause-some : goal.graph_of-requires-clause-some
graph_of-requires-clause-some c = some_node (task_of c.args.task.now) c.args.certificate.now c.args.nodes.now c.requires.meets

pub graph_of-requires-clause-peopled : goal.graph_of-requires-clause-peopled
graph_of-requires-clause-peopled c = peopled (task_of c.args.task.now) c.args.certificate.now c.args.nodes.now c.requires.meets

pub compose_acyclic-requires-clause-acyclic : goal.compose_acyclic-requires-clause-acyclic
compose_acyclic-requires-clause-acyclic c = λ at named.
    c.ranks_rule_out_cycles.ensures c.in_ok-graph.graph.instances _
    (ranked (task_of c.args.task.now) c.args.certificate.now c.args.nodes.now c.requires.meets c.in_ok-graph.graph.instances c.in_ok-graph.ensures.family) at named.reaches

pub chain-requires-clause-bound : goal.chain-requires-clause-bound
chain-requires-clause-bound c =
    let need : slice_index c.in_ok-composed.composed.needs 0 ≤ c.args.certificate.now.bound =
    root_bound (task_of c.args.task.now) c.args.certificate.now c.args.nodes.now c.requires.meets c.in_ok-graph.graph.instances c.in_ok-graph.ensures.family
    c.in_ok-composed.composed.ranks c.in_ok-composed.composed.needs
    (subst (λ back. IsLeast back c.in_ok-graph.graph.instances c.in_ok-composed.composed.ranks c.in_ok-composed.composed.needs) (c.back-back.ensures.exact ∙ ap back_of c.device.ensures) c.in_ok-composed.ensures)
    c.in_ok-graph.ensures.graph.some in
    omega (arith, need, c.requires.claim.bound_fits, devices_are_alike.most_depth c.args.certificate.now.device)

pub chain-requires-clause-closed : goal.chain-requires-clause-closed
chain-requires-clause-closed c =
    have_closed_nodes (task_of c.args.task.now) c.args.certificate.now c.args.nodes.now c.requires.meets c.in_ok-graph.graph.instances c.in_ok-graph.ensures.family c.requires.rooted

pub returns-clause-root : goal.returns-clause-root
returns-clause-root c = λ graph family. root_first (task_of c.args.task.now) c.args.certificate.now c.args.nodes.now c.requires.meets graph family

pub returns-clause-bounded : goal.returns-clause-bounded
returns-clause-bounded c =
    let need : slice_index c.in_ok-composed.composed.needs 0 ≤ c.args.certificate.now.bound =
    root_bound (task_of c.args.task.now) c.args.certificate.now c.args.nodes.now c.requires.meets c.in_ok-graph.graph.instances c.in_ok-graph.ensures.family
    c.in_ok-composed.composed.ranks c.in_ok-composed.composed.needs
    (subst (λ back. IsLeast back c.in_ok-graph.graph.instances c.in_ok-composed.composed.ranks c.in_ok-composed.composed.needs) (c.back-back.ensures.exact ∙ ap back_of c.device.ensures) c.in_ok-composed.ensures)
    c.in_ok-graph.ensures.graph.some in
    omega (arith, need, c.need.ensures)
