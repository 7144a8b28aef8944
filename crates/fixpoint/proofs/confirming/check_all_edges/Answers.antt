use Rattle.std.proofs.Common.{List, sym, subst, take, arith}
use Rattle.std.proofs.lemmas.List.{take_all}
use Rattle.avr_model.specs.Devices.{device_of}
use Rattle.avr_model.specs.Assumptions.{has_pairs}
use Rattle.node_keys.specs.declared.keys.NodeKey.{NodeKey}
use Rattle.round_steps.proofs.Besides.{pushed}
use Rattle.round_steps.proofs.Gathers.{formed_own, nodes_own}
use Rattle.fixpoint.specs.Confirm.{LandAt}
use Rattle.fixpoint.proofs.Order.{none_left}
use Rattle.fixpoint.proofs.Confirm.{none_land, more_land, targets_are_nodes, edges_land}
use Rattle.fixpoint.proofs.confirming.check_all_edges.Goals as goal
use Rattle.family_edges.specs.Tasks.{task_of}

pub loop-at-init : goal.loop-at-init
loop-at-init c = none_land (task_of c.args.task.now) c.args.table.now

pub targets-requires-clause-formed : goal.targets-requires-clause-formed
targets-requires-clause-formed c = formed_own c.args.table.now c.requires.formed

pub targets-requires-clause-nodes : goal.targets-requires-clause-nodes
targets-requires-clause-nodes c =
    nodes_own _
    (targets_are_nodes (task_of c.args.task.now) c.args.table.now c.requires.formed c.args.notes.now c.requires.known c.in_ok-seen.seen.looks.items
    c.in_ok-seen.ensures.looks)

pub loop-at-preserved : goal.loop-at-preserved
loop-at-preserved c =
    subst (λ (l : List NodeKey). LandAt (task_of c.args.task.now) c.args.table.now l)
    (sym (pushed c.args.keys.now c.loop-at.at c.index-keys-at.result c.loop-at-test.true c.index-keys-at.is))
    (more_land (task_of c.args.task.now) c.args.table.now (take c.loop-at.at c.args.keys.now) c.index-keys-at.result c.loop-at.invariant
    (edges_land (task_of c.args.task.now) c.args.table.now c.requires.formed c.args.notes.now c.requires.known c.index-keys-at.result c.in_ok-seen.seen
    c.in_ok-nodes.nodes.items c.in_ok-seen.ensures
    (c.in_ok-nodes.ensures (device_of c.args.task.now.flash.now) (has_pairs c.args.task.now.assumptions.now)
    (targets_are_nodes (task_of c.args.task.now) c.args.table.now c.requires.formed c.args.notes.now c.requires.known c.in_ok-seen.seen.looks.items
    c.in_ok-seen.ensures.looks))
    (none_left c.in_ok-nodes.nodes.items c.is_empty-lands.result _ c.is_empty-lands.ensures (omega (arith, c.in_ok-nodes.nodes.ok.0)) c.if-not-lands.false)))

pub returns : goal.returns
returns c =
    subst (λ (l : List NodeKey). LandAt (task_of c.args.task.now) c.args.table.now l)
    (take_all c.loop-at.at c.args.keys.now (omega (arith, c.loop-at-test.false, c.loop-at.auto.at-end))) c.loop-at.invariant
