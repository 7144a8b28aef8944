use Rattle.std.proofs.Common.{List, arith, length, subst, subst₂, sym, ◌≤◌}
use Rattle.std.proofs.lemmas.Result.{IfOk-weaker}
use Rattle.avr_model.specs.declared.assumption.Entry.{Entry}
use Rattle.avr_model.specs.declared.device.Device.{Device}
use Rattle.avr_model.specs.Assumptions.{has_pairs}
use Rattle.edge_rules.specs.Expansion.{AreSeeds, IsFilled, IsMissing}
use Rattle.family_edges.specs.Expanding.{IsExpanded}
use Rattle.certificate.specs.Valid.{MeetsConditions}
use Rattle.local_rules.specs.declared.local.Node.{Node}
use Rattle.family_graph.proofs.Conditions.{meets_conditions}
use Rattle.family_graph.proofs.worked.worked_of.Goals as goal
use Rattle.family_edges.specs.Tasks.{task_of}

pub expand-requires-clause-seeds : goal.expand-requires-clause-seeds
expand-requires-clause-seeds c =
    subst₂ (λ (device : Device) (A : List Entry). AreSeeds device (has_pairs A) c.args.certificate.now.nodes) c.requires.meets.device c.requires.meets.assumptions
    (c.claims_are_seeds.ensures c.args.certificate.now c.nodes-nodes.ensures.kept)

pub expand-requires-clause-ascending : goal.expand-requires-clause-ascending
expand-requires-clause-ascending c = c.nodes-nodes.ensures.kept.nodes_ascend

pub of-requires-clause-few : goal.of-requires-clause-few
of-requires-clause-few c =
    let filled : IsFilled (task_of c.args.task.now) c.args.certificate.now.nodes c.in-Whole.nodes =
    subst (IsExpanded (task_of c.args.task.now) c.args.certificate.now.nodes) c.in-Whole.is c.in_ok-nodes.ensures in
    omega (arith, filled.count, c.nodes-nodes.ensures.kept.few_nodes)

pub of-requires-clause-faultless : goal.of-requires-clause-faultless
of-requires-clause-faultless c =
    (meets_conditions (task_of c.args.task.now) c.args.certificate.now c.filled_or_missing.ensures c.requires c.in-Whole.nodes
    (subst (IsExpanded (task_of c.args.task.now) c.args.certificate.now.nodes) c.in-Whole.is c.in_ok-nodes.ensures)).faultless

pub returns-clause-filled : goal.returns-clause-filled
returns-clause-filled c =
    let filled : IsFilled (task_of c.args.task.now) c.args.certificate.now.nodes c.in-Whole.nodes =
    subst (IsExpanded (task_of c.args.task.now) c.args.certificate.now.nodes) c.in-Whole.is c.in_ok-nodes.ensures in
    IfOk-weaker c.of.result _ _
    (λ family e. subst (IsFilled (task_of c.args.task.now) c.args.certificate.now.nodes) (sym e) filled) c.of.ensures.nodes

pub returns-clause-few : goal.returns-clause-few
returns-clause-few c =
    let filled : IsFilled (task_of c.args.task.now) c.args.certificate.now.nodes c.in-Whole.nodes =
    subst (IsExpanded (task_of c.args.task.now) c.args.certificate.now.nodes) c.in-Whole.is c.in_ok-nodes.ensures in
    let few : length c.in-Whole.nodes ≤ 65536 = omega (arith, filled.count, c.nodes-nodes.ensures.kept.few_nodes) in
    IfOk-weaker c.of.result _ _ (λ family e. subst (λ (ns : List Node). length ns ≤ 65536) (sym e) few) c.of.ensures.nodes

pub returns-clause-meets : goal.returns-clause-meets
returns-clause-meets c =
    let meets =
    meets_conditions (task_of c.args.task.now) c.args.certificate.now c.filled_or_missing.ensures c.requires c.in-Whole.nodes
    (subst (IsExpanded (task_of c.args.task.now) c.args.certificate.now.nodes) c.in-Whole.is c.in_ok-nodes.ensures) in
    IfOk-weaker c.of.result _ _
    (λ family e. subst (MeetsConditions (task_of c.args.task.now) c.args.certificate.now) (sym e) meets) c.of.ensures.nodes

pub unreachable-requires : goal.unreachable-requires
unreachable-requires c =
    let missing : IsMissing (task_of c.args.task.now) c.args.certificate.now.nodes c.in-Missing.field-0 =
    subst (IsExpanded (task_of c.args.task.now) c.args.certificate.now.nodes) c.in-Missing.is c.in_ok-nodes.ensures in
    c.filled_or_missing.ensures.apart (task_of c.args.task.now) c.args.certificate.now.nodes c.requires.nodes c.in-Missing.field-0 c.requires.expanded missing
