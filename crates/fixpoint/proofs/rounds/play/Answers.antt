use Rattle.std.proofs.Common.{arith}
use Rattle.avr_model.specs.Devices.{device_of}
use Rattle.avr_model.specs.Assumptions.{has_pairs}
use Rattle.round_rules.specs.Solutions.{AreRoundsWithout}
use Rattle.fixpoint.proofs.Ready.{handed_on}
use Rattle.fixpoint.proofs.Ending.{why_stopped, formed, rooted, is_found, progress_more, why_spent, falls, none_if, some_if}
use Rattle.fixpoint.proofs.rounds.play.Goals as goal
use Rattle.family_edges.specs.Tasks.{task_of}

pub next_nodes-requires-clause-formed : goal.next_nodes-requires-clause-formed
next_nodes-requires-clause-formed c =
    formed (task_of c.args.task.now) c.args.steps c.args.rounds.now.left c.args.rounds.now.table c.args.rounds.now.counted c.args.rounds.now.work.items c.args.rounds.now.notes c.requires

pub next_nodes-requires-clause-root : goal.next_nodes-requires-clause-root
next_nodes-requires-clause-root c =
    rooted (task_of c.args.task.now) c.args.steps c.args.rounds.now.left c.args.rounds.now.table c.args.rounds.now.counted c.args.rounds.now.work.items c.args.rounds.now.notes c.requires

pub returns-in_err-nodes-clause-why_not : goal.returns-in_err-nodes-clause-why_not
returns-in_err-nodes-clause-why_not c =
    handed_on c.from_residual.result c.in_err-nodes.field-0.0 (AreRoundsWithout (task_of c.args.task.now) c.args.steps) c.from_residual.ensures.1
    (why_stopped (task_of c.args.task.now) c.args.steps c.args.rounds.now.left c.args.rounds.now.table c.args.rounds.now.counted c.args.rounds.now.work.items c.args.rounds.now.notes c.requires
    c.in_err-nodes.field-0.0 c.in_err-nodes.ensures.stopped)

pub join_all-requires-clause-fit : goal.join_all-requires-clause-fit
join_all-requires-clause-fit c = record {
  device = device_of c.args.task.now.flash.now;
  followed = has_pairs c.args.task.now.assumptions.now;
  formed = formed (task_of c.args.task.now) c.args.steps c.args.rounds.now.left c.args.rounds.now.table c.args.rounds.now.counted c.args.rounds.now.work.items c.args.rounds.now.notes c.requires;
  nodes = c.in_ok-nodes.ensures.ready.round.formed;
}

pub returns-then-is_empty-clause-found : goal.returns-then-is_empty-clause-found
returns-then-is_empty-clause-found c = λ ended.
    is_found (task_of c.args.task.now) c.args.steps c.args.rounds.now.left c.args.rounds.now.table c.args.rounds.now.counted c.args.rounds.now.work.items c.args.rounds.now.notes c.requires
    c.join_all.new.table c.next_nodes.new.notes c.in_ok-nodes.nodes.items c.in_ok-rounds.field-0.items c.in_ok-nodes.ensures.ready c.in_ok-rounds.ensures.joined
    c.in_ok-rounds.ensures.kept c.in_ok-rounds.ensures.more (none_if c.in_ok-rounds.field-0.items c.is_empty.result _ c.is_empty.ensures (omega (arith, c.in_ok-rounds.field-0.ok.0)) c.if-is_empty.true)

pub returns-in_err-rounds-2-clause-why_not : goal.returns-in_err-rounds-2-clause-why_not
returns-in_err-rounds-2-clause-why_not c =
    handed_on c.from_residual-in_err-rounds-2.result c.in_err-rounds-2.field-0.0 (AreRoundsWithout (task_of c.args.task.now) c.args.steps) c.from_residual-in_err-rounds-2.ensures.1
    (why_spent (task_of c.args.task.now) c.args.steps c.args.rounds.now.left c.args.rounds.now.table c.args.rounds.now.counted c.args.rounds.now.work.items c.args.rounds.now.notes c.requires
    c.join_all.new.table c.next_nodes.new.notes c.in_ok-nodes.nodes.items c.in_ok-rounds.field-0.items c.in_ok-nodes.ensures.ready c.in_ok-rounds.ensures.joined
    c.in_ok-rounds.ensures.kept c.in_ok-rounds.ensures.more
    (some_if c.in_ok-rounds.field-0.items c.is_empty.result _ c.is_empty.ensures (omega (arith, c.in_ok-rounds.field-0.ok.0)) c.if-is_empty.false) c.in_err-rounds-2.field-0.0 c.in_err-rounds-2.ensures.err)

pub returns-clause-more : goal.returns-clause-more
returns-clause-more c = λ ended.
    progress_more (task_of c.args.task.now) c.args.steps c.args.rounds.now.left c.args.rounds.now.table c.args.rounds.now.counted c.args.rounds.now.work.items c.args.rounds.now.notes c.requires
    c.join_all.new.table c.next_nodes.new.notes c.in_ok-nodes.nodes.items c.in_ok-rounds.field-0.items c.in_ok-nodes.ensures.ready c.in_ok-rounds.ensures.joined
    c.in_ok-rounds.ensures.kept c.in_ok-rounds.ensures.more
    (some_if c.in_ok-rounds.field-0.items c.is_empty.result _ c.is_empty.ensures (omega (arith, c.in_ok-rounds.field-0.ok.0)) c.if-is_empty.false) c.in_ok-rounds-2.field-0 c.join_all.new.counted c.in_ok-rounds-2.ensures.ok c.in_ok-rounds.ensures.count

pub returns-clause-falls : goal.returns-clause-falls
returns-clause-falls c = λ ended.
    falls (task_of c.args.task.now) c.args.steps c.args.rounds.now.left c.args.rounds.now.table c.args.rounds.now.counted c.args.rounds.now.work.items c.args.rounds.now.notes c.requires
    c.join_all.new.table c.next_nodes.new.notes c.in_ok-nodes.nodes.items c.in_ok-rounds.field-0.items c.in_ok-nodes.ensures.ready c.in_ok-rounds.ensures.joined
    c.in_ok-rounds.ensures.kept c.in_ok-rounds.ensures.more
    (some_if c.in_ok-rounds.field-0.items c.is_empty.result _ c.is_empty.ensures (omega (arith, c.in_ok-rounds.field-0.ok.0)) c.if-is_empty.false)
