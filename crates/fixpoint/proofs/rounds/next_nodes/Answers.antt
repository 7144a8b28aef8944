use Rattle.std.proofs.Common.{◌≢◌}
use Rattle.avr_model.specs.Devices.{device_of}
use Rattle.avr_model.specs.Assumptions.{has_pairs}
use Rattle.round_steps.proofs.Gathers.{formed_own, nodes_own}
use Rattle.round_rules.specs.declared.refusal.Refusal.TheVariants.{Memory}
use Rattle.fixpoint.specs.Checks.{AreRoundsStopped}
use Rattle.fixpoint.proofs.Known.{all_known}
use Rattle.fixpoint.proofs.Ready.{handed_on, too_large, has_fault, looks_fit, few_insts, told_stops, targets_fit, is_ready}
use Rattle.fixpoint.proofs.rounds.next_nodes.Goals as goal
use Rattle.family_edges.specs.Tasks.{task_of}

pub returns-in_err-check_size-clause-stopped : goal.returns-in_err-check_size-clause-stopped
returns-in_err-check_size-clause-stopped c =
    handed_on c.from_residual.result c.in_err-check_size.field-0.0 (λ r. r ≢ Memory → AreRoundsStopped (task_of c.args.task.now) c.args.table.now r)
    c.from_residual.ensures.1
    (λ real. too_large (task_of c.args.task.now) c.args.table.now c.in_err-check_size.field-0.0 c.in_err-check_size.ensures.over)

pub returns-in-Err-clause-stopped : goal.returns-in-Err-clause-stopped
returns-in-Err-clause-stopped c = λ real.
    let faulty = c.in-Err.ensures.fault real in
    has_fault (task_of c.args.task.now) c.args.table.now c.args.work.now c.args.notes.now c.in_ok-seen.seen faulty.fault c.in-Err.refusal
    c.in_ok-check_size.ensures.fits c.requires.turn c.in_ok-seen.ensures faulty.found faulty.is

pub note_seen-requires-clause-small : goal.note_seen-requires-clause-small
note_seen-requires-clause-small c =
    looks_fit (task_of c.args.task.now) c.args.table.now c.args.work.now c.in_ok-seen.seen c.requires.formed c.in_ok-seen.ensures

pub check_nesting-requires : goal.check_nesting-requires
check_nesting-requires c =
    few_insts (task_of c.args.task.now) c.args.table.now c.note_seen.new.notes c.in_ok-check_size.ensures.fits
    (all_known (task_of c.args.task.now) c.args.table.now c.args.work.now c.args.notes.now c.note_seen.new.notes c.in_ok-seen.seen c.requires.turn
    c.in_ok-seen.ensures c.in_default.ensures.none c.in_default.ensures.noted) c.in_default.ensures.once

pub returns-in-Err-check_nesting-clause-stopped : goal.returns-in-Err-check_nesting-clause-stopped
returns-in-Err-check_nesting-clause-stopped c =
    told_stops (task_of c.args.task.now) c.args.table.now c.note_seen.new.notes c.in_ok-check_size.ensures.fits
    (all_known (task_of c.args.task.now) c.args.table.now c.args.work.now c.args.notes.now c.note_seen.new.notes c.in_ok-seen.seen c.requires.turn
    c.in_ok-seen.ensures c.in_default.ensures.none c.in_default.ensures.noted) c.in-Err-check_nesting.refusal c.requires.root c.in-Err-check_nesting.ensures.told

pub targets-requires-clause-formed : goal.targets-requires-clause-formed
targets-requires-clause-formed c = formed_own c.args.table.now c.requires.formed

pub targets-requires-clause-nodes : goal.targets-requires-clause-nodes
targets-requires-clause-nodes c =
    nodes_own _
    (targets_fit (task_of c.args.task.now) c.args.table.now c.args.work.now c.args.notes.now c.note_seen.new.notes c.check_nesting.new.nesting c.in_ok-seen.seen
    c.requires.formed c.in_ok-check_size.ensures.fits c.requires.turn c.in_ok-seen.ensures c.in_default.ensures.none
    (all_known (task_of c.args.task.now) c.args.table.now c.args.work.now c.args.notes.now c.note_seen.new.notes c.in_ok-seen.seen c.requires.turn
    c.in_ok-seen.ensures c.in_default.ensures.none c.in_default.ensures.noted) c.in_default-check_nesting.ensures.same)

pub returns : goal.returns
returns c = record {
  ready =
      is_ready (task_of c.args.task.now) c.args.table.now c.args.work.now c.args.notes.now c.note_seen.new.notes c.check_nesting.new.nesting c.in_ok-seen.seen
      c.in_ok-nodes.nodes.items c.requires.formed c.requires.root c.in_ok-check_size.ensures.fits c.requires.turn c.in_ok-seen.ensures c.in_default.ensures.none
      (all_known (task_of c.args.task.now) c.args.table.now c.args.work.now c.args.notes.now c.note_seen.new.notes c.in_ok-seen.seen c.requires.turn
      c.in_ok-seen.ensures c.in_default.ensures.none c.in_default.ensures.noted)
      c.in_default-check_nesting.ensures.nests c.in_default-check_nesting.ensures.same c.in_default-check_nesting.ensures.once
      (c.in_ok-nodes.ensures (device_of c.args.task.now.flash.now) (has_pairs c.args.task.now.assumptions.now)
      (targets_fit (task_of c.args.task.now) c.args.table.now c.args.work.now c.args.notes.now c.note_seen.new.notes c.check_nesting.new.nesting c.in_ok-seen.seen
      c.requires.formed c.in_ok-check_size.ensures.fits c.requires.turn c.in_ok-seen.ensures c.in_default.ensures.none
      (all_known (task_of c.args.task.now) c.args.table.now c.args.work.now c.args.notes.now c.note_seen.new.notes c.in_ok-seen.seen c.requires.turn
      c.in_ok-seen.ensures c.in_default.ensures.none c.in_default.ensures.noted) c.in_default-check_nesting.ensures.same));
  stopped = tt;
}
