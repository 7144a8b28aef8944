use Rattle.std.proofs.Common.{List, [], ◌∷◌, sym, subst, take}
use Rattle.node_keys.specs.declared.keys.NodeKey.{NodeKey}
use Rattle.round_steps.proofs.Besides.{pushed}
use Rattle.fixpoint.specs.Confirm.{AreKnownAt}
use Rattle.fixpoint.proofs.Ready.{looks_fit}
use Rattle.fixpoint.proofs.Confirm.{none_known, none_once, more_known}
use Rattle.fixpoint.proofs.confirming.note_each.Goals as goal
use Rattle.family_edges.specs.Tasks.{task_of}

pub loop-at-init : goal.loop-at-init
loop-at-init c =
    (none_known (task_of c.args.task.now) c.args.table.now c.args.notes.now c.requires.no_notes, none_once c.args.notes.now c.requires.no_notes)

pub note_seen-told-requires-clause-small : goal.note_seen-told-requires-clause-small
note_seen-told-requires-clause-small c =
    looks_fit (task_of c.args.task.now) c.args.table.now (c.index-keys-at.result ∷ []) c.in_ok-seen.seen c.requires.formed c.in_ok-seen.ensures

pub loop-at-preserved : goal.loop-at-preserved
loop-at-preserved c = (
  subst (λ (l : List NodeKey). AreKnownAt (task_of c.args.task.now) c.args.table.now l c.note_seen-told.new.notes)
      (sym (pushed c.args.keys.now c.loop-at.at c.index-keys-at.result c.loop-at-test.true c.index-keys-at.is))
      (more_known (task_of c.args.task.now) c.args.table.now (take c.loop-at.at c.args.keys.now) c.index-keys-at.result c.loop-at.notes c.note_seen-told.new.notes
      c.in_ok-seen.seen c.loop-at.invariant.0 c.in_ok-seen.ensures c.in_ok-told.ensures.none c.in_ok-told.ensures.noted),
  c.in_ok-told.ensures.once,
)
