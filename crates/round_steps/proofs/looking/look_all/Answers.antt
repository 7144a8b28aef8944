use Rattle.std.proofs.Common.{List, refl, subst, sym, take}
use Rattle.node_keys.specs.declared.keys.NodeKey.{NodeKey}
use Rattle.round_steps.specs.Looks.{AreSeen}
use Rattle.round_steps.proofs.Seeing.{seen_none}
use Rattle.round_steps.proofs.Besides.{pushed}
use Rattle.round_steps.proofs.looking.look_all.Goals as goal
use Rattle.family_edges.specs.Tasks.{task_of}

pub loop-at-init : goal.loop-at-init
loop-at-init c = seen_none (task_of c.args.task.now) c.args.table.now _ c.new.ensures.items refl

pub loop-at-preserved : goal.loop-at-preserved
loop-at-preserved c =
    subst (λ (l : List NodeKey). AreSeen (task_of c.args.task.now) c.args.table.now l c.look_at.new.seen)
    (sym (pushed c.args.keys.now c.loop-at.at c.index-keys-at.result c.loop-at-test.true c.index-keys-at.is))
    (c.in_ok-look_at.ensures (take c.loop-at.at c.args.keys.now) c.loop-at.invariant)
