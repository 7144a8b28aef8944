use Rattle.std.proofs.Common.{◌≡◌, ◌∙◌, ◌+◌, ◌<◌, List, Bool, length, subst, sym, arith}
use Rattle.basics.specs.Lists.{get_inside}
use Rattle.store_clear.specs.Takes.{AreMarkedBeside, IsTakenAt}
use Rattle.store_clear.proofs.Conditions.{key_is}
use Rattle.store_clear.proofs.Taken.{takes_none, takes_marked, takes_same}
use Rattle.store_clear.proofs.takes.mark_takes.Goals.{then-may_take, else-may_take}
use Rattle.store_clear.proofs.takes.mark_takes.Goals as goal
use Rattle.family_edges.specs.Tasks.{task_of}

pub loop-at-init : goal.loop-at-init
loop-at-init c = takes_none (task_of c.args.task.now) c.args.nodes.now c.args.marks.now

pub loop-at-preserved : goal.loop-at-preserved
loop-at-preserved c =
    let task = task_of c.args.task.now in
    let nodes = c.args.nodes.now in
    let at = c.loop-at.at in
    let lt : at < length nodes = omega (arith, c.loop-at-test.true, c.count-at-end.ensures.count) in
    let n = get_inside nodes at lt in
    let key = key_is nodes at n.0 n.1 c.key-key.result.now c.key-key.ensures in
    elim c.if-may_take.branch [
      | then-may_take w ↦
          subst (λ (xs : List Bool). AreMarkedBeside (IsTakenAt task nodes (at + 1)) c.args.marks.now xs) (sym w.marks-is)
          (takes_marked task nodes at n.0 c.key-key.result.now c.args.marks.now c.loop-at.marks n.1 key c.loop-at.invariant w.mark_vectors.new.marks
          (sym c.may_take.ensures ∙ w.if-may_take.true) w.mark_vectors.ensures)
      | else-may_take w ↦
          subst (λ (xs : List Bool). AreMarkedBeside (IsTakenAt task nodes (at + 1)) c.args.marks.now xs) (sym w.marks-is)
          (takes_same task nodes at n.0 c.key-key.result.now c.args.marks.now c.loop-at.marks n.1 key c.loop-at.invariant (sym c.may_take.ensures ∙ w.if-may_take.false))
    ]

pub returns : goal.returns
returns c =
    let full : c.loop-at.at ≡ length c.args.nodes.now = omega (arith, c.loop-at-test.false, c.loop-at.auto.at-end, c.count-at-end.ensures.count) in
    subst (λ k. AreMarkedBeside (IsTakenAt (task_of c.args.task.now) c.args.nodes.now k) c.args.marks.now c.loop-at.marks) full c.loop-at.invariant
