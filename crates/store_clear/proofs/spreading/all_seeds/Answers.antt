use Rattle.std.proofs.Common.{◌≡◌, ◌+◌, ◌<◌, ◌++◌, ◌∙◌, ap, sym, subst, arith, length, get_or, List, ℕ}
use Rattle.basics.specs.Lists.{get_inside}
use Rattle.node_keys.specs.declared.keys.NodeKey.{NodeKey}
use Rattle.node_keys.specs.Keys.{offset_of}
use Rattle.family_edges.specs.declared.landing.Landing.{Landing}
use Rattle.clear_laws.specs.Held.{is_guarded_push}
use Rattle.store_clear.specs.Conditions.{seeds_by, AreSeedsTo}
use Rattle.store_clear.proofs.Conditions.{key_is}
use Rattle.store_clear.proofs.Spread.{seeds_none, seeds_same, seeds_more, landings_at}
use Rattle.store_clear.proofs.spreading.all_seeds.Goals.{then-is_guarded_push+in_ok-add_seeds, else-is_guarded_push}
use Rattle.store_clear.proofs.spreading.all_seeds.Goals as goal
use Rattle.family_edges.specs.Tasks.{task_of}

pub loop-at-preserved : goal.loop-at-preserved
loop-at-preserved c =
    let task = task_of c.args.task.now in
    let nodes = c.args.family.now.nodes in
    let at = c.loop-at.at in
    let lt : at < length nodes = omega (arith, c.loop-at-test.true, c.count-at-end.ensures.count) in
    let n = get_inside nodes at lt in
    let key = key_is nodes at n.0 n.1 c.key-key.result.now c.key-key.ensures in
    elim c.if-is_guarded_push.branch [
      | then-is_guarded_push+in_ok-add_seeds w ↦
          let landings =
          landings_at task nodes c.args.family.now.landings c.requires at n.0 n.1 w.index-landings-at.result w.as_slice.result.now
          (w.as_slice.ensures ∙ (w.index-landings-at.is ∙ ap (λ (xs : List (List Landing)). get_or xs at w.index-landings-at.result) c.as_slice-landings.ensures)) in
          let more : c.if-is_guarded_push.seeds ≡ c.loop-at.seeds ++ seeds_by (offset_of n.0.key.sp) w.as_slice.result.now =
          w.seeds-is
          ∙ (w.in_ok-add_seeds.ensures
          ∙ ap (λ (o : ℕ). c.loop-at.seeds ++ seeds_by o w.as_slice.result.now) (w.offset.ensures ∙ ap (λ (k : NodeKey). offset_of k.sp) (sym key))) in
          subst (AreSeedsTo task nodes (at + 1)) (sym more)
          (seeds_more task nodes at n.0 n.1 c.loop-at.seeds c.loop-at.invariant w.as_slice.result.now landings
          (ap (λ (k : NodeKey). is_guarded_push task k.pc) key ∙ (sym c.is_guarded_push.ensures ∙ w.if-is_guarded_push.true)))
      | else-is_guarded_push w ↦
          subst (AreSeedsTo task nodes (at + 1)) (sym w.seeds-is)
          (seeds_same task nodes at n.0 n.1 c.loop-at.seeds c.loop-at.invariant
          (ap (λ (k : NodeKey). is_guarded_push task k.pc) key ∙ (sym c.is_guarded_push.ensures ∙ w.if-is_guarded_push.false)))
    ]

pub loop-at-init : goal.loop-at-init
loop-at-init c =
    subst (AreSeedsTo (task_of c.args.task.now) c.args.family.now.nodes 0) (sym c.empty-seeds.ensures)
    (seeds_none (task_of c.args.task.now) c.args.family.now.nodes)

pub returns : goal.returns
returns c =
    let full : c.loop-at.at ≡ length c.args.family.now.nodes = omega (arith, c.loop-at-test.false, c.loop-at.auto.at-end, c.count-at-end.ensures.count) in
    subst (λ (k : ℕ). AreSeedsTo (task_of c.args.task.now) c.args.family.now.nodes k c.loop-at.seeds) full c.loop-at.invariant
