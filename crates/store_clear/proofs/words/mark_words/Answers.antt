use Rattle.std.proofs.Common.{◌∙◌, ◌+◌, ◌<◌, ℕ, true, ap, set, subst, sym, arith, length}
use Rattle.basics.specs.Lists.{get_inside}
use Rattle.node_keys.specs.declared.keys.NodeKey.{NodeKey}
use Rattle.store_clear.specs.Conditions.{AreWordsMarked}
use Rattle.store_clear.proofs.Conditions.{key_is}
use Rattle.store_clear.proofs.Marked.{words_none, words_marked, words_passed, word_within}
use Rattle.store_clear.proofs.words.mark_words.Goals.{then-not-is_discharged, else-not-is_discharged}
use Rattle.store_clear.proofs.words.mark_words.Goals as goal

pub loop-at-init : goal.loop-at-init
loop-at-init c = words_none c.args.told.now.nodes.now c.args.told.now.conditions.now c.args.marks.now

pub bounds-marks-key : goal.bounds-marks-key
bounds-marks-key c =
    word_within c.args.told.now.nodes.now c.count-count.ensures.shown c.loop-at.at c.key.result.now c.key.ensures c.loop-at.marks (omega (arith, c.loop-at.invariant.same, c.requires.all))

pub loop-at-preserved : goal.loop-at-preserved
loop-at-preserved c =
    let nodes = c.args.told.now.nodes.now in
    let conditions = c.args.told.now.conditions.now in
    let at = c.loop-at.at in
    let lt : at < length nodes = omega (arith, c.requires.same, c.loop-at-test.true) in
    let n = get_inside nodes at lt in
    elim c.if-not-is_discharged.branch [
      | then-not-is_discharged w ↦
          let key = key_is nodes at n.0 n.1 w.key.result.now w.key.ensures in
          let within = word_within nodes c.count-count.ensures.shown at w.key.result.now w.key.ensures c.loop-at.marks (omega (arith, c.loop-at.invariant.same, c.requires.all)) in
          subst (AreWordsMarked nodes conditions (at + 1) c.args.marks.now)
          (sym (w.marks-is ∙ ap (λ (i : ℕ). set c.loop-at.marks i true) (ap (λ (k : NodeKey). k.pc) (sym key))))
          (words_marked nodes conditions at n.0 c.args.marks.now c.loop-at.marks n.1 (sym c.is_discharged.ensures ∙ w.if-not-is_discharged.true)
          (subst (λ (k : NodeKey). k.pc < length c.loop-at.marks) (sym key) within) c.loop-at.invariant)
      | else-not-is_discharged w ↦
          subst (AreWordsMarked nodes conditions (at + 1) c.args.marks.now) (sym w.marks-is)
          (words_passed nodes conditions at c.args.marks.now c.loop-at.marks (sym c.is_discharged.ensures ∙ w.if-not-is_discharged.false) c.loop-at.invariant)
    ]
