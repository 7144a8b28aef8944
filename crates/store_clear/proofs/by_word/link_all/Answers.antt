use Rattle.std.proofs.Common.{◌<◌, ◌+◌, ◌-◌, ◌∙◌, ap, sym, subst, set, get_or, length, arith}
use Rattle.basics.specs.Lists.{get_inside}
use Rattle.node_keys.specs.declared.keys.NodeKey.{NodeKey}
use Rattle.store_clear.specs.ByWord.{AreLinked}
use Rattle.store_clear.proofs.Conditions.{key_is}
use Rattle.store_clear.proofs.Linked.{word_small, linked_here}
use Rattle.store_clear.proofs.by_word.link_all.Goals as goal

pub bounds-first-word : goal.bounds-first-word
bounds-first-word c =
    let nodes = c.args.told.now.nodes.now in
    let at = c.loop-at.at - 1 in
    let lt : at < length nodes = omega (arith, c.requires.same, c.loop-at-test.true, c.loop-at.invariant.inside) in
    let n = get_inside nodes at lt in
    let word = word_small nodes c.count-count.ensures.shown at n.0 n.1 in
    let same = ap (λ (k : NodeKey). k.pc) (key_is nodes at n.0 n.1 c.key.result.now c.key.ensures) in
    omega (arith, word, same, c.loop-at.invariant.words)

pub bounds-first-word-then-not-is_discharged : goal.bounds-first-word-then-not-is_discharged
bounds-first-word-then-not-is_discharged c = bounds-first-word c

pub loop-at-preserved-then-not-is_discharged : goal.loop-at-preserved-then-not-is_discharged
loop-at-preserved-then-not-is_discharged c =
    let nodes = c.args.told.now.nodes.now in
    let conditions = c.args.told.now.conditions.now in
    let at = c.loop-at.at - 1 in
    let first = c.loop-at.first in
    let later = c.loop-at.later in
    let lt : at < length nodes = omega (arith, c.requires.same, c.loop-at-test.true, c.loop-at.invariant.inside) in
    let n = get_inside nodes at lt in
    let word = word_small nodes c.count-count.ensures.shown at n.0 n.1 in
    let same = ap (λ (k : NodeKey). k.pc) (key_is nodes at n.0 n.1 c.key.result.now c.key.ensures) in
    let linked : AreLinked nodes conditions (at + 1) first later = subst (λ s. AreLinked nodes conditions s first later) (omega (arith, c.loop-at-test.true)) c.loop-at.invariant in
    subst (λ w. AreLinked nodes conditions at (set first w at) (set later at (get_or first w 0))) same
    (linked_here nodes conditions at n.0 n.1 first later linked (sym c.is_discharged.ensures ∙ c.if-not-is_discharged.true) word (omega (arith, lt, c.requires.same)))
