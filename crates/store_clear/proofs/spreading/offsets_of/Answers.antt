use Rattle.std.proofs.Common.{◌<◌, ◌≤◌, ◌∙◌, ap, sym, arith, length}
use Rattle.basics.specs.Lists.{get_inside}
use Rattle.node_keys.specs.declared.keys.NodeKey.{NodeKey}
use Rattle.node_keys.specs.Keys.{offset_of}
use Rattle.store_clear.proofs.Conditions.{key_is}
use Rattle.store_clear.proofs.Spread.{offsets_more, offsets_end}
use Rattle.store_clear.proofs.spreading.offsets_of.Goals as goal

pub loop-at-preserved : goal.loop-at-preserved
loop-at-preserved c =
    let nodes = c.args.nodes.now in
    let at = c.loop-at.at in
    let lt : at < length nodes = omega (arith, c.loop-at-test.true, c.count-at-end.ensures.count) in
    let n = get_inside nodes at lt in
    c.in_ok-push.ensures.ok
    ∙ offsets_more nodes at c.loop-at.offsets n.0 c.offset.result c.loop-at.invariant n.1
    (c.offset.ensures ∙ ap (λ (k : NodeKey). offset_of k.sp) (sym (key_is nodes at n.0 n.1 c.key.result.now c.key.ensures)))

pub returns : goal.returns
returns c =
    let full : length c.args.nodes.now ≤ c.loop-at.at = omega (arith, c.loop-at-test.false, c.count-at-end.ensures.count) in
    offsets_end c.args.nodes.now c.loop-at.at c.loop-at.offsets full c.loop-at.invariant
