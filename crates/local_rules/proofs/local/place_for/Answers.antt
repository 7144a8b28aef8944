use Rattle.std.proofs.Common.{◌≡◌, ◌∙◌, ◌-◌, sym, subst, true, false, arith}
use Rattle.std.specs.Ordering.{is_gt}
use Rattle.node_keys.specs.Order.{node_cmp}
use Rattle.local_rules.specs.declared.local.Node.{Node}
use Rattle.local_rules.proofs.Placing.{most_in, at_most, place_after}
use Rattle.local_rules.proofs.local.place_for.Goals as goal

pub loop-at-init : goal.loop-at-init
loop-at-init c = record { inside = omega arith; most = most_in c.args.key.now c.args.nodes.now }

pub loop-at-preserved : goal.loop-at-preserved
loop-at-preserved c =
    let inside = c.loop-at.invariant.inside in
    let some = c.loop-at-test.true in
    record {
      inside = omega (arith, inside);
      most = at_most c.args.key.now c.args.nodes.now (c.loop-at.at - 1) c.index-nodes-at.result (omega (arith, inside, some))
          (subst (λ (n : Node). is_gt (node_cmp c.args.key.now n.key) ≡ false) c.index-nodes-at.is (sym c.is_above.ensures ∙ c.if-not-is_above.true));
    }

pub returns-else-not-is_above-clause-place : goal.returns-else-not-is_above-clause-place
returns-else-not-is_above-clause-place c =
    let inside = c.loop-at.invariant.inside in
    let some = c.loop-at-test.true in
    place_after c.args.key.now c.args.nodes.now c.loop-at.at (c.loop-at.at - 1) c.index-nodes-at.result c.requires (omega (arith, some)) inside c.loop-at.invariant.most
    (subst (λ (n : Node). is_gt (node_cmp c.args.key.now n.key) ≡ true) c.index-nodes-at.is (sym c.is_above.ensures ∙ c.if-not-is_above.false))
