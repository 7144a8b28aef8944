use Rattle.std.proofs.Common.{sym, subst, ◌≡◌, ℕ, false, ◌<◌, Some, slice_get, length, arith}
use Rattle.std.specs.declared.cmp.Ordering.TheVariants.{Less}
use Rattle.node_keys.specs.declared.keys.NodeKey.{NodeKey}
use Rattle.node_keys.specs.Order.{node_cmp}
use Rattle.edge_rules.specs.declared.seeded.NodeForm.{NodeForm}
use Rattle.edge_rules.specs.declared.seeded.NodeForm.TheVariants.{From}
use Rattle.edge_rules.specs.Expansion.{Seeds, AreSeeds}
use Rattle.edge_laws.specs.Expansions.{AreSeedsAscending}
use Rattle.family_tables.proofs.Growing.{with_from, pushed_ascending}
use Rattle.family_tables.proofs.tests.seeds.add_from.Goals as goal

pub returns-clause-seeds : goal.returns-clause-seeds
returns-clause-seeds c =
    let xs = c.args.items.now.items in
    let few = subst (λ (ys : Seeds). length ys < 65536) c.deref.ensures.value (c.may_follow.ensures.room c.if-not-may_follow.false) in
    let below : c.args.from < length xs = omega (arith, c.if-from-len.false, c.len.ensures) in
    subst (AreSeeds c.args.device false) (sym c.in_ok-push.ensures.items) (with_from c.args.device xs c.args.key c.args.from c.requires.seeds few below)

pub returns-clause-ascending : goal.returns-clause-ascending
returns-clause-ascending c =
    let above = subst (λ (ys : Seeds). (at : ℕ) (e : NodeKey × NodeForm) → slice_get ys at ≡ Some e → node_cmp e.0 c.args.key ≡ Less) c.deref.ensures.value
    (c.may_follow.ensures.below c.if-not-may_follow.false) in
    subst AreSeedsAscending (sym c.in_ok-push.ensures.items) (pushed_ascending c.args.items.now.items c.args.key (From c.args.from) c.requires.ascending above)
