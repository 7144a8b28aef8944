use Rattle.std.proofs.Common.{arith, sym, subst, ◌∙◌, ◌≡◌, ℕ, false, ◌<◌, [], ◌∷◌, ◌++◌, Some, slice_get, length}
use Rattle.std.specs.declared.cmp.Ordering.TheVariants.{Less}
use Rattle.avr_model.specs.Devices.{limit_of}
use Rattle.abs_state.specs.declared.state.AbsState.{AbsState}
use Rattle.node_keys.specs.declared.keys.NodeKey.{NodeKey}
use Rattle.node_keys.specs.Order.{node_cmp}
use Rattle.edge_rules.specs.declared.seeded.NodeForm.{NodeForm}
use Rattle.edge_rules.specs.declared.seeded.NodeForm.TheVariants.{State}
use Rattle.edge_rules.specs.Expansion.{Seeds, AreSeeds}
use Rattle.edge_laws.specs.Expansions.{AreSeedsAscending}
use Rattle.family_tables.proofs.Growing.{with_first, pushed_ascending}
use Rattle.family_tables.proofs.tests.seeds.add_own.Goals as goal

pub returns-clause-seeds : goal.returns-clause-seeds
returns-clause-seeds c =
    let xs = c.args.items.now.items in
    let few = subst (λ (ys : Seeds). length ys < 65536) c.deref.ensures.value (c.may_follow.ensures.room c.if-not-may_follow.false) in
    let word : c.args.key.pc < limit_of c.args.device = omega (arith, c.if-key-limit.false, c.limit.ensures) in
    subst (AreSeeds c.args.device false) (sym c.in_ok-push.ensures.items)
    (subst (λ (s : AbsState). AreSeeds c.args.device false (xs ++ (c.args.key, State s) ∷ [])) (sym (c.in_ok-held.ensures ∙ c.in_ok-state.ensures))
    (with_first c.args.device xs c.args.key c.requires.seeds few word c.requires.masks c.requires.closed c.requires.unpicked))

pub returns-clause-ascending : goal.returns-clause-ascending
returns-clause-ascending c =
    let above = subst (λ (ys : Seeds). (at : ℕ) (e : NodeKey × NodeForm) → slice_get ys at ≡ Some e → node_cmp e.0 c.args.key ≡ Less) c.deref.ensures.value
    (c.may_follow.ensures.below c.if-not-may_follow.false) in
    subst AreSeedsAscending (sym c.in_ok-push.ensures.items) (pushed_ascending c.args.items.now.items c.args.key (State c.in_ok-held.held) c.requires.ascending above)
