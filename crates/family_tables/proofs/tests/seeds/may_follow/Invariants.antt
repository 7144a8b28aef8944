use Rattle.std.proofs.Common.{◌≡◌, ℕ, ◌<◌, Some, slice_get}
use Rattle.std.specs.declared.cmp.Ordering.TheVariants.{Less}
use Rattle.node_keys.specs.declared.keys.NodeKey.{NodeKey}
use Rattle.node_keys.specs.Order.{node_cmp}
use Rattle.edge_rules.specs.declared.seeded.NodeForm.{NodeForm}
use Rattle.family_tables.proofs.tests.seeds.may_follow.Given as goal

abbrev pub invariant-loop-at : goal.invariant-loop-at
invariant-loop-at l = (j : ℕ) (e : NodeKey × NodeForm) → slice_get l.items j ≡ Some e → j < l.at → node_cmp e.0 l.key ≡ Less
