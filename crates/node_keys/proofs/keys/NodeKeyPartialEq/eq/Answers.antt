use Rattle.std.proofs.Common.{rules}
use Rattle.node_keys.proofs.SameKeys.{node_is, node_tested}
use Rattle.node_keys.proofs.keys.NodeKeyPartialEq.eq.Goals as goal

pub returns-then-eq-3-clause-test : goal.returns-then-eq-3-clause-test
returns-then-eq-3-clause-test c = node_tested c.args.self.now c.args.other.now _ (search (rules, node_is))

pub returns-else-eq-3-clause-test : goal.returns-else-eq-3-clause-test
returns-else-eq-3-clause-test c = node_tested c.args.self.now c.args.other.now _ (search (rules, node_is))
