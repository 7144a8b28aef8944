use Rattle.std.proofs.Common.{rules}
use Rattle.node_keys.proofs.SameKeys.{inst_is, inst_tested}
use Rattle.node_keys.proofs.keys.InstKeyPartialEq.eq.Goals as goal

pub returns-then-self-other-2-clause-test : goal.returns-then-self-other-2-clause-test
returns-then-self-other-2-clause-test c = inst_tested c.args.self.now c.args.other.now _ (search (rules, inst_is))

pub returns-else-self-other-2-clause-test : goal.returns-else-self-other-2-clause-test
returns-else-self-other-2-clause-test c = inst_tested c.args.self.now c.args.other.now _ (search (rules, inst_is))
