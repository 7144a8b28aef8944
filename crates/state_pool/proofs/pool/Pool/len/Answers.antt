use Rattle.std.proofs.Common.{sym, ◌∙◌}
use Rattle.state_pool.proofs.Kept.{kept_many, distinct_uses, used_uses}
use Rattle.state_pool.proofs.pool.Pool.len.Goals as goal

pub returns-clause-count : goal.returns-clause-count
returns-clause-count c = c.len.ensures.len ∙ sym (kept_many c.self.inside.numbers c.self.inside.uses.entries c.args.self.now c.self.invariant c.self.view_is)

pub returns-clause-distinct : goal.returns-clause-distinct
returns-clause-distinct c = distinct_uses c.self.inside.numbers c.self.inside.uses.entries c.args.self.now c.self.invariant c.self.view_is

pub returns-clause-used : goal.returns-clause-used
returns-clause-used c = used_uses c.self.inside.numbers c.self.inside.uses.entries c.args.self.now c.self.invariant c.self.view_is
