use Rattle.state_pool.proofs.AllLaws.{releases_undo, counts_follow}
use Rattle.state_pool.proofs.laws.uses_are_counted.Goals as goal

pub returns-clause-undone : goal.returns-clause-undone
returns-clause-undone c = releases_undo

pub returns-clause-counts : goal.returns-clause-counts
returns-clause-counts c = counts_follow
