use Rattle.witness_search.proofs.Found.{short}
use Rattle.witness_search.proofs.One.{waypoints_are_one}
use Rattle.witness_search.proofs.laws.trials_are_due.Goals as goal

pub returns : goal.returns
returns c = record { one = waypoints_are_one c.filled_or_missing.ensures c.deepest_chains_are_one.ensures; short = short }
