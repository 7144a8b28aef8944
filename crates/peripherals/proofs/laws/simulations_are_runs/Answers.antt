use Rattle.peripherals.proofs.Runs.{simulations_are_runs, simulations_are_bounded}
use Rattle.peripherals.proofs.laws.simulations_are_runs.Goals as goal

pub returns-clause-runs : goal.returns-clause-runs
returns-clause-runs c = simulations_are_runs

pub returns-clause-bounded : goal.returns-clause-bounded
returns-clause-bounded c = simulations_are_bounded
