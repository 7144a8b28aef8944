use Rattle.std.proofs.Common.{◌≡◌, fold, take}
use Rattle.state_pool.specs.Digest.{mix_interval}
use Rattle.state_pool.proofs.shared.digest_intervals.Given as goal

abbrev pub invariant-loop-interval : goal.invariant-loop-interval
invariant-loop-interval l = l.digest ≡ fold mix_interval l.fn.start (take l.interval-index l.intervals)
