use Rattle.std.proofs.Common.{◌≡◌, fold, take}
use Rattle.state_pool.specs.Digest.{mix_value}
use Rattle.state_pool.proofs.shared.digest_values.Given as goal

abbrev pub invariant-loop-value : goal.invariant-loop-value
invariant-loop-value l = l.digest ≡ fold mix_value l.fn.start (take l.value-index l.values)
