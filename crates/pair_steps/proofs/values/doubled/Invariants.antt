use Rattle.std.proofs.Common.{◌≡◌, ℕ, ◌-◌, ◌<◌, ◌==◌, if◌then◌else◌}
use Rattle.bit_domain.specs.TriByte.{tri_at}
use Rattle.pair_steps.proofs.values.doubled.Given as goal

abbrev pub invariant-loop-k : goal.invariant-loop-k
invariant-loop-k l = (j : ℕ) → j < l.k → tri_at l.up j ≡ (if j == 0 then l.low else tri_at l.bits (j - 1))
