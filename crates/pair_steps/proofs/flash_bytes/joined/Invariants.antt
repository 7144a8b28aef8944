use Rattle.std.proofs.Common.{◌≤◌, ◌*◌}
use Rattle.abs_state.specs.PairBytes.{sets}
use Rattle.pair_rules.specs.Flash.{pair_permits}
use Rattle.pair_steps.proofs.Counting.{IsSoFar}
use Rattle.pair_steps.proofs.flash_bytes.joined.Given as goal

abbrev pub invariant-loop-z : goal.invariant-loop-z
invariant-loop-z l = record { so_far : IsSoFar l.flash (65536 * l.bank) (pair_permits (sets l.pair)) l.z l.count l.value; bounded : l.z ≤ 65536 }
