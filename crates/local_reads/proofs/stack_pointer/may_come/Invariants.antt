use Rattle.std.proofs.Common.{◌≡◌, ℕ, ◌<◌, ◌≤◌, false}
use Rattle.local_reads.proofs.Coming.{comes}
use Rattle.local_reads.proofs.stack_pointer.may_come.Given as goal

-- no vector so far may come
abbrev pub invariant-loop-v : goal.invariant-loop-v
invariant-loop-v l = (n : ℕ) → 2 ≤ n → n < l.v → comes l.fn.device l.fn.assumptions l.fn.masks n ≡ false
