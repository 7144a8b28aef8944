use Rattle.std.proofs.Common.{◌≡◌, ℕ, ◌≤◌, ◌<◌, true, false, get_or}
use Rattle.elf_load.proofs.taken.TakenBytes.is_free.Given as goal

-- the bytes so far are free
abbrev pub invariant-loop-z : goal.invariant-loop-z
invariant-loop-z l = (k : ℕ) → l.start ≤ k → k < l.z → get_or l.self k true ≡ false
