use Rattle.std.proofs.Common.{◌≡◌, ℕ, true, cond, leb, ltb, length, get_or}
use Rattle.std.specs.Prelude.{◌&&◌}
use Rattle.elf_load.proofs.taken.TakenBytes.take.Given as goal

-- the bytes so far are taken
abbrev pub invariant-loop-z : goal.invariant-loop-z
invariant-loop-z l = record {
  count : length l.self-inside.flags.items ≡ length l.fn.self;
  flags : (k : ℕ) → get_or l.self-inside.flags.items k true ≡ cond (leb l.start k && ltb k l.z) true (get_or l.fn.self k true);
}
