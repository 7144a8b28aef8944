use Rattle.std.proofs.Common.{◌≡◌, ◌+◌, map, take}
use Rattle.assumption_files.proofs.target_list.Targets.raised.Given as goal

abbrev pub invariant-loop-word : goal.invariant-loop-word
invariant-loop-word l = l.raised ≡ map (λ n. l.weight + n) (take l.word-index l.words)
