use Rattle.std.proofs.Common.{ℕ, ◌<◌, ◌≤◌}
use Rattle.cert_writing.specs.Numbers.{IsAt}
use Rattle.cert_writing.proofs.lines.number_from.Given as goal

abbrev pub invariant-loop-j : goal.invariant-loop-j
invariant-loop-j l = (i : ℕ) → l.fn.from ≤ i → i < l.j → IsAt l.fn.insts l.fn.key i → ⊥
