use Rattle.std.proofs.Common.{◌≡◌, ◌≤◌, length}
use Rattle.bit_domain.specs.Numbers.{numbers_of, pointer_bit}
use Rattle.assumption_files.specs.Targets.{most_targets, pointer_of}
use Rattle.assumption_files.proofs.transfer.words_of.Given as goal

abbrev pub invariant-loop-i : goal.invariant-loop-i
invariant-loop-i l = record {
  same : l.words ≡ numbers_of (pointer_bit (pointer_of l.low l.high l.bank)) l.i;
  few : length l.words ≤ most_targets;
}
