use Rattle.std.proofs.Common.{◌≡◌, ◌*◌, drop, take, length}
use Rattle.pair_words.specs.Reading.{intervals_at}
use Rattle.pair_words.proofs.Loops.{with_front}
use Rattle.pair_words.proofs.reading.intervals_behind.Given as goal

abbrev pub invariant-loop-n : goal.invariant-loop-n
invariant-loop-n l = record {
  same : with_front (take l.n l.intervals) (intervals_at (2 * l.n) (drop l.n l.hulls) l.letters) ≡ intervals_at 0 l.fn.hulls l.initial.letters;
  count : length l.intervals ≡ 16;
}
