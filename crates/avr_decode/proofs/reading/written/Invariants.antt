use Rattle.std.proofs.Common.{◌≤◌, length}
use Rattle.avr_model.specs.Image.{AreErased}
use Rattle.avr_decode.proofs.reading.written.Given as goal

-- the words behind are erased
abbrev pub invariant-loop-count : goal.invariant-loop-count
invariant-loop-count l = record {
  within : l.count ≤ length l.words;
  erased : AreErased l.words l.count (length l.words);
}

abbrev pub decreases-loop-count : goal.decreases-loop-count
decreases-loop-count l = l.count
