use Rattle.std.proofs.Common.{◌≡◌, length}
use Rattle.peripherals.specs.Reading.{bytes_in}
use Rattle.peripherals.proofs.Bytes.{with_front}
use Rattle.peripherals.proofs.reading.bytes_of.Given as goal

abbrev pub invariant-loop-word : goal.invariant-loop-word
invariant-loop-word l = with_front l.bytes.items (bytes_in l.words) ≡ bytes_in l.initial.words

abbrev pub decreases-loop-word : goal.decreases-loop-word
decreases-loop-word l = length l.words
