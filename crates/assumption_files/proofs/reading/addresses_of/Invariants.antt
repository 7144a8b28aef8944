use Rattle.std.proofs.Common.{◌≡◌, length}
use Rattle.assumption_files.specs.Reading.{numbers_in}
use Rattle.assumption_files.proofs.Numbers.{with_front}
use Rattle.assumption_files.proofs.reading.addresses_of.Given as goal

abbrev pub invariant-loop-word : goal.invariant-loop-word
invariant-loop-word l = with_front l.numbers.items (numbers_in 4 l.words) ≡ numbers_in 4 l.initial.words

abbrev pub decreases-loop-word : goal.decreases-loop-word
decreases-loop-word l = length l.words
