use Rattle.std.proofs.Common.{◌≡◌, length}
use Rattle.avr_model.specs.Devices.{word_digits}
use Rattle.assumption_files.specs.Reading.{numbers_in}
use Rattle.assumption_files.proofs.Numbers.{with_front}
use Rattle.assumption_files.proofs.reading.targets_of.Given as goal

abbrev pub invariant-loop-word : goal.invariant-loop-word
invariant-loop-word l = with_front l.numbers.items (numbers_in (word_digits l.fn.device) l.words) ≡ numbers_in (word_digits l.fn.device) l.initial.words

abbrev pub decreases-loop-word : goal.decreases-loop-word
decreases-loop-word l = length l.words
