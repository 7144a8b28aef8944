use Rattle.std.proofs.Common.{◌≡◌, take}
use Rattle.avr_model.specs.Devices.{word_digits}
use Rattle.text_base.specs.Writing.{with_words}
use Rattle.assumption_files.specs.Spelling.{number_words}
use Rattle.assumption_files.proofs.writing.write_targets.Given as goal

abbrev pub invariant-loop-word : goal.invariant-loop-word
invariant-loop-word l = l.out ≡ with_words l.initial.out (number_words (word_digits l.device) (take l.word-index l.words))
