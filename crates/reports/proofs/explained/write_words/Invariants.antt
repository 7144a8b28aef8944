use Rattle.std.proofs.Common.{◌≡◌, map, take}
use Rattle.text_base.specs.Writing.{with_words}
use Rattle.assumption_files.specs.Spelling.{word_address_text}
use Rattle.reports.proofs.explained.write_words.Given as goal

abbrev pub invariant-loop-word : goal.invariant-loop-word
invariant-loop-word l = l.out ≡ with_words l.initial.out (map (word_address_text l.device) (take l.word-index l.words))
