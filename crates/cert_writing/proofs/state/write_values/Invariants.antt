use Rattle.std.proofs.Common.{◌≡◌, map, take}
use Rattle.text_base.specs.Writing.{with_words}
use Rattle.cert_words.specs.Spelling.{value_word}
use Rattle.cert_writing.proofs.state.write_values.Given as goal

abbrev pub invariant-loop-value : goal.invariant-loop-value
invariant-loop-value l = l.out ≡ with_words l.initial.out (map (value_word l.fn.version) (take l.value-index l.values))
