use Rattle.std.proofs.Common.{◌≡◌, ◌-◌, [], ◌∷◌, take, length}
use Rattle.cert_words.specs.Reading.{value_in}
use Rattle.cert_words.specs.KeyReading.{words_from}
use Rattle.cert_words.proofs.state.first_values.Given as goal

abbrev pub invariant-loop-r : goal.invariant-loop-r
invariant-loop-r l = record {
  same : words_from (value_in l.form.device l.form.version l.root) (take l.r l.registers) (32 - l.r) l.words ≡ words_from (value_in l.form.device l.form.version l.root) (l.fn.first ∷ []) 31 l.initial.words;
  count : length l.registers ≡ 34;
}
