use Rattle.std.proofs.Common.{◌≡◌, ◌-◌, [], length}
use Rattle.cert_words.specs.Reading.{slot_in}
use Rattle.cert_words.specs.KeyReading.{words_from}
use Rattle.cert_words.proofs.state.slots_of.Given as goal

abbrev pub invariant-loop : goal.invariant-loop
invariant-loop l = record {
  same : words_from (slot_in l.form.device l.form.version l.root) l.slots (l.count - l.counter) l.words ≡ words_from (slot_in l.form.device l.form.version l.root) [] l.count l.initial.words;
  count : length l.slots ≡ l.counter;
}
