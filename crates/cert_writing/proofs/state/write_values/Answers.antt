use Rattle.cert_words.specs.Spelling.{value_word}
use Rattle.cert_writing.proofs.Written.{words_next}
use Rattle.cert_writing.proofs.state.write_values.Goals as goal

pub loop-value-preserved : goal.loop-value-preserved
loop-value-preserved c =
    words_next (value_word c.args.version) c.args.out.now c.loop-value.out c.write_value.new.out c.args.values.now c.loop-value.value-index c.value-item.result c.loop-value-test.true c.value-item.is c.loop-value.invariant c.in_ok-write_value.ensures
