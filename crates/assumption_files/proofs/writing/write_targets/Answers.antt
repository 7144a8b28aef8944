use Rattle.basics.specs.Results.{on_err}
use Rattle.avr_model.specs.Devices.{word_digits}
use Rattle.assumption_files.proofs.Parts.{numbers_next, numbers_part}
use Rattle.assumption_files.proofs.writing.write_targets.Goals as goal

pub returns-in_err-write_word_address-clause-refused : goal.returns-in_err-write_word_address-clause-refused
returns-in_err-write_word_address-clause-refused c =
    on_err c.from_residual.result _
    (numbers_part (word_digits c.args.device) c.args.out.now c.loop-word.out c.write_word_address.new.out c.args.words.now c.loop-word.word-index c.loop-word.invariant c.in_err-write_word_address.ensures.refused)

pub loop-word-preserved : goal.loop-word-preserved
loop-word-preserved c =
    numbers_next (word_digits c.args.device) c.args.out.now c.loop-word.out c.write_word_address.new.out c.args.words.now c.loop-word.word-index 0 c.loop-word-test.true c.loop-word.invariant
    c.in_ok-write_word_address.ensures.written
