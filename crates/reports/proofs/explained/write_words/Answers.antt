use Rattle.assumption_files.specs.Spelling.{word_address_text}
use Rattle.reports.proofs.Lines.{word_next}
use Rattle.reports.proofs.explained.write_words.Goals as goal

pub loop-word-preserved : goal.loop-word-preserved
loop-word-preserved c =
    word_next (word_address_text c.args.device) c.args.out.now c.loop-word.out c.write_word_address.new.out c.args.words.now c.loop-word.word-index c.loop-word-test.true c.loop-word.invariant
    c.in_ok-write_word_address.ensures.written
