use Rattle.std.proofs.Common.{arith, refl}
use Rattle.cert_words.specs.Reading.{slot_in}
use Rattle.cert_words.proofs.Loops.{word_more, no_word, words_end, one_longer}
use Rattle.cert_words.proofs.state.slots_of.Goals as goal

pub returns-in_default : goal.returns-in_default
returns-in_default c = no_word (slot_in c.args.form.device c.args.form.version c.args.root) c.loop.slots c.args.count c.loop.counter c.loop.words _ c.loop-test.true c.in_default.ensures c.loop.invariant.same

pub loop-preserved : goal.loop-preserved
loop-preserved c = record {
  same = word_more (slot_in c.args.form.device c.args.form.version c.args.root) c.loop.slots c.push.new.self c.args.count c.loop.counter c.loop.words c.slot_of.new.words c.in-Some.slot _ c.loop-test.true c.in-Some.ensures c.in_ok-push.ensures.ok c.loop.invariant.same;
  count = one_longer c.loop.slots c.push.new.self c.in-Some.slot c.loop.counter c.in_ok-push.ensures.ok c.loop.invariant.count;
}

pub returns : goal.returns
returns c = words_end (slot_in c.args.form.device c.args.form.version c.args.root) c.loop.slots c.loop.slots c.args.count c.loop.counter c.loop.words _ (omega arith) refl c.loop.invariant.same
