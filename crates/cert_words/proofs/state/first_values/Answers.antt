use Rattle.std.proofs.Common.{arith, ap, sym, take, ◌≡◌, ◌∙◌}
use Rattle.std.proofs.lemmas.List.{take_more_set, length-set}
use Rattle.cert_words.specs.Reading.{value_in}
use Rattle.cert_words.proofs.Loops.{word_more, no_word, words_end}
use Rattle.cert_words.proofs.state.first_values.Goals as goal

pub returns-in_default : goal.returns-in_default
returns-in_default c = no_word (value_in c.args.form.device c.args.form.version c.args.root) (take c.loop-r.r c.loop-r.registers) 32 c.loop-r.r c.loop-r.words _ c.loop-r-test.true c.in_default.ensures c.loop-r.invariant.same

pub loop-r-preserved : goal.loop-r-preserved
loop-r-preserved c = record {
  same = word_more (value_in c.args.form.device c.args.form.version c.args.root) (take c.loop-r.r c.loop-r.registers) _ 32 c.loop-r.r c.loop-r.words c.next_value.new.words c.in-Some.value _ c.loop-r-test.true c.in-Some.ensures
      (take_more_set c.loop-r.registers c.loop-r.r c.in-Some.value (omega (arith, c.loop-r.invariant.count, c.loop-r-test.true))) c.loop-r.invariant.same;
  count = length-set c.loop-r.registers c.loop-r.r c.in-Some.value ∙ c.loop-r.invariant.count;
}

pub returns : goal.returns
returns c =
    let last : c.loop-r.r ≡ 32 = omega arith in
    words_end (value_in c.args.form.device c.args.form.version c.args.root) (take c.loop-r.r c.loop-r.registers) (take 32 c.loop-r.registers) 32 c.loop-r.r c.loop-r.words _ (omega arith) (ap (λ n. take n c.loop-r.registers) (sym last)) c.loop-r.invariant.same
