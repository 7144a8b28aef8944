use Rattle.std.proofs.Common.{ℕ, List, ◌∷◌, ◌≡◌, ◌∙◌, ap, subst}
use Rattle.std.specs.Prelude.{OnOk}
use Rattle.text_base.specs.Writing.{with_word}
use Rattle.cert_words.specs.Spelling.{tag_text}
use Rattle.cert_writing.proofs.Written.{spelled}
use Rattle.cert_writing.proofs.values.write_bits_and_range.Goals as goal

pub returns-in-Entry : goal.returns-in-Entry
returns-in-Entry c =
    let text = ap tag_text c.in-Entry.is ∙ ap (λ (xs : List ℕ). 101 ∷ xs) c.two_digits-r.ensures in
    let word = spelled c.args.value.now _ _ _ text c.both_digits-v.ensures c.both_digits-a.ensures in
    subst (λ (w : List ℕ). OnOk c.word-in-Entry.result (c.word-in-Entry.new.self ≡ with_word c.args.out.now w)) word c.word-in-Entry.ensures.written

pub returns-in-SpLo : goal.returns-in-SpLo
returns-in-SpLo c =
    let text = ap tag_text c.in-SpLo.is ∙ ap (λ (xs : List ℕ). 108 ∷ xs) c.two_digits-j.ensures in
    let word = spelled c.args.value.now _ _ _ text c.both_digits-v.ensures c.both_digits-a.ensures in
    subst (λ (w : List ℕ). OnOk c.word-in-SpLo.result (c.word-in-SpLo.new.self ≡ with_word c.args.out.now w)) word c.word-in-SpLo.ensures.written

pub returns-in-SpHi : goal.returns-in-SpHi
returns-in-SpHi c =
    let text = ap tag_text c.in-SpHi.is ∙ ap (λ (xs : List ℕ). 104 ∷ xs) c.four_digits-n.ensures in
    let word = spelled c.args.value.now _ _ _ text c.both_digits-v.ensures c.both_digits-a.ensures in
    subst (λ (w : List ℕ). OnOk c.word-in-SpHi.result (c.word-in-SpHi.new.self ≡ with_word c.args.out.now w)) word c.word-in-SpHi.ensures.written
