use Rattle.std.proofs.Common.{◌∙◌, sym, ap, ℕ, ◌-◌, arith}
use Rattle.avr_model.specs.Devices.{image_of}
use Rattle.avr_model.specs.Table.{length_of}
use Rattle.avr_model.specs.Sites.{onward, ijmp_from}
use Rattle.avr_decode.proofs.JumpTables.{in_words, ended, left, went_on}
use Rattle.avr_decode.proofs.tables.+ijmp_from.Goals as goal

pub returns-then-is_ijmp : goal.returns-then-is_ijmp
returns-then-is_ijmp fuel c =
    let p = image_of c.args.device c.args.words.now in
    sym (ended p c.args.most c.args.at c.in-Some.instr (omega arith) (sym c.instruction.ensures ∙ c.in-Some.is)
    (sym c.is_ijmp.ensures ∙ c.if-is_ijmp.true))

pub returns-in_default-onward : goal.returns-in_default-onward
returns-in_default-onward fuel c =
    let p = image_of c.args.device c.args.words.now in
    let size = c.length.ensures.value ∙ ap length_of c.word.ensures in
    let on = sym (c.onward.ensures ∙ ap (λ (n : ℕ). onward c.args.at n c.in-Some.instr) size) in
    sym (left p c.args.most c.args.at c.in-Some.instr (omega arith) (sym c.instruction.ensures ∙ c.in-Some.is)
    (sym c.is_ijmp.ensures ∙ c.if-is_ijmp.false) (on ∙ c.in_default-onward.is))

pub returns : goal.returns
returns fuel c =
    let p = image_of c.args.device c.args.words.now in
    let size = c.length.ensures.value ∙ ap length_of c.word.ensures in
    let on = sym (c.onward.ensures ∙ ap (λ (n : ℕ). onward c.args.at n c.in-Some.instr) size) in
    c.ijmp_from.ensures ∙ ap (ijmp_from p (c.args.most - 1)) c.wrap.ensures.exact
    ∙ sym (went_on p c.args.most c.args.at c.in-Some.instr c.in-Some-onward.next (omega arith) (sym c.instruction.ensures ∙ c.in-Some.is)
    (sym c.is_ijmp.ensures ∙ c.if-is_ijmp.false) (on ∙ c.in-Some-onward.is))

pub ijmp_from-requires : goal.ijmp_from-requires
ijmp_from-requires fuel c = (omega (arith, c.decreases, c.if-most-eq0.false), (in_words c.args.device _ c.wrap.ensures.inside, c.requires.flash))
