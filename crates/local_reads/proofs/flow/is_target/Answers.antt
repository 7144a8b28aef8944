use Rattle.std.proofs.Common.{◌∙◌, sym, ap, arith}
use Rattle.avr_model.specs.Assumptions.{lists}
use Rattle.avr_model.proofs.AllLaws.{devices_are_alike}
use Rattle.bit_domain.specs.Numbers.{PointerBits}
use Rattle.local_rules.specs.Flow.{words_on}
use Rattle.local_reads.proofs.Permitted.{three_bytes, z_is, none_above, first_decides, second_decides, last_decides}
use Rattle.local_reads.proofs.flow.is_target.Goals as goal

pub returns-then-word-words : goal.returns-then-word-words
returns-then-word-words c =
    let p = three_bytes c.pair.result.0 c.pair.result.1 c.args.bank in
    none_above c.args.device p c.args.word (omega arith)
    ∙ ap (λ (q : PointerBits). lists (words_on c.args.device q) c.args.word) (z_is c.args.state.now c.args.bank c.pair.result.0 c.pair.result.1 _ c.pair.ensures.low c.pair.ensures.high c.base_register.ensures)

pub returns-then-not-has : goal.returns-then-not-has
returns-then-not-has c =
    let p = three_bytes c.pair.result.0 c.pair.result.1 c.args.bank in
    sym c.if-not-has.true ∙ first_decides c.args.device p c.args.word c.has.result c.if-not-has.true c.has.ensures.1
    ∙ ap (λ (q : PointerBits). lists (words_on c.args.device q) c.args.word) (z_is c.args.state.now c.args.bank c.pair.result.0 c.pair.result.1 _ c.pair.ensures.low c.pair.ensures.high c.base_register.ensures)

pub returns-then-not-has-2 : goal.returns-then-not-has-2
returns-then-not-has-2 c =
    let p = three_bytes c.pair.result.0 c.pair.result.1 c.args.bank in
    sym c.if-not-has-2.true ∙ second_decides c.args.device p c.opened.result c.opened.ensures c.args.word c.has-2.result c.if-not-has-2.true c.has-2.ensures.1
    ∙ ap (λ (q : PointerBits). lists (words_on c.args.device q) c.args.word) (z_is c.args.state.now c.args.bank c.pair.result.0 c.pair.result.1 _ c.pair.ensures.low c.pair.ensures.high c.base_register.ensures)

pub overflow_cast-word-3 : goal.overflow_cast-word-3
overflow_cast-word-3 c = let most = devices_are_alike.most_words c.args.device in omega arith

pub returns : goal.returns
returns c =
    let p = three_bytes c.pair.result.0 c.pair.result.1 c.args.bank in
    last_decides c.args.device p c.opened.result c.opened-2.result c.opened.ensures c.opened-2.ensures c.args.word c.has-3.result (omega arith) (c.has.ensures.0 c.if-not-has.false)
    (c.has-2.ensures.0 c.if-not-has-2.false) c.has-3.ensures.0 c.has-3.ensures.1
    ∙ ap (λ (q : PointerBits). lists (words_on c.args.device q) c.args.word) (z_is c.args.state.now c.args.bank c.pair.result.0 c.pair.result.1 _ c.pair.ensures.low c.pair.ensures.high c.base_register.ensures)
