use Rattle.std.proofs.Common.{get_or, arith}
use Rattle.std.proofs.lemmas.List.Elements.{Contains-get_or}
use Rattle.chain_explain.proofs.way.words.Goals as goal

pub overflow_add-low : goal.overflow_add-low
overflow_add-low c =
    let lt = c.requires.inside (get_or c.args.numbers.now c.loop-number.number-index 0) (Contains-get_or c.args.numbers.now c.loop-number.number-index 0 c.loop-number-test.true) in
    omega (arith, lt, c.requires.few)

pub key-requires : goal.key-requires
key-requires c = c.requires.inside (get_or c.args.numbers.now c.loop-number.number-index 0) (Contains-get_or c.args.numbers.now c.loop-number.number-index 0 c.loop-number-test.true)
