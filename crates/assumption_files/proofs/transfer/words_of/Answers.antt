use Rattle.std.proofs.Common.{arith, ◌≡◌, ◌∙◌, ◌≤◌, ap, sym, length}
use Rattle.bit_domain.specs.Numbers.{numbers_of, pointer_bit}
use Rattle.assumption_files.specs.Targets.{most_targets, pointer_of}
use Rattle.assumption_files.proofs.Members.{no_bit, one_bit_more, stays_many, keeps_err, weight_is, weight_fits}
use Rattle.assumption_files.proofs.transfer.words_of.Goals as goal

pub loop-i-init : goal.loop-i-init
loop-i-init c = record {
  same = c.zero-words.ensures ∙ sym (no_bit (pointer_bit (pointer_of c.args.low.now c.args.high.now c.args.bank.now)));
  few = rw c.zero-words.ensures (omega arith);
}

pub with_bit-requires : goal.with_bit-requires
with_bit-requires c = weight_fits c.bytes_are_sets.ensures.numbers (pointer_bit (pointer_of c.args.low.now c.args.high.now c.args.bank.now)) c.loop-i.i c.loop-i.words (omega arith) c.loop-i.invariant.same

pub loop-i-preserved : goal.loop-i-preserved
loop-i-preserved c =
    let kept = c.in_ok-words.ensures in
    let next = one_bit_more (pointer_bit (pointer_of c.args.low.now c.args.high.now c.args.bank.now)) c.loop-i.i _ c.pointer_bit.result c.loop-i.words c.loop-i.invariant.same c.pointer_bit.ensures (weight_is c.loop-i.i (omega arith)) in
    record { same = kept.0 ∙ next; few = rw kept.0 kept.1 }

pub returns-in_err-words : goal.returns-in_err-words
returns-in_err-words c =
    let next = one_bit_more (pointer_bit (pointer_of c.args.low.now c.args.high.now c.args.bank.now)) c.loop-i.i _ c.pointer_bit.result c.loop-i.words c.loop-i.invariant.same c.pointer_bit.ensures (weight_is c.loop-i.i (omega arith)) in
    keeps_err c.from_residual.result _ c.from_residual.ensures.0 (stays_many (pointer_bit (pointer_of c.args.low.now c.args.high.now c.args.bank.now)) c.loop-i.i c.args.width _ c.loop-i-test.true next c.in_err-words.ensures)

pub returns : goal.returns
returns c =
    let last : c.loop-i.i ≡ c.args.width = omega arith in
    let same = c.loop-i.invariant.same ∙ ap (numbers_of (pointer_bit (pointer_of c.args.low.now c.args.high.now c.args.bank.now))) last in
    let few : length (numbers_of (pointer_bit (pointer_of c.args.low.now c.args.high.now c.args.bank.now)) c.args.width) ≤ most_targets = rw (← same) c.loop-i.invariant.few in
    (same, few)
