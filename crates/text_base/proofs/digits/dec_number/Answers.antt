use Rattle.std.proofs.Common.{arith}
use Rattle.text_base.proofs.Numbers.{gone_past}
use Rattle.text_base.proofs.digits.dec_number.Goals as goal
use Rattle.text_base.proofs.digits.dec_number.Goals.{then-number-most-via-then-number-most, then-number-most-via-else-number-most+then-value-most}

pub returns-then-number-most : goal.returns-then-number-most
returns-then-number-most c =
    let past = gone_past c.loop-digit.number c.loop-digit.digit-index c.args.most c.args.digits.now (omega arith) c.loop-digit.invariant.0 in
    elim c.then-number-most.branch [
      | then-number-most-via-then-number-most w ↦ past (omega (arith, w.if-number-most))
      | then-number-most-via-else-number-most+then-value-most w ↦ past (omega (arith, w.if-number-most, w.if-value-most, c.from-value.ensures, c.value_of.ensures.value))
    ]
