use Rattle.std.proofs.Common.{◌∙◌, arith}
use Rattle.avr_alu.proofs.SumFlags.{difference_flags, kept_zero}
use Rattle.avr_alu.proofs.sums.sub.Goals as goal

pub returns-clause-flags : goal.returns-clause-flags
returns-clause-flags c =
    c.with_outcome-flags.ensures
    ∙ difference_flags c.args.a c.args.b _ c.args.borrow c.args.keep_zero _ c.args.s.0 (omega arith) (omega arith) (grind arith) (kept_zero _ _ _ _ c.zero.ensures)
