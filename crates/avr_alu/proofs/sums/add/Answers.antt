use Rattle.std.proofs.Common.{◌∙◌, arith}
use Rattle.avr_alu.proofs.SumFlags.{sum_flags}
use Rattle.avr_alu.proofs.sums.add.Goals as goal

pub returns-clause-flags : goal.returns-clause-flags
returns-clause-flags c =
    c.with_outcome-flags.ensures ∙ sum_flags c.args.a c.args.b _ c.args.carry c.args.s.0 (omega arith) (omega arith) (grind arith)
