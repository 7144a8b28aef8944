use Rattle.std.proofs.Common.{◌∙◌, ◌/◌, arith}
use Rattle.std.proofs.lemmas.Nat.{or_lt}
use Rattle.avr_model.specs.Bitwise.{shift_of}
use Rattle.avr_alu.proofs.Shifts.{shifted, shift_flags}
use Rattle.avr_alu.proofs.bitwise.shift.Goals as goal

pub returns-clause-value : goal.returns-clause-value
returns-clause-value c = shifted c.args.a _ c.top.result (omega arith) c.top.ensures

pub returns-clause-flags : goal.returns-clause-flags
returns-clause-flags c =
    let e = shifted c.args.a _ c.top.result (omega arith) c.top.ensures in
    c.of_result.ensures ∙ shift_flags c.args.a _ (shift_of c.args.op c.args.a c.args.s.0) c.args.s.0 (or_lt 8 (c.args.a / 2) c.top.result (omega arith) (omega arith)) e
