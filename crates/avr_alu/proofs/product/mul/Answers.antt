use Rattle.std.proofs.Common.{◌≡◌, ◌∙◌, ap₂, arith, rules, ◌<◌, ◌==◌, ℕ}
use Rattle.std.specs.Prelude.{nat_le}
use Rattle.avr_model.specs.Sreg.{with_carry_and_zero}
use Rattle.avr_alu.proofs.Flagging.{put_carry_and_zero}
use Rattle.avr_alu.proofs.product.mul.Goals as goal

pub returns-clause-value : goal.returns-clause-value
returns-clause-value c = search rules

pub returns-clause-flags : goal.returns-clause-flags
returns-clause-flags c =
    let small : c.args.s.0 < 256 = omega arith in
    let set : c.set-2.new.self.0 ≡ with_carry_and_zero (nat_le 32768 c.word-product.result) (c.if-is_doubled.r == 0) c.args.s.0 =
    (let e1 = c.set.ensures tt in
    let e2 = c.set-2.ensures tt in
    let done = put_carry_and_zero (nat_le 32768 c.word-product.result) (c.if-is_doubled.r == 0) c.args.s.0 small in
    cc) in
    set ∙ ap₂ (λ (p r : ℕ). with_carry_and_zero (nat_le 32768 p) (r == 0) c.args.s.0) c.word-product.ensures (returns-clause-value c)
