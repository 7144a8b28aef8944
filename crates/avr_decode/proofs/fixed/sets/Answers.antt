use Rattle.std.proofs.Common.{◌≡◌, nat_lt, false, ◌∙◌, sym, ap, subst, ◌/◌, ◌^◌, ◌<◌, eqb, bit_and, arith}
use Rattle.std.proofs.lemmas.Bool.Decides.{nat_tests}
use Rattle.avr_model.specs.Written.{written}
use Rattle.avr_decode.proofs.RegisterSets.{bit_of_set, none_beyond}
use Rattle.avr_decode.proofs.fixed.sets.Goals as goal

pub returns-then-register-lt64 : goal.returns-then-register-lt64
returns-then-register-lt64 c =
    ap (λ m. eqb (bit_and (m / 2 ^ c.args.register) 1) 1) c.writes-set.ensures ∙ bit_of_set (written c.args.instr.now) c.args.register

pub returns-else-register-lt64 : goal.returns-else-register-lt64
returns-else-register-lt64 c =
    let beyond : nat_lt c.args.register 64 ≡ false = grind (arith, nat_tests) in
    beyond ∙ sym (none_beyond (written c.args.instr.now) c.args.register (subst (λ m. m < 2 ^ 64) c.writes-set.ensures (omega arith)) (omega arith))
