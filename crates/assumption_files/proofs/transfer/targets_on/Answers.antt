use Rattle.std.proofs.Common.{arith, ◌≤◌, refl}
use Rattle.avr_model.specs.Devices.{limit_width}
use Rattle.bit_domain.specs.Numbers.{numbers_of, pointer_bit}
use Rattle.assumption_files.specs.Targets.{pointer_of}
use Rattle.assumption_files.proofs.Members.{stays_few, few_are_kept}
use Rattle.assumption_files.proofs.transfer.targets_on.Goals as goal

pub returns-clause-few : goal.returns-clause-few
returns-clause-few c =
    let f = pointer_bit (pointer_of c.args.low.now c.args.high.now c.args.bank.now) in
    let le : c.width.result ≤ limit_width c.args.device = omega (arith, c.width.ensures.exact) in (
      (λ ok. c.in_ok-targets.ensures.few.0 refl),
      (λ few. few_are_kept c.words_of.result (numbers_of f c.width.result) c.words_of.ensures (stays_few f c.width.result (limit_width c.args.device) le few)),
    )
