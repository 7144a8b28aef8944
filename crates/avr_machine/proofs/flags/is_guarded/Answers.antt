use Rattle.std.proofs.Common.{◌≡◌, ◌∙◌, ◌<◌, nat_le, false, sym, arith}
use Rattle.std.proofs.lemmas.Bool.Decides.{nat_tests}
use Rattle.avr_model.specs.Devices.{guarded_end}
use Rattle.avr_machine.proofs.Unheld.{none_protected}
use Rattle.avr_machine.proofs.flags.is_guarded.Goals as goal

pub returns-else-address-guarded_end : goal.returns-else-address-guarded_end
returns-else-address-guarded_end c =
    let above : guarded_end c.args.device < c.args.address = omega (arith, c.if-address-guarded_end.false, c.guarded_end.ensures) in
    let test : nat_le c.args.address c.guarded_end.result ≡ false = grind (arith, nat_tests, c.if-address-guarded_end.false) in
    test ∙ sym (none_protected c.args.device c.args.address above)
