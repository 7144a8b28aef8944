use Rattle.std.proofs.Common.{arith, refl}
use Rattle.avr_model.proofs.AllLaws.{devices_are_alike}
use Rattle.avr_machine.proofs.Living.{none_live}
use Rattle.avr_machine.proofs.Remembering.{new_parts}
use Rattle.avr_machine.proofs.memory.Memory.new.Goals as goal

pub invariant_of-result : goal.invariant_of-result
invariant_of-result c = (let most = devices_are_alike.most_io c.args.device in omega (arith, most, c.io_end.ensures), let most = devices_are_alike.most_bytes c.args.device in omega (arith, most, c.size.ensures, c.from.ensures), refl)

pub returns : goal.returns
returns c =
    new_parts c.args.device _ c.from.result c.args.bytes.now _ c.io_end.ensures (omega (arith, c.size.ensures, c.from.ensures))
    (none_live c.from.result (let most = devices_are_alike.most_bytes c.args.device in omega (arith, most, c.size.ensures, c.from.ensures)))
