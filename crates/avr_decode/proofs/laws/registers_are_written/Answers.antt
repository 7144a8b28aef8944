use Rattle.avr_decode.proofs.Effects.{registers_are_written}
use Rattle.avr_decode.proofs.laws.registers_are_written.Goals as goal

pub returns : goal.returns
returns c = registers_are_written
