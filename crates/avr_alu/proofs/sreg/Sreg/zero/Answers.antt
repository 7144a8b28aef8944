use Rattle.std.proofs.Common.{◌∙◌}
use Rattle.avr_alu.proofs.BitTests.{whole_bit}
use Rattle.avr_alu.proofs.sreg.Sreg.zero.Goals as goal

pub returns : goal.returns
returns c = c.contains.ensures tt ∙ whole_bit c.args.self.0 1
