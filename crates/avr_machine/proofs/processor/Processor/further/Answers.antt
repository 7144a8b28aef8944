use Rattle.std.proofs.Common.{arith}
use Rattle.avr_model.proofs.AllLaws.{most_words}
use Rattle.avr_machine.proofs.processor.Processor.further.Goals as goal

pub overflow_add-self-inside : goal.overflow_add-self-inside
overflow_add-self-inside c = let most = most_words c.self.inside.device in omega (arith, most, c.self.invariant.0, c.requires, c.from.ensures)
