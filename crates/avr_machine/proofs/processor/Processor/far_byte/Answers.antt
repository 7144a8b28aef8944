use Rattle.std.proofs.Common.{arith}
use Rattle.avr_model.proofs.AllLaws.{devices_are_alike}
use Rattle.avr_machine.proofs.processor.Processor.far_byte.Goals as goal

pub overflow_mul-words : goal.overflow_mul-words
overflow_mul-words c = let most = devices_are_alike.most_words c.device.result in omega (arith, most, c.words.ensures)
