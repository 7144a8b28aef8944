use Rattle.std.proofs.Common.{arith}
use Rattle.avr_model.proofs.AllLaws.{devices_are_alike}
use Rattle.elf_load.proofs.symbols.is_function.Goals as goal

pub overflow_mul-result : goal.overflow_mul-result
overflow_mul-result c = let most = devices_are_alike.most_limit c.args.device in omega (arith, most, c.limit.ensures)
