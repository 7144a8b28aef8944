use Rattle.std.proofs.Common.{arith}
use Rattle.avr_model.proofs.AllLaws.{devices_are_alike}
use Rattle.elf_load.proofs.segments.Segments.place.Goals as goal

pub overflow_add-start : goal.overflow_add-start
overflow_add-start c = let most = devices_are_alike.most_limit c.args.device in omega (arith, most, c.in_ok-check_place.ensures.place)
