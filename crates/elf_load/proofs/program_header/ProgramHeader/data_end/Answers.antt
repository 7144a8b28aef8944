use Rattle.std.proofs.Common.{arith}
use Rattle.avr_model.proofs.AllLaws.{devices_are_alike}
use Rattle.elf_load.proofs.Growing.{room_small}
use Rattle.elf_load.proofs.program_header.ProgramHeader.data_end.Goals as goal

pub overflow_cast-result-then-end-last : goal.overflow_cast-result-then-end-last
overflow_cast-result-then-end-last c =
    let io = devices_are_alike.most_io c.args.device in
    let depth = devices_are_alike.most_depth c.args.device in
    let room = room_small c.args.device in
    omega (arith, io, depth, room, c.if-end-last.true, c.from-below.ensures, c.io_end.ensures, c.from.ensures, c.data_room.ensures)
