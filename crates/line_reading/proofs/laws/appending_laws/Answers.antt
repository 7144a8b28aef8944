use Rattle.line_reading.proofs.Appending.{line_is_appended, line_is_part, part_of_more, part_behind}
use Rattle.line_reading.proofs.laws.appending_laws.Goals as goal

pub returns : goal.returns
returns c = record { line = line_is_appended c.spelling.ensures.writing; part = line_is_part c.spelling.ensures.writing; longer = part_of_more; behind = part_behind }
