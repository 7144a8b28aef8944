use Rattle.std.proofs.Common.{◌≡◌, take}
use Rattle.std.specs.List.{flat_map}
use Rattle.line_reading.specs.Appending.{with_text}
use Rattle.reports.specs.Explained.{part_text}
use Rattle.reports.proofs.explained.write_parts.Given as goal

abbrev pub invariant-loop-at : goal.invariant-loop-at
invariant-loop-at l = l.out ≡ with_text l.initial.out (flat_map (part_text l.device l.names) (take l.at l.explanation.parts))
