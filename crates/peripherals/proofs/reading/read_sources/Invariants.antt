use Rattle.std.proofs.Common.{◌≡◌, length}
use Rattle.peripherals.specs.Spelling.{most_sources}
use Rattle.peripherals.specs.Reading.{sources_from, with_front}
use Rattle.peripherals.proofs.reading.read_sources.Given as goal

abbrev pub invariant-loop-source : goal.invariant-loop-source
invariant-loop-source l = with_front l.sources.items (sources_from l.device l.left l.reader.at l.reader.rest) ≡ sources_from l.device most_sources l.initial.reader.at l.initial.reader.rest

abbrev pub decreases-loop-source : goal.decreases-loop-source
decreases-loop-source l = length l.reader.rest
