use Rattle.elf_load.proofs.Growing.{static_within}
use Rattle.elf_load.proofs.load.Goals as goal

pub returns-in-Ok-clause-range : goal.returns-in-Ok-clause-range
returns-in-Ok-clause-range c = static_within c.args.device c.args.bytes.now _ c.in_ok-segments.ensures.loaded.static_data
