use Rattle.avr_machine.proofs.Living.{clear_copied}
use Rattle.avr_machine.proofs.memory.Memory.copy_from.Goals as goal

pub invariant_of-self : goal.invariant_of-self
invariant_of-self c =
    (c.other.invariant.0, c.other.invariant.1, clear_copied c.other.inside.live c.copy_first-2.new.to c.other.inside.floor c.other.inside.size c.min-self-inside.result c.other.invariant.2 c.copy_first-2.ensures.copied c.min-self-inside.ensures)
