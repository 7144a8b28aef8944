use Rattle.std.proofs.Common.{◌≡◌, drop}
use Rattle.text_base.specs.Memory.{limit_of}
use Rattle.text_base.proofs.memory.allowed.Given as goal

abbrev pub invariant-loop-short : goal.invariant-loop-short
invariant-loop-short l = limit_of l.call l.shorts ≡ limit_of l.call (drop l.short-index l.shorts)
