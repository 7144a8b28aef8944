use Rattle.std.proofs.Common.{◌≡◌, drop}
use Rattle.text_base.specs.Memory.{is_listed}
use Rattle.text_base.proofs.memory.has_call.Given as goal

abbrev pub invariant-loop-listed : goal.invariant-loop-listed
invariant-loop-listed l = is_listed l.call l.calls ≡ is_listed l.call (drop l.listed-index l.calls)
