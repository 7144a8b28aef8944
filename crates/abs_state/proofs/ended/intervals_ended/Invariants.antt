use Rattle.abs_state.specs.Ended.{is_bit_of}
use Rattle.abs_state.proofs.Ending.{AreEnded}
use Rattle.abs_state.proofs.ended.intervals_ended.Given as goal

abbrev pub invariant-loop-n : goal.invariant-loop-n
invariant-loop-n l = AreEnded (is_bit_of l.written) l.intervals l.left l.n
