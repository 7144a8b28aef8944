use Rattle.std.proofs.Common.{arith}
use Rattle.abs_state.specs.Ended.{is_bit_of}
use Rattle.abs_state.proofs.Ending.{all_ended}
use Rattle.abs_state.proofs.ended.intervals_ended.Goals as goal

pub returns : goal.returns
returns c = all_ended (is_bit_of c.args.written) c.args.intervals.now c.loop-n.left c.loop-n.n (omega arith) (omega arith) c.loop-n.invariant
