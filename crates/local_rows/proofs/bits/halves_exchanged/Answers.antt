use Rattle.std.proofs.Common.{arith}
use Rattle.local_rows.proofs.Halves.{exchanged}
use Rattle.local_rows.proofs.bits.halves_exchanged.Goals as goal

pub returns : goal.returns
returns c = λ i lt. exchanged c.args.byte i (omega arith) lt
