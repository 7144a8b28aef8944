use Rattle.std.proofs.Common.{arith}
use Rattle.vector_table.proofs.Masking.{common_coded}
use Rattle.vector_table.proofs.table.has_common.Goals as goal

pub returns : goal.returns
returns c = common_coded c.args.byte c.args.mask (omega arith) (omega arith)
