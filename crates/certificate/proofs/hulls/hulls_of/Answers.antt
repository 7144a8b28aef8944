use Rattle.std.proofs.Common.{arith}
use Rattle.certificate.proofs.PairHulls.{one_more, all_first}
use Rattle.certificate.proofs.hulls.hulls_of.Goals as goal

pub loop-n-preserved : goal.loop-n-preserved
loop-n-preserved c =
    one_more c.args.registers.now c.loop-n.hulls c.loop-n.n _ _ c.hull_of.result (omega arith) (omega (arith, c.loop-n.invariant.count)) c.hull_of.ensures c.loop-n.invariant

pub returns : goal.returns
returns c = all_first c.args.registers.now c.loop-n.hulls c.loop-n.n (omega arith) c.loop-n.invariant
