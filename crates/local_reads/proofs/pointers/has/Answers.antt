use Rattle.local_reads.proofs.Permitted.{has_is}
use Rattle.local_reads.proofs.pointers.has.Goals as goal

pub returns : goal.returns
returns c = has_is c.args.bits c.args.byte c.has.result c.has.ensures.0 c.has.ensures.1
