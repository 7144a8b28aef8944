use Rattle.std.proofs.Common.{◌∙◌}
use Rattle.local_reads.proofs.Enabled.{read_exactly}
use Rattle.local_reads.proofs.reads.enable_read.Goals as goal

pub returns-then-not-may : goal.returns-then-not-may
returns-then-not-may c = c.tri_of.ensures ∙ read_exactly c.args.may c.args.on c.if-not-may.true
