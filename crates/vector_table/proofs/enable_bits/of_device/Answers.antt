use Rattle.vector_table.proofs.Enables as enables
use Rattle.vector_table.proofs.enable_bits.of_device.Goals as goal

pub returns : goal.returns
returns c = enables.of_device c.args.device c.args.bits c.last_vector.result c.last_vector.ensures.exact c.last_vector.ensures.most
