use Rattle.state_pool.specs.Digest.{AreFree}
use Rattle.state_pool.proofs.shared.are_free.Given as goal

abbrev pub invariant-loop-d : goal.invariant-loop-d
invariant-loop-d l = AreFree l.slots l.at l.d
