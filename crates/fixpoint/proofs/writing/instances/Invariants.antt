use Rattle.fixpoint.specs.Insts.{AreInstsBelow}
use Rattle.fixpoint.proofs.writing.instances.Given as goal

abbrev pub invariant-loop-i : goal.invariant-loop-i
invariant-loop-i l = AreInstsBelow l.graph l.ranks l.needs l.i l.insts.items
