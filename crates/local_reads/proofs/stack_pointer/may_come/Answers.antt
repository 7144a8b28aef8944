use Rattle.std.proofs.Common.{arith, sym, ◌∙◌}
use Rattle.local_reads.proofs.Coming.{one_comes, none_comes}
use Rattle.local_reads.proofs.stack_pointer.may_come.Goals as goal

pub returns-then-comes : goal.returns-then-comes
returns-then-comes c = one_comes _ _ _ c.loop-v.v (omega arith) (sym c.comes.ensures ∙ c.if-comes.true)

pub returns : goal.returns
returns c = none_comes _ _ _ (λ n least near. c.loop-v.invariant n least (omega arith))
