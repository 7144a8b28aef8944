use Rattle.instance_graph.proofs.composing.compose_acyclic.Goals as goal

pub unreachable-requires : goal.unreachable-requires
unreachable-requires c = absurd (c.requires.acyclic c.in-Err-Cycle.field-0-0 (rw c.in-Err-Cycle.field-0-is at c.in-Err-Cycle.ensures.err))
