use Rattle.std.proofs.Common.{◌≡◌, ◌++◌, map}
use Rattle.family_edges.specs.Next.{local_edge}
use Rattle.family_edges.proofs.adding.add_moves.Given as goal

abbrev pub invariant-loop-node : goal.invariant-loop-node
invariant-loop-node l = l.edges ≡ l.fn.edges ++ map local_edge l.yielded
