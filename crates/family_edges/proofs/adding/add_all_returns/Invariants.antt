use Rattle.std.proofs.Common.{◌≡◌, ◌++◌, take}
use Rattle.family_edges.specs.Next.{all_returns, node_of}
use Rattle.family_edges.proofs.adding.add_all_returns.Given as goal

abbrev pub invariant-loop-at : goal.invariant-loop-at
invariant-loop-at g l = l.edges ≡ l.fn.edges ++ all_returns (g.S.Leavers.leavers l.source) (node_of l.start.key.now l.start.state.now) (take l.at l.ways)
