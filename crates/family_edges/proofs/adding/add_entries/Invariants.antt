use Rattle.std.proofs.Common.{◌≡◌, ◌++◌, map, take}
use Rattle.family_edges.specs.Next.{entry_edge}
use Rattle.family_edges.proofs.adding.add_entries.Given as goal

abbrev pub invariant-loop-at : goal.invariant-loop-at
invariant-loop-at l = l.edges ≡ l.fn.edges ++ map (entry_edge l.state) (take l.at l.ways)
