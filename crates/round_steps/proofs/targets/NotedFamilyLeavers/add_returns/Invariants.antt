use Rattle.std.proofs.Common.{◌≡◌, ◌++◌, take}
use Rattle.std.specs.List.{flat_map}
use Rattle.family_edges.specs.Callers.{caller_node}
use Rattle.family_edges.specs.Next.{returns_by}
use Rattle.round_steps.specs.Targets.{noted_leaver}
use Rattle.round_steps.proofs.targets.NotedFamilyLeavers.add_returns.Given as goal

abbrev pub invariant-loop-at : goal.invariant-loop-at
invariant-loop-at l =
    l.edges ≡ l.fn.edges ++ returns_by (caller_node l.caller) l.caller.way (flat_map (noted_leaver l.self.table.now) (take l.at l.list))
