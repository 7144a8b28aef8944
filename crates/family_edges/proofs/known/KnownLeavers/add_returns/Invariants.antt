use Rattle.std.proofs.Common.{◌≡◌, ◌++◌, take}
use Rattle.family_edges.specs.Next.{leavers_in, returns_by}
use Rattle.family_edges.specs.Tasks.{task_of}
use Rattle.family_edges.specs.Callers.{caller_node}
use Rattle.family_edges.proofs.known.KnownLeavers.add_returns.Given as goal

abbrev pub invariant-loop-at : goal.invariant-loop-at
invariant-loop-at l =
    l.edges ≡ l.fn.edges ++ returns_by (caller_node l.caller) l.caller.way (leavers_in (task_of l.self.task.now) (take l.at l.self.nodes.now) l.caller.way.inst)
