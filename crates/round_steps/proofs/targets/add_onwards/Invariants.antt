use Rattle.std.proofs.Common.{◌≡◌, ◌++◌, take}
use Rattle.family_edges.specs.Callers.{leaver_of}
use Rattle.round_steps.specs.Targets.{onwards_by}
use Rattle.round_steps.proofs.targets.add_onwards.Given as goal

abbrev pub invariant-loop-at : goal.invariant-loop-at
invariant-loop-at l = l.edges ≡ l.fn.edges ++ onwards_by l.family.table.now l.inst (leaver_of l.leaver) (take l.at l.list)
