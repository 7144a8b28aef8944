use Rattle.std.proofs.Common.{◌≡◌, take, length}
use Rattle.vector_table.proofs.assumption_list.Assumptions.same.Given as goal

-- the entries so far are equal
abbrev pub invariant-loop-entry : goal.invariant-loop-entry
invariant-loop-entry l = take (length l.yielded) l.self ≡ take (length l.yielded) l.other
