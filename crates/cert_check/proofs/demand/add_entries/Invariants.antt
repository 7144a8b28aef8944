use Rattle.std.proofs.Common.{◌≡◌, ◌++◌, take}
use Rattle.std.specs.List.{flat_map}
use Rattle.cert_check.specs.Demands.{entry_demand}
use Rattle.cert_check.proofs.demand.add_entries.Given as goal

abbrev pub invariant-loop-at : goal.invariant-loop-at
invariant-loop-at l = l.demands.items ≡ l.fn.demands.items ++ flat_map (entry_demand l.assumptions l.instances l.outer.inst l.outer.fall) (take l.at l.edges)
